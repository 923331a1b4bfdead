-- The table that is to be written, and what its grammar is written from: its counts and packed productions.
use Rattle.std.specs.Prelude.{ℕ, ◌-◌, ◌<◌, ◌≡◌, List, length, get_or, eqb}
use Rattle.std.proofs.Math.Option.{Option, none, some}
use Rattle.lr1_base.specs.repr.Lists.{up_from, first?}
use Rattle.lr1_base.specs.repr.Meaning.{Production, Table, no_production}
use Rattle.lr1_base.specs.repr.Packed.{Packed, productions_in}
use Rattle.table_rewrite.specs.spelling.Grown.{Room}

-- so many nonterminals, terminals and states are U's, and there is room for U
pub record Target (U : Table) (n t s : ℕ) (g : List ℕ) : Type 0 where
  pub nonterminals : n ≡ length U.nonterminals
  pub terminals : t ≡ U.terminals
  pub small : t < 65536
  pub states : s ≡ length U.states
  pub room : Room U g

-- the packed productions are U's
pub record PackedAs (U : Table) (grammar : List ℕ) (productions : ℕ) : Type 0 where
  pub packed : Packed grammar productions
  pub same : productions_in grammar productions ≡ U.productions

-- the lowest production from p on whose nonterminal is n, or how many productions there are
unfoldable pub number_or : ℕ → Option ℕ → ℕ
number_or many none = many
number_or many (some p) = p

unfoldable pub owned_from : List Production → ℕ → ℕ → ℕ
owned_from ps n p = number_or (length ps) (first? (λ q. eqb (get_or ps q no_production).nonterminal n) (up_from p (length ps - p)))
