-- FIRST as the textbook has it (Aho, Sethi, Ullman; docs/RULES.md, "FIRST"), from derivations alone.
use Rattle.std.specs.Prelude.{ℕ, ◌≤◌, ◌<◌, ◌≡◌, ◌⊎◌, ◌↔◌, true, false, List, [], ◌∷◌}
use Rattle.lr1_base.specs.repr.Meaning.{Symbol, terminal, Table}
use Rattle.lr1_base.specs.lookahead.Tokens.{has}
use Rattle.first.specs.declared.Answer.{Answer}
use Rattle.first.specs.Derives.{Derives}

-- the terminals that begin what the list derives, and whether it derives the empty list
pub record IsFirst (T : Table) (xs : List Symbol) (a : Answer) : Type 0 where
  pub begins : (k : ℕ) → k < T.terminals → (has a.tokens.0 k ≡ true) ↔ ((ys : List Symbol) × Derives T.productions xs (terminal k ∷ ys))
  pub vanishes : (a.nullable ≡ true) ↔ Derives T.productions xs []
  pub only : (k : ℕ) → T.terminals ≤ k → has a.tokens.0 k ≡ false

-- and with a lookahead for what follows the list
pub record IsFirst1 (T : Table) (xs : List Symbol) (ahead tokens : ℕ) : Type 0 where
  pub begins : (k : ℕ) → (has tokens k ≡ true)
      ↔ (((k < T.terminals) × ((ys : List Symbol) × Derives T.productions xs (terminal k ∷ ys))) ⊎ (Derives T.productions xs [] × (has ahead k ≡ true)))
