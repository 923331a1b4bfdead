-- A start production for a grammar (docs/YACC.md, "The start production"): where the start nonterminal has more than one production or stands in a right side, one nonterminal and one production are added behind all others. No number moves, and only a lack of numbers (2) or of room (17) refuses.
use Rattle.std.specs.Prelude.{ℕ, ◌/◌, ◌<◌, Bool, true, false, not, ◌||◌, ◌≡◌, ◌⊎◌, List, [], ◌∷◌, ◌++◌, length, get_or, eqb, leb}
use Rattle.lr1_base.specs.words.Lent.{in_front}
use Rattle.lr1_base.specs.repr.Reply.{Reply, answered, refused}
use Rattle.lr1_base.specs.declared.repr.ProductionIndex.{ProductionIndex}
use Rattle.lr1_base.specs.repr.Sizes.{nonterminal_limit, production_limit}
use Rattle.lr1_base.specs.repr.Lists.{below, keep, some?}
use Rattle.lr1_base.specs.repr.Meaning.{nonterminal, is_same_symbol, Production, Table, no_state, production_at}
use Rattle.table.specs.Checked.{Accepted}
use Rattle.table.specs.Decoded.{meaning}
use Rattle.table.specs.Refusals.{check_of}
use Rattle.table.specs.Index.{CountsOf}
use Rattle.table_rewrite.specs.spelling.Spelled.{owns, records_of, spell}
use Rattle.table_rewrite.specs.grammar_records.Target.{PackedAs}
use Rattle.table_rewrite.specs.declared.start_production.Started.{Started}

-- does nonterminal n stand in a right side
unfoldable pub uses : ℕ → Production → Bool
uses n p = some? (is_same_symbol (nonterminal n)) p.symbols

unfoldable pub stands_in : Table → ℕ → Bool
stands_in T n = some? (uses n) T.productions

-- its productions, ascending
unfoldable pub owned_by : Table → ℕ → List ℕ
owned_by T n = keep (owns T n) (below (length T.productions))

-- is a production wanted that leads to it
unfoldable pub is_start_needed : Table → ℕ → Bool
is_start_needed T n = not (eqb (length (owned_by T n)) 1) || stands_in T n

-- that production, behind all others, with a nonterminal of its own
abbrev pub start_production : Table → ℕ → Production
start_production T n = record { nonterminal = length T.nonterminals; symbols = nonterminal n ∷ []; start = 0; end = 0 }

unfoldable pub augmented : Table → ℕ → Table
augmented T n = record {
  terminals = T.terminals;
  nonterminals = T.nonterminals ++ (length T.productions ∷ []) ∷ [];
  productions = T.productions ++ start_production T n ∷ [];
  states = T.states;
}

-- 2: no number is left for it
unfoldable pub full : Table → Bool
full T = eqb (length T.nonterminals) nonterminal_limit || eqb (length T.productions) production_limit

-- records and start production
abbrev pub started_as : ℕ → ProductionIndex → Reply Started
started_as n p = answered (record { records = n; production = p })

-- the answer, and the output's words after the call
pub record Outcome : Type 0 where
  pub answer : Reply Started
  pub out : List ℕ

-- the table that is written, at the front of the output, and its start production; 17 without room: a part of a record is no room
unfoldable pub started_in : Table → ℕ → List ℕ → Outcome
started_in U p out = elim (leb (records_of U) (length out / 4)) [
  | true ↦ record { answer = started_as (records_of U) (record { 0 = p }); out = in_front (spell U) out }
  | false ↦ record { answer = refused 17 0; out = out }
]

unfoldable pub started_of : Table → ℕ → List ℕ → Outcome
started_of T n out = elim (is_start_needed T n) [
  | false ↦ started_in T (get_or (owned_by T n) 0 0) out
  | true ↦ elim (full T) [
    | true ↦ record { answer = refused 2 0; out = out }
    | false ↦ started_in (augmented T n) (length T.productions) out
  ]
]

-- a grammar alone, as reading a text gives it: one state without items and edges; n is one of its nonterminals
pub record Startable (T : Table) (n : ℕ) : Type 0 where
  pub alone : T.states ≡ no_state ∷ []
  pub inside : n < length T.nonterminals

-- a start production as the book has it: its nonterminal has no other and stands in no right side
pub record StartOf (U : Table) (p : ℕ) : Type 0 where
  pub inside : p < length U.productions
  pub only : owned_by U (production_at U p).nonterminal ≡ p ∷ []
  pub unused : stands_in U (production_at U p).nonterminal ≡ false

-- what is written of T's nonterminal n: a table U, whose start production is p. Its words are accepted, mean U and are their own spelling; no number moved
pub record Written (T : Table) (n r p : ℕ) (out ws : List ℕ) : Type 0 where
  pub U : Table
  pub words : ws ≡ in_front (spell U) out
  pub many : r ≡ records_of U
  pub accepted : check_of (spell U) ≡ Accepted
  pub means : meaning (spell U) ≡ U
  pub again : spell (meaning (spell U)) ≡ spell U
  pub start : StartOf U p
  pub leads : ((production_at U p).nonterminal ≡ n) ⊎ (production_at U p ≡ start_production T n)
  pub terminals : U.terminals ≡ T.terminals
  pub productions : (k : ℕ) → k < length T.productions → production_at U k ≡ production_at T k
  pub nonterminals : (k : ℕ) → k < length T.nonterminals → get_or U.nonterminals k [] ≡ get_or T.nonterminals k []
  pub states : U.states ≡ T.states

-- in code: a grammar alone, by its counts and packed productions
pub record GrammarOf (U : Table) (n t s p : ℕ) (grammar : List ℕ) : Type 0 where
  pub alone : U.states ≡ no_state ∷ []
  pub counts : CountsOf U n t s p
  pub packed : PackedAs U grammar p
