-- Tokens that spread over the rows of a closure: a row for each nonterminal, and one for each item
-- of the kernel.
use Rattle.std.specs.Prelude.{ℕ, ◌≡◌, ◌≤◌, ◌+◌, List, ◌∷◌, Some, vec_len, Contains}
use Rattle.bit_table.specs.Table.{Has}
use Rattle.bit_table.specs.declared.table.BitTable.{BitTable}
use Rattle.grammar.specs.declared.symbol.Symbol.{Symbol}
use Rattle.grammar.specs.declared.symbol.Symbol.TheVariants.{Nonterminal}
use Rattle.grammar.specs.declared.grammar.Grammar.{Grammar}
use Rattle.first_sets.specs.declared.sets.FirstSets.{FirstSets}
use Rattle.first_sets.specs.Sets.{AreFirstSets, AllNull, InFirst}
use Rattle.automaton.specs.declared.automaton.Entry.{Entry}
use Rattle.automaton.specs.declared.alternatives.Alternatives.{Alternatives}
use Rattle.automaton.specs.Alternatives.{alternatives_of}
use Rattle.automaton.specs.Items.{rest_of, fresh}
use Rattle.automaton.specs.Reach.{leading_of}

-- the sets are FIRST of the grammar
pub record IsFirstOf (g : Grammar) (s : FirstSets) : Type 0 where
  pub exact : AreFirstSets g.productions.items s
  pub terminals : s.sets.columns ≡ vec_len g.terminals
  pub nonterminals : vec_len s.nullable ≡ vec_len g.nonterminals

-- a row for each nonterminal, and a column for each token
pub record IsSized (f : FirstSets) (t : BitTable) : Type 0 where
  pub rows : vec_len f.nullable ≤ t.rows
  pub columns : t.columns ≡ f.sets.columns + 1

-- the nonterminal's row has what an item with these symbols behind it, and the tokens of the item's
-- row, give it
pub record Gives (f : FirstSets) (t : BitTable) (row n : ℕ) (behind : List Symbol) : Type 0 where
  pub begun : (a : ℕ) → InFirst f behind a → Has t n a
  pub passed : AllNull f behind → (a : ℕ) → Has t row a → Has t n a

-- whatever nonterminal is behind the dot
abbrev pub IsSpread : FirstSets → BitTable → ℕ → List Symbol → Type 0
IsSpread f t row symbols =
    (n : ℕ) (behind : List Symbol) → symbols ≡ Nonterminal n ∷ behind → Gives f t row n behind

-- of an entry, of one production of a nonterminal, and of all its productions
pub record IsSpreadAt (g : Grammar) (f : FirstSets) (t : BitTable) (e : Entry) : Type 0 where
  pub spread : IsSpread f t e.tokens (rest_of g e.item)

pub record IsSpreadFrom (g : Grammar) (f : FirstSets) (t : BitTable) (n q : ℕ) : Type 0 where
  pub spread : IsSpread f t n (rest_of g (fresh q))

pub record AreSpread (g : Grammar) (f : FirstSets) (a : Alternatives) (t : BitTable)
    (n : ℕ) : Type 0 where
  pub spread : (q : ℕ) → Contains (alternatives_of a n) q → IsSpreadFrom g f t n q

-- the nonterminal stands behind the dot of an item of the kernel
pub record IsBehindDot (g : Grammar) (kernel : List Entry) (n : ℕ) : Type 0 where
  pub entry : Entry
  pub listed : Contains kernel entry
  pub leads : leading_of (rest_of g entry.item) ≡ Some n
