-- What the check knows of a table that rows 1 and 2 let through, and what it has gathered.
use Rattle.std.specs.Prelude.{ℕ, ◌+◌, ◌*◌, ◌-◌, min, ◌≤◌, ◌≡◌, List, [], ◌∷◌, length, get_or, set}
use Rattle.lr1_base.specs.repr.Sizes.{record_limit}
use Rattle.table.specs.Words.{word_at, records, state_area, production_area, loose, Area}
use Rattle.table_check.specs.Marks.{Held, Lengths}
use Rattle.table_check.specs.declared.areas.Areas.{Areas}

abbrev pub area : ℕ → ℕ → Area
area from past = record { from = from; past = past }

-- the counts, the number of records and the areas are the table's, and within its size
pub record AreasOf (t : List ℕ) (a : Areas) : Type 0 where
  pub words : length t ≡ a.records * 4
  pub records : a.records ≡ records t
  pub nonterminals : a.counts.nonterminals ≡ word_at t 0 0
  pub terminals : a.counts.terminals ≡ word_at t 0 1
  pub states : a.counts.states ≡ word_at t 0 2
  pub productions : a.counts.productions ≡ word_at t 0 3
  pub states_at : a.states_at ≡ state_area t
  pub productions_at : a.productions_at ≡ production_area t
  pub loose_at : a.loose_at ≡ loose t
  pub states_is : a.states_at ≡ 1 + a.counts.nonterminals
  pub productions_is : a.productions_at ≡ a.states_at + a.counts.states
  pub loose_is : a.loose_at ≡ a.productions_at + a.counts.productions
  pub few : a.records ≤ record_limit
  pub room : a.loose_at ≤ a.records
  pub few_productions : a.counts.productions ≤ 128

-- one more for each record of a list, as far as two; `at` is the first record that is counted
unfoldable pub bump : ℕ → List ℕ → List ℕ → List ℕ
bump at hs [] = hs
bump at hs (r ∷ rs) = bump at (set hs (r - at) (min 2 (get_or hs (r - at) 0 + 1))) rs

-- what is gathered of the productions before the records are looked at
pub record Known (t : List ℕ) (a : Areas) (hs ls : List ℕ) : Type 0 where
  pub areas : AreasOf t a
  pub held : Held t hs
  pub lengths : Lengths t ls
  pub held_long : length hs ≡ 128
  pub lengths_long : length ls ≡ 128
