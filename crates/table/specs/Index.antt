-- What reading an accepted table gives. An index into a chain is 0, or a record that is reached as what the chain holds.
use Rattle.std.specs.Prelude.{ℕ, ◌<◌, true, ◌≡◌, List, ◌∷◌, length}
use Rattle.lr1_base.specs.repr.Sizes.{record_limit}
use Rattle.lr1_base.specs.repr.Meaning.{Table, ItemFits, TableFits}
use Rattle.lr1_base.specs.repr.Listed.{symbol_of_kind, symbol_is_fit}
use Rattle.table.specs.Decoded.{meaning, items_from, edges_from, productions_from}
use Rattle.table.specs.Refusals.{as_item, as_edge, is_production}

-- the counts of record 0
pub record CountsOf (T : Table) (n t s p : ℕ) : Type 0 where
  pub nonterminals : n ≡ length T.nonterminals
  pub terminals : t ≡ T.terminals
  pub states : s ≡ length T.states
  pub productions : p ≡ length T.productions
  pub fits : TableFits T

pub record ItemIndex (t : List ℕ) (x : ℕ) : Type 0 where
  pub below : x < record_limit
  pub reached : (x ≡ 0 → ⊥) → as_item t x ≡ true

pub record EdgeIndex (t : List ℕ) (x : ℕ) : Type 0 where
  pub below : x < record_limit
  pub reached : (x ≡ 0 → ⊥) → as_edge t x ≡ true

pub record ProductionHead (t : List ℕ) (x : ℕ) : Type 0 where
  pub below : x < record_limit
  pub inside : (x ≡ 0 → ⊥) → is_production t x ≡ true

-- the record at an index, and the chain after it
pub record ItemRead (t : List ℕ) (at next production index : ℕ) : Type 0 where
  pub list : items_from t at ≡ record { production = production; index = index } ∷ items_from t next
  pub on : ItemIndex t next
  pub later : (next ≡ 0 → ⊥) → at < next
  pub fits : ItemFits (meaning t) (record { production = production; index = index })

pub record EdgeRead (t : List ℕ) (at next kind number target : ℕ) : Type 0 where
  pub list : edges_from t at ≡ record { symbol = symbol_of_kind kind number; target = target } ∷ edges_from t next
  pub on : EdgeIndex t next
  pub later : (next ≡ 0 → ⊥) → at < next
  pub symbol : symbol_is_fit (length (meaning t).nonterminals) (meaning t).terminals kind number ≡ true
  pub inside : target < length (meaning t).states

pub record ProductionRead (t : List ℕ) (at next production : ℕ) : Type 0 where
  pub list : productions_from t at ≡ production ∷ productions_from t next
  pub on : ProductionHead t next
  pub later : (next ≡ 0 → ⊥) → at < next
  pub fits : production < length (meaning t).productions
