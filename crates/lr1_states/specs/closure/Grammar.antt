-- The grammar as building states holds it: packed productions, the number of terminals, FIRST's sets.
use Rattle.std.specs.Prelude.{◌≡◌, ℕ, List, length}
use Rattle.lr1_base.specs.repr.Meaning.{Table, TableFits}
use Rattle.lr1_base.specs.repr.Packed.{Packed, productions_in}
use Rattle.first.specs.First.{sets_of_first}

-- the words and numbers are those of a table T
pub record OfTable (T : Table) (g : List ℕ) (productions terminals : ℕ) (sets : List ℕ) : Type 0 where
  pub fits : TableFits T
  pub packed : Packed g productions
  pub same : productions_in g productions ≡ T.productions
  pub many : productions ≡ length T.productions
  pub tokens : terminals ≡ T.terminals
  pub firsts : sets ≡ sets_of_first T.terminals T.productions

-- those of some table
abbrev pub Held : List ℕ → ℕ → ℕ → List ℕ → Type 0
Held g productions terminals sets = (T : Table) × OfTable T g productions terminals sets
