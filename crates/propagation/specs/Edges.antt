-- Bits that come along edges.
use Rattle.std.specs.Prelude.{ℕ, ◌<◌, List, Contains}
use Rattle.bit_table.specs.Table.{Has}
use Rattle.bit_table.specs.declared.table.BitTable.{BitTable}
use Rattle.propagation.specs.declared.passing.Edge.{Edge}

pub record EdgeFits (rows : ℕ) (e : Edge) : Type 0 where
  pub from : e.from < rows
  pub to : e.to < rows

-- the edges lead from one row to the other, in any number of steps
pub data Reaches (edges : List Edge) : ℕ → ℕ → Type 0 where
  here : (row : ℕ) → Reaches edges row row
  along : (start : ℕ) (e : Edge) → Contains edges e → Reaches edges start e.from
      → Reaches edges start e.to

-- some row had the bit from which the edges lead to this one
pub record ComesAlong (table : BitTable) (edges : List Edge) (row column : ℕ) : Type 0 where
  pub start : ℕ
  pub had : Has table start column
  pub way : Reaches edges start row

-- each bit came along edges from the table at the start
abbrev pub IsSound : BitTable → List Edge → BitTable → Type 0
IsSound start edges table = (row column : ℕ) → Has table row column
    → ComesAlong start edges row column

-- no edge passes on anything new
abbrev pub IsClosed : List Edge → BitTable → Type 0
IsClosed edges table = (e : Edge) → Contains edges e → (column : ℕ) → Has table e.from column
    → Has table e.to column
