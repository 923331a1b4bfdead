-- Rows of bits.
use Rattle.std.specs.Prelude.{◌≡◌, ℕ, ◌+◌, ◌*◌, ◌/◌, ◌%◌, ◌<◌}
use Rattle.bit_table.specs.Bits.{IsOn}
use Rattle.bit_table.specs.declared.table.BitTable.{BitTable}

-- the bit of a row and a column is set
pub record Has (t : BitTable) (row column : ℕ) : Type 0 where
  pub within : column < t.columns
  pub set : IsOn t.words.items (row * t.width + column / 64) (column % 64)

pub record SameShape (old new : BitTable) : Type 0 where
  pub rows : new.rows ≡ old.rows
  pub columns : new.columns ≡ old.columns

-- what is set stays set
abbrev pub KeepsBits : BitTable → BitTable → Type 0
KeepsBits old new = (r c : ℕ) → Has old r c → Has new r c
