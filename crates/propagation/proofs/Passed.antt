-- What came along edges, and where nothing new does.
use Rattle.std.proofs.Common.{◌≡◌, ℕ, ◌⊎◌, inl, inr, List, Bool, true, false, refl, All}
use Rattle.std.specs.Prelude.{Contains, ◌↔◌}
use Rattle.std.proofs.lemmas.List.Elements.{All-contains}
use Rattle.std.specs.Bool.{OnFalse}
use Rattle.bit_table.specs.Table.{Has, KeepsBits}
use Rattle.bit_table.specs.declared.table.BitTable.{BitTable}
use Rattle.propagation.specs.declared.passing.Edge.{Edge}
use Rattle.propagation.specs.Edges.{Reaches, here, along, ComesAlong, IsSound, IsClosed}

-- the edge passes on nothing new
pub record Passes (table : BitTable) (e : Edge) : Type 0 where
  pub passes : (column : ℕ) → Has table e.from column → Has table e.to column

pub started : (start : BitTable) (edges : List Edge) → IsSound start edges start
started start edges row column h = record { start = row; had = h; way = here row }

-- a row with what another has along an edge
pub passed_sound : (start old new : BitTable) (edges : List Edge) (e : Edge) → Contains edges e → IsSound start edges old
    → ((r c : ℕ) → Has new r c → Has old r c ⊎ ((r ≡ e.to) × Has old e.from c)) → IsSound start edges new
passed_sound start old new edges e in_edges sound only row column h = elim (only row column h) [
  | inl k ↦ sound row column k
  | inr k ↦ let from = sound e.from column k.1 in rw k.0 (record { start = from.start; had = from.had; way = along from.start e in_edges from.way })
]

pub all_closed : (edges : List Edge) (table : BitTable) → All (Passes table) edges → IsClosed edges table
all_closed edges table all e in_edges column h = (All-contains (Passes table) edges e all in_edges).passes column h

-- where no edge passes on anything new, a row has all that comes along
reached : (edges : List Edge) (table : BitTable) → IsClosed edges table → {start row : ℕ} → Reaches edges start row → (column : ℕ) → Has table start column → Has table row column
reached edges table closed (here row) column h = h
reached edges table closed (along start e in_edges way) column h = closed e in_edges column (reached edges table closed way column h)

pub exact_of : (start table : BitTable) (edges : List Edge) → KeepsBits start table → IsSound start edges table → IsClosed edges table
    → (row column : ℕ) → Has table row column ↔ ComesAlong start edges row column
exact_of start table edges keeps sound closed row column =
    (sound row column, λ (w : ComesAlong start edges row column). reached edges table closed w.way column (keeps w.start column w.had))

pub on_false : (b : Bool) {P : Type 0} → (b ≡ false → P) → OnFalse b P
on_false true f = tt
on_false false f = f refl
