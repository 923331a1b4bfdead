-- Rows that keep what they have, and what was given to them.
use Rattle.std.proofs.Common.{ℕ, Bool, true, false, List, ◌∙◌, All}
use Rattle.std.specs.Bool.{OnFalse}
use Rattle.std.proofs.lemmas.List.Elements.{All-weaker}
use Rattle.bit_table.specs.declared.table.BitTable.{BitTable}
use Rattle.bit_table.specs.Table.{KeepsBits, SameShape}
use Rattle.grammar.specs.declared.symbol.Symbol.{Symbol}
use Rattle.grammar.specs.declared.grammar.Grammar.{Grammar}
use Rattle.first_sets.specs.declared.sets.FirstSets.{FirstSets}
use Rattle.automaton.specs.declared.automaton.Entry.{Entry}
use Rattle.automaton.specs.declared.alternatives.Alternatives.{Alternatives}
use Rattle.automaton.specs.Items.{rest_of, fresh}
use Rattle.automaton.specs.Spreading.{IsSized, IsSpread, IsSpreadAt, IsSpreadFrom, AreSpread}

pub on_false_map : (b : Bool) {P Q : Type 0} → (P → Q) → OnFalse b P → OnFalse b Q
on_false_map true f h = tt
on_false_map false f h = f h

pub shape_trans : {a b c : BitTable} → SameShape a b → SameShape b c → SameShape a c
shape_trans h k = record { rows = k.rows ∙ h.rows; columns = k.columns ∙ h.columns }

pub sized_kept : {f : FirstSets} {a b : BitTable} → SameShape a b → IsSized f a → IsSized f b
sized_kept h s = record { rows = rw h.rows s.rows; columns = h.columns ∙ s.columns }

pub keeps_trans : {a b c : BitTable} → KeepsBits a b → KeepsBits b c → KeepsBits a c
keeps_trans h k r c on = k r c (h r c on)

pub spread_same : {f : FirstSets} {a b : BitTable} → KeepsBits a b → KeepsBits b a → (row : ℕ) (xs : List Symbol) → IsSpread f a row xs → IsSpread f b row xs
spread_same h back row xs spread n behind e =
    let g = spread n behind e in
    record { begun = λ t on. h n t (g.begun t on); passed = λ null t on. h n t (g.passed null t (back row t on)) }

pub all_at_same : (g : Grammar) (f : FirstSets) {a b : BitTable} → KeepsBits a b → KeepsBits b a → (xs : List Entry) → All (IsSpreadAt g f a) xs → All (IsSpreadAt g f b) xs
all_at_same g f {a} {b} h back xs all =
    All-weaker (IsSpreadAt g f a) (IsSpreadAt g f b) (λ (e : Entry) k. record { spread = spread_same h back e.tokens (rest_of g e.item) k.spread }) xs all

pub from_same : (g : Grammar) (f : FirstSets) {a b : BitTable} → KeepsBits a b → KeepsBits b a → (n q : ℕ) → IsSpreadFrom g f a n q → IsSpreadFrom g f b n q
from_same g f h back n q k = record { spread = spread_same h back n (rest_of g (fresh q)) k.spread }

pub all_from_same : (g : Grammar) (f : FirstSets) {a b : BitTable} → KeepsBits a b → KeepsBits b a → (n : ℕ) (qs : List ℕ) → All (IsSpreadFrom g f a n) qs → All (IsSpreadFrom g f b n) qs
all_from_same g f {a} {b} h back n qs all =
    All-weaker (IsSpreadFrom g f a n) (IsSpreadFrom g f b n) (λ q k. from_same g f h back n q k) qs all

pub all_same : (g : Grammar) (f : FirstSets) (s : Alternatives) {a b : BitTable} → KeepsBits a b → KeepsBits b a → (ns : List ℕ) → All (AreSpread g f s a) ns → All (AreSpread g f s b) ns
all_same g f s {a} {b} h back ns all =
    All-weaker (AreSpread g f s a) (AreSpread g f s b) (λ n k. record { spread = λ q listed. from_same g f h back n q (k.spread q listed) }) ns all
