-- Every conflict in the list is one that `classify` does not refuse by 1 to 11 on the table that is written.
use mathlib.Core.Path.{◌≡◌, refl, ◌∙◌}
use mathlib.Core.Bool.{true, false}
use mathlib.Core.List.{List}
use Prim.Native.Nat.{ℕ, ◌≤◌, ◌<◌}
use native.Mathlib.Omega.{arith}
use lib.Dec.{eqb}
use lib.ListN.{length}
use borrow.Author.Tests.{eqb-true, ne_eqb, lt-ltb, le-leb}
use Rattle.lr1_base.specs.repr.Meaning.{Table}
use Rattle.lr1_base.specs.repr.Sizes.{classify_scratch, example_room}
use Rattle.lr1_base.proofs.repr.Lists.{cases}
use Rattle.table.specs.Checked.{Accepted}
use Rattle.table.specs.Decoded.{meaning}
use Rattle.table.specs.Refusals.{check_of}
use Rattle.conflict_sides.specs.declared.conflict.Conflict.{Conflict}
use Rattle.conflict_sides.specs.conflict.Sides.{gather}
use Rattle.conflict_sides.specs.conflict.Outcome.{operand_fits, place_is_fit, conflict_fits, shifts_end, gathered_outcome, classified_in, classify_in_with, classify_by_with, classify_of, classify_with}
use Rattle.lr1_states.specs.canonical.Canonical.{Clash}
use Rattle.lr1_tables.specs.Canonical.{InTable, IsCanonical}
use Rattle.lihvemur_c.specs.Classified.{conflict_of, Classified}

operand_shift : (T : Table) (a o : ℕ) → a ≡ 0 → o < T.terminals → operand_fits T a o ≡ true
unfolding operand_fits
operand_shift T a o e h = rw (e, lt-ltb o T.terminals h)

operand_reduction : (T : Table) (a o : ℕ) → a ≡ 1 → o < length T.productions → operand_fits T a o ≡ true
unfolding operand_fits
operand_reduction T a o e h = rw (e, lt-ltb o (length T.productions) h)

-- a call that 1 to 11 do not refuse

over_accepted : (t : List ℕ) (T : Table) (c : Conflict) (scratch action reduce : List ℕ) → check_of t ≡ Accepted → meaning t ≡ T
    → classify_of t c scratch action reduce ≡ classified_in c scratch action reduce T
unfolding classify_with classify_by_with
over_accepted t T c scratch action reduce a e = rw (a, e)

in_range : (T : Table) (c : Conflict) (scratch action reduce : List ℕ) → conflict_fits T c ≡ true → shifts_end T c ≡ false
    → classify_scratch ≤ length scratch → example_room ≤ length action → example_room ≤ length reduce
    → classified_in c scratch action reduce T ≡ gathered_outcome T c scratch action reduce (gather T c)
unfolding classify_in_with
in_range T c scratch action reduce f s ls la lr =
    rw (f, s, le-leb classify_scratch (length scratch) ls, le-leb example_room (length action) la, le-leb example_room (length reduce) lr, classify_in_with)

module _ (T : Table) (k : ℕ) (l : k < length T.states) (c : Clash) (ranges : InTable T c) where
  operand : operand_fits T c.action c.other ≡ true
  operand = cases (eqb c.action 0)
      (λ t. let z = eqb-true c.action 0 t in operand_shift T c.action c.other z (ranges.shift z).0)
      (λ t. let w = ranges.reduction (borrow.Author.Tests.eqb-false c.action 0 t) in operand_reduction T c.action c.other w.0 w.1)

  -- 9 and 10
  conflict_fits_lem : conflict_fits T (conflict_of k c) ≡ true
  unfolding conflict_fits place_is_fit
  conflict_fits_lem = rw (lt-ltb k (length T.states) l, lt-ltb c.production (length T.productions) ranges.production, operand, le-leb c.token T.terminals ranges.token)

  no_end_shift : shifts_end T (conflict_of k c) ≡ false
  unfolding shifts_end
  no_end_shift = cases (eqb c.action 0)
      (λ t. let w = ranges.shift (eqb-true c.action 0 t) in rw (t, ne_eqb c.token T.terminals (λ q. omega (arith, w.1, q))))
      (λ t. rw t)

-- whatever is lent, where it is long enough
pub conflicts_fit : (T : Table) (start : ℕ) (u list : List ℕ) (C : IsCanonical T start u list) → Classified T start u list C
conflicts_fit T start u list C = λ k l c m scratch action reduce ls la lr.
    let inside = C.inside k l c m in
    let h : k < length (meaning u).states = rw C.many l in
    over_accepted u (meaning u) (conflict_of k c) scratch action reduce C.accepted refl
    ∙ in_range (meaning u) (conflict_of k c) scratch action reduce (conflict_fits_lem (meaning u) k h c inside) (no_end_shift (meaning u) k h c inside) ls la lr
