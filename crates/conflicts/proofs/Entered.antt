-- The ways through `classify` and `choose`, one law each.
use mathlib.Core.Path.{◌≡◌}
use mathlib.Core.List.{List}
use Prim.Native.Nat.{ℕ}
use Rattle.std.specs.Prelude.{Err}
use Rattle.lr1_base.specs.declared.repr.refusals.Refusal.{Refusal}
use Rattle.lr1_base.specs.repr.Reply.{number_of, place_of}
use Rattle.table.specs.Checked.{Accepted, Refused}
use Rattle.table.specs.Decoded.{meaning}
use Rattle.table.specs.Refusals.{check_of}
use Rattle.conflict_sides.specs.declared.conflict.Conflict.{Conflict}
use Rattle.conflict_sides.specs.conflict.Numbers.{reading_of}
use Rattle.conflict_sides.specs.conflict.Outcome.{Outcome, outcome, classified_in, classify_by_with, classify_of, classify_with}
use Rattle.conflict_sides.specs.conflict.Choose.{Outcome as ChoiceOutcome, outcome as choosing, chosen_in, choose_by_with, choose_of, choose_with}
use Rattle.conflicts.specs.choice.Choosing.{choice_in}

module _ (t : List ℕ) (c : Conflict) (scratch action reduce : List ℕ) where
  pub classify-refused : (e : Refusal) → check_of t ≡ Refused (number_of e) (place_of e) → outcome (reading_of (Err e)) scratch action reduce ≡ classify_of t c scratch action reduce
  unfolding classify_with classify_by_with reading_of
  classify-refused e r = rw r

  pub classify_accepted : (u : List ℕ) → u ≡ t → check_of t ≡ Accepted → (o : Outcome) → o ≡ classified_in c scratch action reduce (meaning u) → o ≡ classify_of t c scratch action reduce
  unfolding classify_with classify_by_with
  classify_accepted u s e o h = rw e (rw s at h)

module _ (t : List ℕ) (c : Conflict) (tokens : ℕ) (scratch : List ℕ) where
  pub choose-refused : (e : Refusal) → check_of t ≡ Refused (number_of e) (place_of e) → choosing (choice_in (Err e)) scratch ≡ choose_of t c tokens scratch
  unfolding choose_with choose_by_with choice_in
  choose-refused e r = rw r

  pub choose_accepted : (u : List ℕ) → u ≡ t → check_of t ≡ Accepted → (o : ChoiceOutcome) → o ≡ chosen_in c tokens scratch (meaning u) → o ≡ choose_of t c tokens scratch
  unfolding choose_with choose_by_with
  choose_accepted u s e o h = rw e (rw s at h)
