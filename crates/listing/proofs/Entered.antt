-- The ways through opening and through one call, by the check of the table.
use Prim.Native.Nat.{ℕ}
use mathlib.Core.Path.{◌≡◌}
use mathlib.Core.List.{List}
use Rattle.lr1_base.specs.repr.Reply.{Reply, refused}
use Rattle.lr1_base.specs.repr.Meaning.{Item}
use Rattle.table.specs.Checked.{Accepted, Refused as NotAccepted}
use Rattle.table.specs.Decoded.{meaning}
use Rattle.table.specs.Refusals.{check_of}
use Rattle.enumerator.specs.trials.Advance.{Outcome, outcome, open_by, open_in, open_of, advance_by, advance_in, advance_of}
use Rattle.enumerator.specs.trials.Lookahead.{Lookahead}
use Rattle.enumerator.specs.declared.trials.Listing.{Listing}

module _ (t : List ℕ) (i : Item) (ahead : Lookahead) (g : List ℕ) where
  pub open_refused : (n r : ℕ) → check_of t ≡ NotAccepted n r → refused n r ≡ open_of t i ahead g
  unfolding open_of open_by
  open_refused n r e = rw e

  pub open_accepted : check_of t ≡ Accepted → (o : Reply Listing) → o ≡ open_in i ahead g (meaning t) → o ≡ open_of t i ahead g
  unfolding open_of open_by
  open_accepted e o h = rw e h

module _ (l : Listing) (t g scratch buffer : List ℕ) where
  pub step-refused : (n r : ℕ) → check_of t ≡ NotAccepted n r → outcome (refused n r) l scratch buffer ≡ advance_of l t g scratch buffer
  unfolding advance_of advance_by
  step-refused n r e = rw e

  pub step_accepted : check_of t ≡ Accepted → (o : Outcome) → o ≡ advance_in g l scratch buffer (meaning t) → o ≡ advance_of l t g scratch buffer
  unfolding advance_of advance_by
  step_accepted e o h = rw e h
