-- What the check of a table answers (docs/RULES.md, "Refusals"): accepted, or the number of a refusal and its place.
use Rattle.std.specs.Prelude.{ℕ, Result, Ok, Err}
use Rattle.lr1_base.specs.declared.repr.refusals.Refusal.{Refusal}
use Rattle.lr1_base.specs.repr.Reply.{number_of, place_of}

pub data Checked : Type 0 where
  Accepted : Checked
  Refused : ℕ → ℕ → Checked

-- a call's answer in those terms
abbrev pub checked_of : {A : Type 0} → Result A Refusal → Checked
checked_of (Ok a) = Accepted
checked_of (Err e) = Refused (number_of e) (place_of e)
