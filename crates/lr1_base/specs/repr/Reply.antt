-- What an entry answers (docs/RULES.md, "Refusals"): a value, or the number of a refusal and its place.
use Rattle.std.specs.Prelude.{ℕ, Result, Ok, Err}
use Rattle.lr1_base.specs.declared.repr.refusals.Refusal.{Refusal}
use Rattle.lr1_base.specs.declared.repr.refusals.Refusal.TheVariants.{Words, Counts, Chain, Owner, TooLong, Symbol, Target, Spare, OutOfRange, EndShifted, TooShort, TooManyEdges, TooManyTrials, TooManyExamples, NoNode, TooManyStates, NoRoom, NoGrammar, NoText, Misnamed, Unordered}

-- the numbers of docs/RULES.md, "Refusals"
abbrev pub number_of : Refusal → ℕ
number_of Words = 1
number_of Counts = 2
number_of (Chain r) = 3
number_of (Owner r) = 4
number_of (TooLong r) = 5
number_of (Symbol r) = 6
number_of (Target r) = 7
number_of (Spare r) = 8
number_of OutOfRange = 9
number_of EndShifted = 10
number_of TooShort = 11
number_of TooManyEdges = 12
number_of TooManyTrials = 13
number_of TooManyExamples = 14
number_of NoNode = 15
number_of TooManyStates = 16
number_of NoRoom = 17
number_of NoGrammar = 18
number_of NoText = 20
number_of Misnamed = 21
number_of Unordered = 23

-- the place, 0 where there is none
abbrev pub place_of : Refusal → ℕ
place_of (Chain r) = r
place_of (Owner r) = r
place_of (TooLong r) = r
place_of (Symbol r) = r
place_of (Target r) = r
place_of (Spare r) = r
place_of _ = 0

pub data Reply (A : Type 0) : Type 0 where
  answered : A → Reply A
  refused : ℕ → ℕ → Reply A

-- what a call answered, in those terms
abbrev pub reply_of : {A : Type 0} → Result A Refusal → Reply A
reply_of (Ok a) = answered a
reply_of (Err e) = refused (number_of e) (place_of e)
