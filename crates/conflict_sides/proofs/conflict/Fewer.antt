-- `fewer_words`: with room for W words and for W' words classifying and choosing answer alike, leave the same buffers, and of the scratch what the answer says. So more scratch than is asked changes no answer (docs/RULES.md, "Lent words").
use Rattle.std.proofs.Common.{◌≡◌, ℕ, ◌≤◌, ◌&&◌, leb, List, length, refl, arith, le-leb}
use borrow.Author.Tests.{lt-leb}
use Rattle.lr1_base.specs.repr.Sizes.{example_room}
use Rattle.lr1_base.specs.repr.Meaning.{Table}
use Rattle.lr1_base.proofs.repr.Lists.{cases}
use Rattle.lr1_base.specs.words.Lent.{zeroed}
use Rattle.lr1_base.specs.lookahead.Tokens.{members}
use Rattle.table.specs.Checked.{Checked, Accepted, Refused as NotAccepted}
use Rattle.table.specs.Decoded.{meaning}
use Rattle.table.specs.Refusals.{check_of}
use Rattle.table.proofs.Exact.{no_other}
use Rattle.conflict_sides.specs.declared.conflict.Conflict.{Conflict}
use Rattle.conflict_sides.specs.conflict.Numbers.{refused}
use Rattle.conflict_sides.specs.conflict.Sides.{Gathered, sides, halted, gather}
use Rattle.conflict_sides.specs.conflict.Outcome.{outcome, conflict_fits, shifts_end, judged_with, gathered_with, classify_in_with, classify_by_with, classify_with}
use Rattle.conflict_sides.specs.conflict.Choose.{refused as not_chosen, outcome as choosing, Entries, entries, halts, classes_of, choice_of, set_fits, set_shifts_end, choose_in_with, choose_by_with, choose_with}
use Rattle.conflict_sides.specs.conflict.Fewer.{keeps, choice_keeps, left, SameClass, SameChoice, SameWords, EightThousand}
use Rattle.conflict_sides.proofs.conflict.Late.{LateHalt, LateHalts, gather_late, classes_late}

module _ {W W' : ℕ} {s s' : List ℕ} where
  -- refusals 1 to 11
  class_kept : (n r : ℕ) (action reduce : List ℕ) → n ≤ 11 → SameClass W W' s s' (outcome (refused n r) s action reduce) (outcome (refused n r) s' action reduce)
  unfolding keeps left
  class_kept n r action reduce h = record { reading = refused n r; action = action; reduce = reduce; first = rw (le-leb n 11 h); second = rw (le-leb n 11 h) }

  choice_kept : (n r : ℕ) → n ≤ 11 → SameChoice W W' s s' (choosing (not_chosen n r) s) (choosing (not_chosen n r) s')
  unfolding choice_keeps left
  choice_kept n r h = record { choice = not_chosen n r; first = rw (le-leb n 11 h); second = rw (le-leb n 11 h) }

  -- 12 to 14, a class, a choice
  gathered_same : (T : Table) (c : Conflict) (action reduce : List ℕ) (G : Gathered) → LateHalt G → SameClass W W' s s' (gathered_with W T c s action reduce G) (gathered_with W' T c s' action reduce G)
  unfolding keeps left gathered_with judged_with
  gathered_same T c action reduce (halted n) h =
      let l = lt-leb n 11 (omega arith) in
      record { reading = refused n 0; action = action; reduce = reduce; first = rw l; second = rw l }
  gathered_same T c action reduce (sides xs m ys n) h = record { reading = _; action = _; reduce = _; first = refl; second = refl }

  chosen_same : (a : ℕ) (E : Entries) → LateHalts E → SameChoice W W' s s' (choosing (choice_of a E) (zeroed W s)) (choosing (choice_of a E) (zeroed W' s'))
  unfolding choice_keeps left choice_of
  chosen_same a (halts n) h =
      let l = lt-leb n 11 (omega arith) in
      record { choice = not_chosen n 0; first = rw l; second = rw l }
  chosen_same a (entries es) h = record { choice = _; first = refl; second = refl }

  module _ (long : W ≤ length s) (long' : W' ≤ length s') where
    class_in : (c : Conflict) (action reduce : List ℕ) (T : Table) → SameClass W W' s s' (classify_in_with W c s action reduce T) (classify_in_with W' c s' action reduce T)
    unfolding classify_in_with
    class_in c action reduce T =
        cases (conflict_fits T c)
        (λ f.
        cases (shifts_end T c)
        (λ e. rw (f, e, classify_in_with) (class_kept 10 0 action reduce (omega arith)))
        (λ e.
        cases (leb example_room (length action) && leb example_room (length reduce))
        (λ b. rw (f, e, le-leb W (length s) long, le-leb W' (length s') long', b, classify_in_with) (gathered_same T c action reduce (gather T c) (gather_late T c)))
        (λ b. rw (f, e, le-leb W (length s) long, le-leb W' (length s') long', b, classify_in_with) (class_kept 11 0 action reduce (omega arith)))))
        (λ f. rw (f, classify_in_with) (class_kept 9 0 action reduce (omega arith)))

    choice_in_lem : (c : Conflict) (set : ℕ) (T : Table) → SameChoice W W' s s' (choose_in_with W c set s T) (choose_in_with W' c set s' T)
    unfolding choose_in_with
    choice_in_lem c set T =
        cases (set_fits T c set)
        (λ f.
        cases (set_shifts_end T c set)
        (λ e. rw (f, e, choose_in_with) (choice_kept 10 0 (omega arith)))
        (λ e. rw (f, e, le-leb W (length s) long, le-leb W' (length s') long', choose_in_with) (chosen_same c.action (classes_of T c (members set)) (classes_late T c (members set)))))
        (λ f. rw (f, choose_in_with) (choice_kept 9 0 (omega arith)))

    class_by : (t : List ℕ) (c : Conflict) (action reduce : List ℕ) (k : Checked) → check_of t ≡ k → SameClass W W' s s' (classify_by_with W t c s action reduce k) (classify_by_with W' t c s' action reduce k)
    unfolding classify_by_with
    class_by t c action reduce (NotAccepted n r) e = let h = no_other t n r e in class_kept n r action reduce (omega arith)
    class_by t c action reduce Accepted e = class_in c action reduce (meaning t)

    choice_by_lem : (t : List ℕ) (c : Conflict) (set : ℕ) (k : Checked) → check_of t ≡ k → SameChoice W W' s s' (choose_by_with W t c set s k) (choose_by_with W' t c set s' k)
    unfolding choose_by_with
    choice_by_lem t c set (NotAccepted n r) e = let h = no_other t n r e in choice_kept n r (omega arith)
    choice_by_lem t c set Accepted e = choice_in_lem c set (meaning t)

pub fewer_words : (t : List ℕ) (c : Conflict) (W W' : ℕ) (s s' : List ℕ) → W ≤ length s → W' ≤ length s' → SameWords t c W W' s s'
unfolding classify_with choose_with
fewer_words t c W W' s s' l l' = record { classes = λ action reduce. class_by l l' t c action reduce (check_of t) refl; choices = λ set. choice_by_lem l l' t c set (check_of t) refl }

-- docs/RULES.md, "Lent words": what `classify_of` and `choose_of` answer with 8,000 words is what the definitions over 32,000 answer
pub eight_thousand : (t : List ℕ) (c : Conflict) (s s' : List ℕ) → 8000 ≤ length s → 32000 ≤ length s' → EightThousand t c s s'
eight_thousand t c s s' l l' =
    let same = fewer_words t c 8000 32000 s s' l l' in
    record { classes = same.classes; choices = same.choices }
