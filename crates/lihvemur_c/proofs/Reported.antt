-- The ways through the exported functions of classifying, one law each.
use Rattle.std.proofs.Common.{◌≡◌, ◌⊎◌, inl, inr, ℕ, ◌+◌, ◌*◌, ◌<◌, ◌≤◌, leb, List, [], ◌∷◌, ◌++◌, length, get_or, drop, sym, refl, ap, ◌∙◌, arith, le-leb}
use borrow.Author.Tests.{lt-leb}
use Rattle.std.specs.Prelude.{Option, None, Some, Result, Ok, Err}
use Rattle.lr1_base.specs.repr.Sizes.{entry_room, entries_room}
use Rattle.lr1_base.specs.repr.Lists.{joined}
use Rattle.lr1_base.specs.repr.Reply.{number_of, place_of}
use Rattle.lr1_base.specs.declared.repr.NonterminalString.{NonterminalString}
use Rattle.lr1_base.specs.declared.repr.refusals.Refusal.{Refusal}
use Rattle.conflict_sides.specs.declared.conflict.Conflict.{Conflict}
use Rattle.conflict_sides.specs.declared.conflict.Class.{Class}
use Rattle.conflict_sides.specs.declared.conflict.Class.TheVariants.{Naive, Ambiguity, Precedence, SuggestInline, SuggestQuestion, AmbiguousReduction, InsufficientLookahead}
use Rattle.conflict_sides.specs.declared.conflict.Classification.{Classification}
use Rattle.conflict_sides.specs.conflict.Numbers.{number_of_class, values_of_class, reading_of}
use Rattle.conflict_sides.specs.conflict.Outcome.{Outcome, outcome}
use Rattle.conflict_sides.specs.conflict.Choose.{outcome as choosing, choose_of}
use Rattle.conflicts.specs.declared.choice.chosen.Chosen.{Chosen}
use Rattle.conflicts.specs.class_words.Entries.{entries_in, entry_words}
use Rattle.conflicts.proofs.class_words.Laws.{entries_long}
use Rattle.conflicts.specs.choice.Choosing.{choice_in}
use Rattle.lihvemur_c.specs.Exported.{Told}
use Rattle.lihvemur_c.proofs.Numbered.{told_some, told_none}
use Rattle.lihvemur_c.specs.Reports.{packed, class_numbers, classified_numbers, choice_numbers, chosen_numbers, short_numbers, choose_numbers, part_numbers, observed_numbers}
use Rattle.conflicts.specs.declared.Part.{Part}
use Rattle.conflicts.specs.declared.Part.TheVariants.{Action, Reduce}
use Rattle.lr1_base.proofs.laws.Lists.{empty as none}

-- ---- a class in numbers
pub pack_is : (a b c d : ℕ) → a + 65536 * (b + 65536 * (c + 65536 * d)) ≡ packed (a ∷ b ∷ c ∷ d ∷ [])
unfolding packed
pack_is a b c d = omega arith

-- the four values of a class are its own, filled up with zeros
pub values_packed : (k : Class) → packed (get_or (values_of_class k) 0 0 ∷ get_or (values_of_class k) 1 0 ∷ get_or (values_of_class k) 2 0 ∷ get_or (values_of_class k) 3 0 ∷ []) ≡ packed (values_of_class k)
unfolding packed values_of_class
values_packed Naive = refl
values_packed Ambiguity = refl
values_packed (Precedence n) = refl
values_packed (SuggestInline n) = refl
values_packed (SuggestQuestion n x y) = refl
values_packed (AmbiguousReduction a b c d) = refl
values_packed InsufficientLookahead = refl

-- ---- classify: c is what it answers, of which (x, y, f) is told, o what its contract says is the outcome
module _ (class values m n : ℕ) (c : Result Classification Refusal) (x y : ℕ) (f : Option Classification) (h : Told c x y f) (scratch action reduce : List ℕ) (o : Outcome) (e : outcome (reading_of c) scratch action reduce ≡ o) where
  abbrev from : Result Classification Refusal → Outcome
  from q = outcome (reading_of q) scratch action reduce

  pub classify_class : (k : Classification) (number own : ℕ) → f ≡ Some k → number ≡ number_of_class k.class → own ≡ packed (values_of_class k.class)
      → class_numbers x y number own k.action_trials k.reduce_trials scratch action reduce ≡ classified_numbers class values m n o
  unfolding classified_numbers reading_of
  classify_class k number own q en ev = let T = told_some c x y f h k q in rw (T.1.0, T.1.1, sym e ∙ ap from T.0, en, ev)

  pub classify-refused : f ≡ None → class_numbers x y class values m n scratch action reduce ≡ classified_numbers class values m n o
  unfolding classified_numbers reading_of
  classify-refused q = told_none c x y f h q (λ v w. class_numbers v w class values m n scratch action reduce) _ (λ z k. rw (sym e ∙ ap from k))

module _ (count : ℕ) (old t : List ℕ) (c : Conflict) (tokens : ℕ) (scratch : List ℕ) (r : Result Chosen Refusal) (last : List ℕ) where
  module _ (long : entries_room ≤ length old) (e : choosing (choice_in r) last ≡ choose_of t c tokens scratch) where
    long_is : (q : Result Chosen Refusal) → r ≡ q → chosen_numbers count old (choosing (choice_in q) last) ≡ choose_numbers count old t c tokens scratch
    unfolding choose_numbers
    long_is q h = rw (le-leb _ _ long, choose_numbers) (ap (chosen_numbers count old) (ap (λ (x : Result Chosen Refusal). choosing (choice_in x) last) (sym h) ∙ e))

    pub choose-refused : (x y : ℕ) (f : Option Chosen) → Told r x y f → f ≡ None → choice_numbers x y count old last ≡ choose_numbers count old t c tokens scratch
    unfolding chosen_numbers choice_in
    choose-refused x y f h q = told_none r x y f h q (λ v w. choice_numbers v w count old last) _ (λ z k. long_is (Err z) k)

    pub choose-chosen : (x y : ℕ) (f : Option Chosen) → Told r x y f → (k : Chosen) → f ≡ Some k → (to : List ℕ) → to ≡ joined entry_words (entries_in k.entries k.count) ++ drop (entry_room * k.count) old → choice_numbers x y k.count to last ≡ choose_numbers count old t c tokens scratch
    unfolding chosen_numbers choice_in
    choose-chosen x y f h k q to w =
        let T = told_some r x y f h k q in
        let l : k.count ≡ length (entries_in k.entries k.count) = sym (entries_long k.entries k.count) in
        let g : to ≡ joined entry_words (entries_in k.entries k.count) ++ drop (entry_room * length (entries_in k.entries k.count)) old = w ∙ ap (λ (i : ℕ). joined entry_words (entries_in k.entries k.count) ++ drop (entry_room * i) old) l in
        rw (T.1.0, T.1.1) ((λ j. choice_numbers 0 0 (l j) (g j) last) ∙ long_is (Ok k) T.0)

  module _ (short : length old < entries_room) (empty : length last ≡ 0) (e : choosing (choice_in r) last ≡ choose_of t c tokens []) where
    short_is : (q : Result Chosen Refusal) → r ≡ q → short_numbers count old (last ++ scratch) (choosing (choice_in q) last) ≡ choose_numbers count old t c tokens scratch
    unfolding choose_numbers
    short_is q h =
        rw (lt-leb _ _ short, choose_numbers)
        (ap (λ (l : List ℕ). short_numbers count old (l ++ scratch) (choosing (choice_in q) last)) (none last empty)
        ∙ ap (short_numbers count old scratch) (ap (λ (x : Result Chosen Refusal). choosing (choice_in x) last) (sym h) ∙ e))

    pub short-refused : (x : Refusal) → r ≡ Err x → choice_numbers (number_of x) (place_of x) count old (last ++ scratch) ≡ choose_numbers count old t c tokens scratch
    unfolding short_numbers choice_in
    short-refused x h = short_is (Err x) h

    pub short-chosen : (k : Chosen) → r ≡ Ok k → choice_numbers 11 0 count old (last ++ scratch) ≡ choose_numbers count old t c tokens scratch
    unfolding short_numbers choice_in
    short-chosen k h = short_is (Ok k) h

-- ---- observed
module _ (o : Part) (n : ℕ) where
  pub of_action : o ≡ Action n → part_numbers 0 n ≡ observed_numbers o
  unfolding observed_numbers
  of_action e = rw e

  pub of_reduce : o ≡ Reduce n → part_numbers 1 n ≡ observed_numbers o
  unfolding observed_numbers
  of_reduce e = rw e
