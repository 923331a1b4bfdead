-- What is chosen of the classes, and refusals 9 to 11 (conflict_sides/specs/conflict/Choose).
use mathlib.Core.Path.{◌≡◌, refl, sym, ap, subst, ◌∙◌}
use mathlib.Core.Bool.{Bool, true, false, ◌&&◌, not}
use mathlib.Core.List.{List, [], ◌∷◌, ◌++◌}
use Prim.Native.Nat.{ℕ, zero, suc, ◌+◌, ◌^◌, ◌≤◌, ◌<◌}
use native.Mathlib.Omega.{arith}
use lib.ListN.{length, drop}
use lib.Dec.{eqb, ltb}
use borrow.Author.Tests.{le-leb, lt-leb, eq-eqb, ne_eqb}
use Rattle.std.specs.Prelude.{Result, Ok, Err}
use Rattle.std.specs.Prelude.{min}
use Rattle.lr1_base.specs.repr.Sizes.{classify_scratch, entry_limit}
use Rattle.lr1_base.specs.declared.repr.refusals.Refusal.{Refusal}
use Rattle.lr1_base.specs.declared.repr.refusals.Refusal.TheVariants.{OutOfRange, EndShifted, TooShort}
use Rattle.lr1_base.specs.repr.Reply.{number_of, place_of}
use Rattle.lr1_base.specs.words.Lent.{zeroed}
use Rattle.lr1_base.proofs.words.Lent.{zeroed_lent}
use Rattle.lr1_base.specs.repr.Lists.{keep, below, up_from}
use Rattle.lr1_base.specs.repr.Meaning.{Table}
use Rattle.lr1_base.proofs.repr.Lists.{keep-nil, keep-yes, keep_no, cases}
use Rattle.lr1_base.specs.lookahead.Tokens.{has, members}
use Rattle.conflict_sides.specs.declared.conflict.Conflict.{Conflict}
use Rattle.conflict_sides.specs.conflict.Outcome.{place_is_fit}
use Rattle.conflict_sides.specs.conflict.Choose.{Entry, Choice, chosen, refused, Outcome, outcome, Entries, entries, halts, is_better, classes_of, naive_ones, choice_from, choice_of, set_fits, set_shifts_end, chosen_in, choose_in_with}
use Rattle.conflicts.specs.class_words.Entries.{entries_in}
use Rattle.conflicts.proofs.class_words.Laws.{entries_long}
use Rattle.conflicts.specs.declared.class_words.EntryList.{EntryList}
use Rattle.conflicts.specs.declared.choice.chosen.Chosen.{Chosen}
use Rattle.conflicts.specs.choice.Choosing.{choice_in, sorted, stopped, sorted_in, CountsWithin, is_naive, added_to, count_of_naive}

-- how many naive ones

pub count_shift : (a n : ℕ) → a ≡ 0 → n ≡ count_of_naive a n
unfolding count_of_naive
count_shift zero n e = refl
count_shift (suc a) n e = absurd (omega arith)

pub count_first : (a n m : ℕ) → (a ≡ 0 → ⊥) → m ≡ min n 1 → m ≡ count_of_naive a n
unfolding count_of_naive
count_first zero n m h e = absurd (h refl)
count_first (suc a) zero m h e = omega arith
count_first (suc a) (suc n) m h e = omega arith

pub naive_few : (r a n b m : ℕ) → r ≡ count_of_naive a n → b + n ≤ m → r ≤ m
unfolding count_of_naive
naive_few r zero n b m e h = omega arith
naive_few r (suc a) zero b m e h = omega arith
naive_few r (suc a) (suc n) b m e h = omega arith

pub halts_plain : (n : Refusal) (r : Result (Unit {0}) Refusal) (better naive : EntryList) → r ≡ Err n → CountsWithin entry_limit r better naive → place_of n ≡ 0
unfolding CountsWithin
halts_plain n r better naive e h = subst (λ (q : Result (Unit {0}) Refusal). CountsWithin entry_limit q better naive) e h

naive_entries : (action n : ℕ) (ws : List ℕ) → entries_in ws (count_of_naive action n) ≡ naive_ones action (entries_in ws n)
unfolding count_of_naive naive_ones entries_in below up_from
naive_entries zero n ws = refl
naive_entries (suc k) zero ws = refl
naive_entries (suc k) (suc n) ws = refl

-- the better ones if there are any

better-first : (action : ℕ) (es bs : List Entry) → (length bs ≡ 0 → ⊥) → bs ≡ choice_from action es bs
unfolding choice_from
better-first action es [] h = absurd (h refl)
better-first action es (b ∷ bs) h = refl

naive_is : (x : Entry) → is_better x ≡ false → is_naive x ≡ true
unfolding is_naive
naive_is x h = ap not h

naive_cons : (x : Entry) (xs : List Entry) → (keep is_better xs ≡ [] → keep is_naive xs ≡ xs) → keep is_better (x ∷ xs) ≡ [] → keep is_naive (x ∷ xs) ≡ x ∷ xs
naive_cons x xs rec e = cases (is_better x) better_way naive_way
  where
    better_way : is_better x ≡ true → keep is_naive (x ∷ xs) ≡ x ∷ xs
    better_way h =
        let n : x ∷ keep is_better xs ≡ [] = sym (keep-yes is_better x xs h) ∙ e in
        let z : ◌≡◌ {A = ℕ} 0 1 = cc in absurd (omega arith)

    naive_way : is_better x ≡ false → keep is_naive (x ∷ xs) ≡ x ∷ xs
    naive_way h = keep-yes is_naive x xs (naive_is x h) ∙ ap (λ (l : List Entry). x ∷ l) (rec (sym (keep_no is_better x xs h) ∙ e))

all_naive : (es : List Entry) → keep is_better es ≡ [] → keep is_naive es ≡ es
all_naive [] e = keep-nil is_naive
all_naive (x ∷ xs) e = naive_cons x xs (all_naive xs) e

no_entries : (ws : List ℕ) → entries_in ws 0 ≡ []
unfolding entries_in below up_from
no_entries ws = refl

-- by what all tokens came to
halt_choice : (action x : ℕ) (E : Entries) → stopped x ≡ added_to [] [] E → refused x 0 ≡ choice_of action E
unfolding added_to choice_of
halt_choice action x (halts n) e = let z : x ≡ n = cc in ap (λ (y : ℕ). refused y 0) z
halt_choice action x (entries es) e = let z : ◌≡◌ {A = ℕ} 0 1 = cc in absurd (omega arith)

better_choice : (action b a : ℕ) (better naive : List ℕ) (E : Entries) → (b ≡ 0 → ⊥) → sorted (entries_in better b) (entries_in naive a) ≡ added_to [] [] E → chosen (entries_in better b) ≡ choice_of action E
unfolding added_to choice_of
better_choice action b a better naive (halts n) h e = let z : ◌≡◌ {A = ℕ} 0 1 = cc in absurd (omega arith)
better_choice action b a better naive (entries es) h e =
    let x : entries_in better b ≡ keep is_better es = cc in
    let l = entries_long better b in
    ap chosen (better-first action es (entries_in better b) (λ z. h (sym l ∙ z)) ∙ ap (choice_from action es) x)

naive_choice : (action b a : ℕ) (better naive : List ℕ) (E : Entries) → b ≡ 0 → sorted (entries_in better b) (entries_in naive a) ≡ added_to [] [] E → chosen (entries_in naive (count_of_naive action a)) ≡ choice_of action E
unfolding added_to choice_of choice_from
naive_choice action b a better naive (halts n) h e = let z : ◌≡◌ {A = ℕ} 0 1 = cc in absurd (omega arith)
naive_choice action b a better naive (entries es) h e =
    let x : entries_in better b ≡ keep is_better es = cc in
    let y : entries_in naive a ≡ keep is_naive es = cc in
    let o : keep is_better es ≡ [] = sym x ∙ ap (entries_in better) h ∙ no_entries better in
    ap chosen (naive_entries action a naive ∙ ap (naive_ones action) (y ∙ all_naive es o) ∙ ap (choice_from action es) (sym o))

module _ (T : Table) (c : Conflict) (set : ℕ) (better naive : EntryList) (r : Result (Unit {0}) Refusal) (e : sorted_in r better naive ≡ added_to [] [] (classes_of T c (members set))) where
  abbrev Chooses : Result Chosen Refusal → Type 0
  Chooses x = choice_in x ≡ choice_of c.action (classes_of T c (members set))

  pub chosen-halts : (n : Refusal) → r ≡ Err n → CountsWithin entry_limit r better naive → Chooses (Err n)
  unfolding sorted_in choice_in
  chosen-halts n er h =
      let p = halt_choice c.action (number_of n) (classes_of T c (members set)) (ap (λ (y : Result (Unit {0}) Refusal). sorted_in y better naive) (sym er) ∙ e) in
      ap (refused (number_of n)) (halts_plain n r better naive er h) ∙ p

  module _ (er : r ≡ Ok tt) where
    sorted_all : sorted (entries_in better.words better.count) (entries_in naive.words naive.count) ≡ added_to [] [] (classes_of T c (members set))
    unfolding sorted_in
    sorted_all = ap (λ (y : Result (Unit {0}) Refusal). sorted_in y better naive) (sym er) ∙ e

    pub chosen-better : (better.count ≡ 0 → ⊥) → (x : Chosen) → entries_in x.entries x.count ≡ entries_in better.words better.count → Chooses (Ok x)
    unfolding choice_in
    chosen-better h x q = ap chosen q ∙ better_choice c.action better.count naive.count better.words naive.words (classes_of T c (members set)) h sorted_all

    pub chosen_naive : better.count ≡ 0 → (n : ℕ) → n ≡ count_of_naive c.action naive.count → (x : Chosen) → entries_in x.entries x.count ≡ entries_in naive.words n → Chooses (Ok x)
    unfolding choice_in
    chosen_naive h n en x q =
        ap chosen q ∙ ap (λ (k : ℕ). chosen (entries_in naive.words k)) en ∙ naive_choice c.action better.count naive.count better.words naive.words (classes_of T c (members set)) h sorted_all

-- the words lent on for the productions are zeroed with the rest
pub chosen-zeroed : (k l : Choice) (w w' front : List ℕ) (m : ℕ) → k ≡ l → length front ≡ m → m ≤ classify_scratch → w' ≡ zeroed classify_scratch (front ++ drop m w) → outcome k w' ≡ outcome l (zeroed classify_scratch w)
chosen-zeroed k l w w' front m e long h z =
    let v = z ∙ zeroed_lent classify_scratch m front w long h in
    λ j. outcome (e j) (v j)

-- refusals 9 to 11

pub end_shift : (a s t : ℕ) (r : Bool) → a ≡ 0 → r ≡ has s t → r ≡ (eqb a 0 && has s t)
end_shift a s t r e q = rw (eq-eqb a 0 e) q

pub end_other : (a s t : ℕ) → (a ≡ 0 → ⊥) → false ≡ (eqb a 0 && has s t)
end_other a s t e = rw (ne_eqb a 0 e)

module _ (T : Table) (c : Conflict) (set : ℕ) (w : List ℕ) where
  pub not-placed : place_is_fit T c ≡ false → outcome (choice_in (Err OutOfRange)) w ≡ chosen_in c set w T
  unfolding choice_in choose_in_with set_fits
  not-placed p = rw (p, choose_in_with)

  module _ (p : place_is_fit T c ≡ true) (t : ℕ) (et : t ≡ T.terminals) (v : Bool) (ev : v ≡ ltb set (2 ^ suc t)) where
    within-T : v ≡ ltb set (2 ^ suc T.terminals)
    within-T = ev ∙ ap (λ (k : ℕ). ltb set (2 ^ suc k)) et

    pub set_past : v ≡ false → outcome (choice_in (Err OutOfRange)) w ≡ chosen_in c set w T
    unfolding choice_in choose_in_with set_fits
    set_past q = let f : ltb set (2 ^ suc T.terminals) ≡ false = sym within-T ∙ q in rw (p, f, choose_in_with)

    module _ (q : v ≡ true) where
      pub set_fits_lem : set_fits T c set ≡ true
      unfolding set_fits
      set_fits_lem = let f : ltb set (2 ^ suc T.terminals) ≡ true = sym within-T ∙ q in rw (p, f)

      module _ (u : Bool) (eu : u ≡ (eqb c.action 0 && has set t)) where
        end_T : set_shifts_end T c set ≡ u
        unfolding set_shifts_end
        end_T = ap (λ (k : ℕ). eqb c.action 0 && has set k) (sym et) ∙ sym eu

        pub shift_end : u ≡ true → outcome (choice_in (Err EndShifted)) w ≡ chosen_in c set w T
        unfolding choice_in choose_in_with
        shift_end s = let f : set_shifts_end T c set ≡ true = end_T ∙ s in rw (set_fits_lem, f, choose_in_with)

        pub short_scratch : u ≡ false → length w < classify_scratch → outcome (choice_in (Err TooShort)) w ≡ chosen_in c set w T
        unfolding choice_in choose_in_with
        short_scratch s l = let f : set_shifts_end T c set ≡ false = end_T ∙ s in rw (set_fits_lem, f, lt-leb classify_scratch (length w) l, choose_in_with)

        pub chosen-whole : u ≡ false → classify_scratch ≤ length w → (o : Outcome) → o ≡ outcome (choice_of c.action (classes_of T c (members set))) (zeroed classify_scratch w) → o ≡ chosen_in c set w T
        unfolding choose_in_with
        chosen-whole s l o e = let f : set_shifts_end T c set ≡ false = end_T ∙ s in rw (set_fits_lem, f, le-leb classify_scratch (length w) l, choose_in_with) e
