-- One token of the set, and the tokens that are left (specs/choice/Choosing).
use mathlib.Core.Path.{◌≡◌, refl, sym, ap, subst, ◌∙◌}
use mathlib.Core.Bool.{Bool, true, false}
use mathlib.Core.List.{List, [], ◌∷◌, ◌++◌, append_assoc, append-nil}
use Prim.Native.Nat.{ℕ, suc, ◌+◌, ◌^◌, ◌≤◌, ◌<◌}
use native.Mathlib.Omega.{arith}
use lib.ListN.{length}
use lib.Dec.{eqb, ltb}
use borrow.Author.Tests.{ltb-true, le-leb}
use Rattle.std.specs.Prelude.{Result, Ok, Err}
use Rattle.lr1_base.specs.repr.Sizes.{classify_scratch, entry_limit}
use Rattle.lr1_base.specs.words.Lent.{zeroed}
use Rattle.lr1_base.specs.declared.repr.refusals.Refusal.{Refusal}
use Rattle.lr1_base.specs.repr.Reply.{number_of, place_of}
use Rattle.lr1_base.specs.repr.Lists.{keep, below, up_from}
use Rattle.lr1_base.specs.repr.Meaning.{Table, All}
use Rattle.lr1_base.proofs.repr.Lists.{keep-nil, keep-yes, keep_no, keep_append, cases}
use Rattle.lr1_base.specs.lookahead.Tokens.{has, members}
use Rattle.lr1_base.proofs.lookahead.Laws.{has-below}
use Rattle.lr1_base.proofs.lookahead.Members.{members_few}
use Rattle.lr1_base.proofs.laws.Bools.{and_left, and_right}
use Rattle.conflict_sides.specs.declared.conflict.Conflict.{Conflict}
use Rattle.conflict_sides.specs.declared.conflict.Class.{Class}
use Rattle.conflict_sides.specs.declared.conflict.Classification.{Classification}
use Rattle.conflict_sides.specs.conflict.Numbers.{number_of_class, values_of_class, classed, refused, reading_of}
use Rattle.conflict_sides.specs.conflict.Sides.{Gathered, sides, halted, gather}
use Rattle.conflict_sides.specs.conflict.Judge.{judged}
use Rattle.conflict_sides.specs.conflict.Outcome.{outcome, place_is_fit, conflict_fits, shown, judged_outcome, judged_with, gathered_outcome, gathered_with}
use Rattle.conflict_sides.specs.conflict.Choose.{Entry, Entries, entries, halts, then, at_token, entry_of, is_better, classes_of, set_fits}
use Rattle.conflicts.specs.class_words.Entries.{entries_in}
use Rattle.conflicts.specs.declared.class_words.EntryList.{EntryList}
use Rattle.conflicts.specs.choice.Choosing.{sorted, stopped, sorted_in, CountsWithin, is_naive, added_to}

-- the conflict of one token, as the code makes it
abbrev pub one_at : Conflict → ℕ → Conflict
one_at c k = record { state = c.state; production = c.production; action = c.action; operand = c.operand; token = k }

-- a token of a set in range makes a conflict in range
pub token-fits : (T : Table) (c : Conflict) (set k : ℕ) → set_fits T c set ≡ true → has set k ≡ true → conflict_fits T (one_at c k) ≡ true
unfolding set_fits conflict_fits place_is_fit at_token
token-fits T c set k f h =
    let p = and_left (place_is_fit T c) (ltb set (2 ^ suc T.terminals)) f in
    let l = ltb-true set (2 ^ suc T.terminals) (and_right (place_is_fit T c) (ltb set (2 ^ suc T.terminals)) f) in
    let b = has-below set (suc T.terminals) k l h in
    rw (le-leb k T.terminals (omega arith)) (rw p)

-- the entry of a class
abbrev entry_by : ℕ → Class → Entry
entry_by k class = record { token = k; class = number_of_class class; values = values_of_class class }

-- what one classification says of its token
module _ (T : Table) (c : Conflict) (k : ℕ) (w w' a a' b b' : List ℕ) (r : Result Classification Refusal) where
  refused_by : (G : Gathered) (x : Refusal) → r ≡ Err x → outcome (reading_of r) w' a' b' ≡ gathered_outcome T (at_token c k) w a b G
      → (then T c k G (entries []) ≡ halts (number_of x)) × (place_of x ≡ 0)
  unfolding reading_of gathered_with judged_with then
  refused_by (halted n) x er e =
      let f : outcome (refused (number_of x) (place_of x)) w' a' b' ≡ outcome (refused n 0) (zeroed classify_scratch w) a b = ap (λ (y : Result Classification Refusal). outcome (reading_of y) w' a' b') (sym er) ∙ e in
      let z : n ≡ number_of x = cc in
      let o : place_of x ≡ 0 = cc in
      (ap halts z, o)
  refused_by (sides xs m ys n) x er e =
      let f : outcome (refused (number_of x) (place_of x)) w' a' b' ≡ judged_outcome T.productions m n w a b (judged T (at_token c k) xs ys) = ap (λ (y : Result Classification Refusal). outcome (reading_of y) w' a' b') (sym er) ∙ e in
      let z : ◌≡◌ {A = ℕ} 0 1 = cc in absurd (omega arith)

  classed_by : (G : Gathered) (k' : Classification) → r ≡ Ok k' → outcome (reading_of r) w' a' b' ≡ gathered_outcome T (at_token c k) w a b G
      → then T c k G (entries []) ≡ entries (entry_by k k'.class ∷ [])
  unfolding reading_of gathered_with judged_with then entry_of
  classed_by (halted n) k' er e =
      let f : outcome (classed (number_of_class k'.class) (values_of_class k'.class) k'.action_trials k'.reduce_trials) w' a' b' ≡ outcome (refused n 0) (zeroed classify_scratch w) a b = ap (λ (y : Result Classification Refusal). outcome (reading_of y) w' a' b') (sym er) ∙ e in
      let z : ◌≡◌ {A = ℕ} 0 1 = cc in absurd (omega arith)
  classed_by (sides xs m ys n) k' er e =
      let J = judged T (at_token c k) xs ys in
      let f : outcome (classed (number_of_class k'.class) (values_of_class k'.class) k'.action_trials k'.reduce_trials) w' a' b' ≡ outcome (classed (number_of_class J.class) (values_of_class J.class) m n) (zeroed classify_scratch w) (shown T.productions J.action a) (shown T.productions J.reduce b) = ap (λ (y : Result Classification Refusal). outcome (reading_of y) w' a' b') (sym er) ∙ e in
      let x : number_of_class J.class ≡ number_of_class k'.class = cc in
      let y : values_of_class J.class ≡ values_of_class k'.class = cc in
      λ l. entries (record { token = k; class = x l; values = y l } ∷ [])

added_none : (bs as' : List Entry) → added_to bs as' (entries []) ≡ sorted bs as'
unfolding added_to keep
added_none bs as' = λ j. sorted (append-nil bs j) (append-nil as' j)

-- the ways through one token
module _ (T : Table) (c : Conflict) (k : ℕ) (better naive : EntryList) (better' naive' : EntryList) where
  abbrev bs : List Entry
  bs = entries_in better.words better.count

  abbrev as' : List Entry
  as' = entries_in naive.words naive.count

  abbrev Goal : Result (Unit {0}) Refusal → Type 0
  Goal r = (sorted_in r better' naive' ≡ added_to bs as' (then T c k (gather T (at_token c k)) (entries []))) × CountsWithin (better.count + naive.count + 1) r better' naive'

  -- whatever scratch words the classification is said of
  module _ (x x' y y' : List ℕ) (r : Result Classification Refusal) (e : (w : List ℕ) → outcome (reading_of r) (zeroed classify_scratch w) x' y' ≡ gathered_outcome T (one_at c k) w x y (gather T (one_at c k))) where
    pub token-refused : (n : Refusal) → r ≡ Err n → Goal (Err n)
    unfolding sorted_in added_to CountsWithin at_token
    token-refused n er =
        let R = refused_by T c k x (zeroed classify_scratch x) x x' y y' r (gather T (at_token c k)) n er (e x) in
        (ap (added_to bs as') (sym R.0), R.1)

    module _ (found : Classification) (er : r ≡ Ok found) where
      abbrev class : Class
      class = found.class

      abbrev E : Entry
      E = entry_by k class

      added : sorted (bs ++ keep is_better (E ∷ [])) (as' ++ keep is_naive (E ∷ [])) ≡ added_to bs as' (then T c k (gather T (at_token c k)) (entries []))
      unfolding added_to at_token
      added =
          let R = classed_by T c k x (zeroed classify_scratch x) x x' y y' r (gather T (at_token c k)) found er (e x) in
          ap (added_to bs as') (sym R)

      pub token_naive : (t : Bool) → t ≡ eqb (number_of_class class) 0 → t ≡ true → better' ≡ better → naive'.count ≡ naive.count + 1 → entries_in naive'.words naive'.count ≡ as' ++ E ∷ [] → Goal (Ok tt)
      unfolding sorted_in CountsWithin is_naive is_better keep
      token_naive t et tt' eb en ew =
          let q : eqb (number_of_class class) 0 ≡ true = sym et ∙ tt' in
          let p : keep is_better (E ∷ []) ≡ [] = rw (q, keep) in
          let s : keep is_naive (E ∷ []) ≡ E ∷ [] = rw (q, keep) in
          let f : entries_in naive'.words naive'.count ≡ as' ++ keep is_naive (E ∷ []) = ew ∙ ap (λ (l : List Entry). as' ++ l) (sym s) in
          let g : entries_in better'.words better'.count ≡ bs ++ keep is_better (E ∷ []) = ap (λ (l : EntryList). entries_in l.words l.count) eb ∙ sym (append-nil bs) ∙ ap (λ (l : List Entry). bs ++ l) (sym p) in
          ((λ l. sorted (g l) (f l)) ∙ added, omega (arith, en, ap (λ (l : EntryList). l.count) eb))

      pub token-better : (t : Bool) → t ≡ eqb (number_of_class class) 0 → t ≡ false → naive' ≡ naive → better'.count ≡ better.count + 1 → entries_in better'.words better'.count ≡ bs ++ E ∷ [] → Goal (Ok tt)
      unfolding sorted_in CountsWithin is_naive is_better keep
      token-better t et tt' ea eb ew =
          let q : eqb (number_of_class class) 0 ≡ false = sym et ∙ tt' in
          let p : keep is_better (E ∷ []) ≡ E ∷ [] = rw (q, keep) in
          let s : keep is_naive (E ∷ []) ≡ [] = rw (q, keep) in
          let f : entries_in better'.words better'.count ≡ bs ++ keep is_better (E ∷ []) = ew ∙ ap (λ (l : List Entry). bs ++ l) (sym p) in
          let g : entries_in naive'.words naive'.count ≡ as' ++ keep is_naive (E ∷ []) = ap (λ (l : EntryList). entries_in l.words l.count) ea ∙ sym (append-nil as') ∙ ap (λ (l : List Entry). as' ++ l) (sym s) in
          ((λ l. sorted (f l) (g l)) ∙ added, omega (arith, eb, ap (λ (l : EntryList). l.count) ea))

-- what a token adds stands before what the later ones add
module _ (T : Table) (c : Conflict) (k : ℕ) (bs as' : List Entry) where
  then-sorted : (G : Gathered) (R : Entries) (bs' as'' : List Entry) → sorted bs' as'' ≡ added_to bs as' (then T c k G (entries [])) → added_to bs as' (then T c k G R) ≡ added_to bs' as'' R
  unfolding added_to then
  then-sorted (halted n) R bs' as'' e = let z : ◌≡◌ {A = ℕ} 0 1 = cc in absurd (omega arith)
  then-sorted (sides xs m ys n) (halts x) bs' as'' e = refl
  then-sorted (sides xs m ys n) (entries es) bs' as'' e =
      let E = entry_of k (judged T (at_token c k) xs ys) in
      let x : bs ++ keep is_better (E ∷ []) ≡ bs' = cc in
      let y : as' ++ keep is_naive (E ∷ []) ≡ as'' = cc in
      let p : bs ++ keep is_better (E ∷ es) ≡ bs' ++ keep is_better es =
      ap (λ (l : List Entry). bs ++ l) (keep_append is_better (E ∷ []) es) ∙ sym (append_assoc bs (keep is_better (E ∷ [])) (keep is_better es)) ∙ ap (λ (l : List Entry). l ++ keep is_better es) x in
      let q : as' ++ keep is_naive (E ∷ es) ≡ as'' ++ keep is_naive es =
      ap (λ (l : List Entry). as' ++ l) (keep_append is_naive (E ∷ []) es) ∙ sym (append_assoc as' (keep is_naive (E ∷ [])) (keep is_naive es)) ∙ ap (λ (l : List Entry). l ++ keep is_naive es) y in
      λ j. sorted (p j) (q j)

  then-stopped : (G : Gathered) (R : Entries) (x : ℕ) → stopped x ≡ added_to bs as' (then T c k G (entries [])) → stopped x ≡ added_to bs as' (then T c k G R)
  unfolding added_to then
  then-stopped (halted n) R x e = e
  then-stopped (sides xs m ys n) R x e = let z : ◌≡◌ {A = ℕ} 0 1 = cc in absurd (omega arith)

kept-all : (t : ℕ → Bool) (xs : List ℕ) → All (λ k. t k ≡ true) (keep t xs)
unfolding All
kept-all t [] = rw (keep-nil t) tt
kept-all t (x ∷ xs) = let rest = kept-all t xs in cases (t x) (λ e. rw (keep-yes t x xs e) (e, rest)) (λ e. rw (keep_no t x xs e) rest)

-- what the tokens that are left add to what stands is what the whole set gives
pub record Turn (T : Table) (c : Conflict) (set : ℕ) (better naive : EntryList) (left : List ℕ) : Type 0 where
  pub same : added_to (entries_in better.words better.count) (entries_in naive.words naive.count) (classes_of T c left) ≡ added_to [] [] (classes_of T c (members set))
  pub few : better.count + naive.count + length left ≤ entry_limit
  pub inside : All (λ k. has set k ≡ true) left

pub halted_few : (k : ℕ) (r : Result (Unit {0}) Refusal) (n : Refusal) (better naive : EntryList) → r ≡ Err n → CountsWithin k r better naive → CountsWithin entry_limit (Err n) better naive
unfolding CountsWithin
halted_few k r n better naive e h = subst (λ (q : Result (Unit {0}) Refusal). CountsWithin k q better naive) e h

module _ (T : Table) (c : Conflict) (set : ℕ) where
  pub turn_first : (better naive : EntryList) → better.count ≡ 0 → naive.count ≡ 0 → Turn T c set better naive (members set)
  unfolding entries_in below up_from members
  turn_first better naive eb ea = record { same = rw (eb, ea) refl; few = omega (arith, members_few set, eb, ea); inside = kept-all (has set) (below 64) }

  module _ (better naive : EntryList) (left : List ℕ) (I : Turn T c set better naive left) where
    pub turn_end : left ≡ [] → sorted_in (Ok tt) better naive ≡ added_to [] [] (classes_of T c (members set))
    unfolding sorted_in classes_of
    turn_end e = sym (added_none (entries_in better.words better.count) (entries_in naive.words naive.count)) ∙ (rw e at I.same)

    pub turn_counts : CountsWithin entry_limit (Ok tt) better naive
    unfolding CountsWithin
    turn_counts = omega (arith, I.few)

    module _ (k : ℕ) (ks : List ℕ) (el : left ≡ k ∷ ks) where
      pub turn_member : has set k ≡ true
      unfolding All
      turn_member = (rw el at I.inside).0

      pub turn_room : better.count + naive.count < entry_limit
      turn_room = omega (arith, I.few, ap (λ (l : List ℕ). length l) el)

      module _ (better' naive' : EntryList) (r : Result (Unit {0}) Refusal)
          (e : sorted_in r better' naive' ≡ added_to (entries_in better.words better.count) (entries_in naive.words naive.count) (then T c k (gather T (at_token c k)) (entries []))) where
        pub turn_halts : (x : Refusal) → r ≡ Err x → sorted_in (Err x) better' naive' ≡ added_to [] [] (classes_of T c (members set))
        unfolding sorted_in classes_of
        turn_halts x er =
            let s : stopped (number_of x) ≡ added_to (entries_in better.words better.count) (entries_in naive.words naive.count) (then T c k (gather T (at_token c k)) (entries [])) = ap (λ (y : Result (Unit {0}) Refusal). sorted_in y better' naive') (sym er) ∙ e in
            then-stopped T c k (entries_in better.words better.count) (entries_in naive.words naive.count) (gather T (at_token c k)) (classes_of T c ks) (number_of x) s ∙ (rw el at I.same)

        pub turn_again : r ≡ Ok tt → CountsWithin (better.count + naive.count + 1) r better' naive' → Turn T c set better' naive' ks
        unfolding sorted_in CountsWithin classes_of All
        turn_again er f =
            let s : sorted (entries_in better'.words better'.count) (entries_in naive'.words naive'.count) ≡ added_to (entries_in better.words better.count) (entries_in naive.words naive.count) (then T c k (gather T (at_token c k)) (entries [])) = ap (λ (y : Result (Unit {0}) Refusal). sorted_in y better' naive') (sym er) ∙ e in
            let g : better'.count + naive'.count ≤ better.count + naive.count + 1 = rw er at f in
            record {
              same = sym (then-sorted T c k (entries_in better.words better.count) (entries_in naive.words naive.count) (gather T (at_token c k)) (classes_of T c ks) (entries_in better'.words better'.count) (entries_in naive'.words naive'.count) s) ∙ (rw el at I.same);
              few = omega (arith, g, I.few, ap (λ (l : List ℕ). length l) el);
              inside = (rw el at I.inside).1;
            }
