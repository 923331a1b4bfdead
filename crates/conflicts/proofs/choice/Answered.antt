-- The words of an answer, and the entries read back from them (specs/choice/Words).
use mathlib.Core.Path.{◌≡◌, refl, sym, ap, subst, ◌∙◌}
use mathlib.Core.List.{List, [], ◌∷◌, ◌++◌, map}
use Prim.Native.Nat.{ℕ, zero, suc, ◌+◌, ◌*◌, ◌-◌, ◌≤◌, ◌<◌}
use native.Mathlib.Omega.{arith}
use lib.ListN.{length, get_or, take, drop, replicate, length-drop}
use lib.Seq.{length-take-le, get_or-drop, drop-drop, ext_get_or}
use Rattle.lr1_base.specs.repr.Sizes.{entry_room, entry_place, entry_limit, entries_room}
use Rattle.lr1_base.specs.repr.Lists.{below, joined}
use Rattle.lr1_base.proofs.repr.Lists.{length-map-below, get_d_map-below, joined_cons}
use Rattle.conflict_sides.specs.conflict.Choose.{Entry}
use Rattle.conflicts.specs.class_words.Entries.{count_of_values, entry_in, entries_in, entry_words}
use Rattle.conflicts.proofs.class_words.Laws.{few_values, no_entry, entries_long}
use Rattle.conflicts.specs.choice.Words.{choice_words}

-- an entry's words, read back
values_back : (v more : List ℕ) → length v ≤ 4 → take (length v) (get_or v 0 0 ∷ get_or v 1 0 ∷ get_or v 2 0 ∷ get_or v 3 0 ∷ more) ≡ v
values_back [] more h = refl
values_back (a ∷ []) more h = refl
values_back (a ∷ b ∷ []) more h = refl
values_back (a ∷ b ∷ c ∷ []) more h = refl
values_back (a ∷ b ∷ c ∷ d ∷ []) more h = refl
values_back (a ∷ b ∷ c ∷ d ∷ e ∷ v) more h = absurd (omega arith)

record Stands (ws : List ℕ) (k : ℕ) (e : Entry) : Type 0 where
  more : List ℕ
  is : drop (entry_place k) ws ≡ entry_words e ++ more

stands_at : (es : List Entry) (k : ℕ) (rest : List ℕ) → k < length es → Stands (joined entry_words es ++ rest) k (get_or es k no_entry)
unfolding entry_words
stands_at [] k rest h = absurd (omega arith)
stands_at (e ∷ es) zero rest h = record { more = joined entry_words es ++ rest; is = ap (λ (l : List ℕ). l ++ rest) (joined_cons entry_words e es) }
stands_at (e ∷ es) (suc k) rest h =
    let r = stands_at es k rest (omega arith) in
    let z : entry_place (suc k) ≡ suc (suc (suc (suc (suc (suc (entry_place k)))))) = omega arith in
    record { more = r.more; is = ap (λ (i : ℕ). drop i (joined entry_words (e ∷ es) ++ rest)) z ∙ ap (λ (l : List ℕ). drop (suc (suc (suc (suc (suc (suc (entry_place k))))))) (l ++ rest)) (joined_cons entry_words e es) ∙ r.is }

entry_back : (ws : List ℕ) (k : ℕ) (e : Entry) → length e.values ≡ count_of_values e.class → Stands ws k e → entry_in ws k ≡ e
unfolding entry_in entry_words
entry_back ws k e l s =
    let at : (j : ℕ) → get_or ws (entry_place k + j) 0 ≡ get_or (entry_words e ++ s.more) j 0 = (λ j. sym (get_or-drop (entry_place k) ws j 0) ∙ ap (λ (x : List ℕ). get_or x j 0) s.is) in
    let z : entry_place k ≡ entry_place k + 0 = omega arith in
    let a : get_or ws (entry_place k) 0 ≡ e.token = ap (λ (x : ℕ). get_or ws x 0) z ∙ at 0 in
    let b : get_or ws (entry_place k + 1) 0 ≡ e.class = at 1 in
    let d : drop (entry_place k + 2) ws ≡ drop 2 (entry_words e ++ s.more) = sym (drop-drop 2 (entry_place k) ws) ∙ ap (drop 2) s.is in
    let f = few_values e.class in
    let own = sym l in
    let v : take (count_of_values (get_or ws (entry_place k + 1) 0)) (drop (entry_place k + 2) ws) ≡ e.values =
    ap (λ (x : ℕ). take (count_of_values x) (drop (entry_place k + 2) ws)) b ∙ (λ i. take (own i) (d i)) ∙ values_back e.values s.more (omega arith) in
    λ j. record { token = a j; class = b j; values = v j }

drop_zeros : (k m : ℕ) → drop {A = ℕ} k (replicate m 0) ≡ replicate (m - k) 0
drop_zeros zero m = let z : m - 0 ≡ m = omega arith in ap (λ (i : ℕ). replicate {A = ℕ} i 0) (sym z)
drop_zeros (suc k) zero = let z : 0 - suc k ≡ 0 = omega arith in ap (λ (i : ℕ). replicate {A = ℕ} i 0) (sym z)
drop_zeros (suc k) (suc m) = let z : suc m - suc k ≡ m - k = omega arith in drop_zeros k m ∙ ap (λ (i : ℕ). replicate {A = ℕ} i 0) (sym z)

module _ (ws : List ℕ) (n : ℕ) (long : length ws ≡ entries_room) (few : n ≤ entry_limit) where
  own_values : (k : ℕ) → k < n → length (entry_in ws k).values ≡ count_of_values (entry_in ws k).class
  unfolding entry_in
  own_values k h =
      let f = few_values (get_or ws (entry_place k + 1) 0) in
      let d = length-drop (entry_place k + 2) ws in
      length-take-le (count_of_values (get_or ws (entry_place k + 1) 0)) (drop (entry_place k + 2) ws) (omega arith)

  module _ (rest : List ℕ) where
    one_back : (k : ℕ) → k < n → entry_in (joined entry_words (entries_in ws n) ++ rest) k ≡ entry_in ws k
    unfolding entries_in
    one_back k h =
        let l = length-map-below (entry_in ws) n in
        let s = stands_at (map (entry_in ws) (below n)) k rest (omega arith) in
        entry_back (joined entry_words (map (entry_in ws) (below n)) ++ rest) k (entry_in ws k) (own_values k h)
        (subst (Stands (joined entry_words (map (entry_in ws) (below n)) ++ rest) k) (get_d_map-below (entry_in ws) n k no_entry h) s)

    entries-back : entries_in (joined entry_words (entries_in ws n) ++ rest) n ≡ entries_in ws n
    unfolding entries_in
    entries-back =
        let x = entry_in (joined entry_words (map (entry_in ws) (below n)) ++ rest) in
        ext_get_or no_entry (map x (below n)) (map (entry_in ws) (below n))
        (length-map-below x n ∙ sym (length-map-below (entry_in ws) n))
        (λ k h.
        let l : k < n = rw (length-map-below x n) at h in
        get_d_map-below x n k no_entry l ∙ one_back k l ∙ sym (get_d_map-below (entry_in ws) n k no_entry l))

  -- the answer with so many entries
  module _ (out : List ℕ) (e : out ≡ joined entry_words (entries_in ws n) ++ drop (entry_room * n) (replicate entries_room 0)) where
    pub answer_choice : entries_in out n ≡ entries_in ws n
    answer_choice = ap (λ (l : List ℕ). entries_in l n) e ∙ entries-back (drop (entry_room * n) (replicate entries_room 0))

    pub answer-whole : out ≡ choice_words (entries_in out n)
    unfolding choice_words
    answer-whole =
        let l = sym (entries_long ws n) in
        let w : out ≡ joined entry_words (entries_in ws n) ++ replicate (entries_room - entry_room * length (entries_in ws n)) 0 =
        e ∙ ap (λ (x : List ℕ). joined entry_words (entries_in ws n) ++ x) (drop_zeros (entry_room * n) entries_room ∙ ap (λ (i : ℕ). replicate (entries_room - entry_room * i) 0) l) in
        w ∙ ap choice_words (sym answer_choice)
