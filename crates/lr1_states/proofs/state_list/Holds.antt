-- Words that hold states (specs/state_list/Made): one state more stored behind them (`holds_more`), how many items they have (`holds_counted`), and a kernel looked for among
-- them (`holds_place`).
use Rattle.std.specs.Prelude.{◌≡◌, ℕ, zero, suc, ◌+◌, ◌-◌, ◌<◌, ◌≤◌, eqb, List, [], ◌∷◌, ◌++◌, map, length, get_or, take, set}
use mathlib.Core.Path.{refl, sym, ap, ◌∙◌}
use native.Mathlib.Numerals.{add-one}
use native.Mathlib.Omega.{arith}
use lib.ListN.{length-set, get_or-append, get_or-map}
use lib.Seq.{get_or-set_same, get_or-set_other, get_or-append_seam, take-suc, take-length, ext_get_or}
use borrow.Author.Tests.{eqb-true, eqb-false}
use Rattle.lr1_base.specs.repr.Sizes.{record_limit, state_limit}
use Rattle.lr1_base.specs.repr.Lists.{below}
use Rattle.lr1_base.specs.repr.Meaning.{Table, TableFits}
use Rattle.lr1_base.proofs.repr.Lists.{cases, length-map-below, get_d_map-below, length_mapped}
use Rattle.lr1_states.specs.canonical.States.{closure, place, written}
use Rattle.lr1_states.specs.canonical.Outcome.{sum}
use Rattle.lr1_states.proofs.canonical.Collection.{length_snoc}
use Rattle.lr1_states.specs.stored_item.Stored.{entries, packed}
use Rattle.lr1_states.specs.state_list.Kept.{put_all, state_in, states_in, Begun, kernel_place}
use Rattle.lr1_states.specs.state_list.Made.{Made, Holds}
use Rattle.lr1_states.proofs.state_list.Kept.{length-put_all}
use Rattle.lr1_states.proofs.state_list.Flat.{put_all_here, put_all-before}
use Rattle.lr1_states.proofs.state_list.Kernels.{Kernel, made_told, place_kernel}

-- begins rise
rise : (ws bs : List ℕ) (n : ℕ) → Begun ws bs n → (k d : ℕ) → k + d ≤ n → get_or bs k 0 ≤ get_or bs (k + d) 0
rise ws bs n B k zero h = let q : k + 0 ≡ k = omega arith in rw q (omega arith)
rise ws bs n B k (suc d) h =
    let a = rise ws bs n B k d (omega arith) in
    let b = B.rises (k + d) (omega arith) in
    let q : k + suc d ≡ k + d + 1 = omega arith in
    rw q (omega arith)

pub rise_to : (ws bs : List ℕ) (n : ℕ) → Begun ws bs n → (j k : ℕ) → j ≤ k → k ≤ n → get_or bs j 0 ≤ get_or bs k 0
rise_to ws bs n B j k h l = let q : j + (k - j) ≡ k = omega arith in rw q at (rise ws bs n B j (k - j) (omega arith))

-- one state more

module _ (T : Table) (start : ℕ) (ws bs : List ℕ) (Rs : List (List ℕ)) (H : Holds T start ws bs Rs) (C : List ℕ) (m : Made T start C) (past : ℕ)
    (few : length Rs < state_limit) (at : past ≡ get_or bs (length Rs) 0 + length (packed C)) (room : past ≤ record_limit) where
  abbrev n : ℕ
  n = length Rs

  abbrev ws' : List ℕ
  ws' = put_all ws (get_or bs (length Rs) 0) (packed C)

  abbrev bs' : List ℕ
  bs' = set bs (length Rs + 1) past

  old : (k : ℕ) → k ≤ n → get_or bs' k 0 ≡ get_or bs k 0
  old k h = get_or-set_other bs (length Rs + 1) k past 0 (λ q. omega arith)

  new : get_or bs' (n + 1) 0 ≡ past
  new = get_or-set_same bs (length Rs + 1) past 0 (rw H.begun.long (omega arith))

  one : length (Rs ++ C ∷ []) ≡ n + 1
  one = length_snoc C Rs ∙ omega arith

  which : (P : ℕ → Type 0) → ((k : ℕ) → k < n → P k) → P n → (k : ℕ) → k < length (Rs ++ C ∷ []) → P k
  which P f g k h =
      let h' : k < n + 1 = rw one at h in
      cases (eqb k n) (λ t. rw (eqb-true k n t) g) (λ t. let z = eqb-false k n t in f k (omega (arith, z)))

  before : (k : ℕ) → k < n → get_or (Rs ++ C ∷ []) k [] ≡ get_or Rs k []
  before k h = get_or-append Rs (C ∷ []) [] k h

  last : get_or (Rs ++ C ∷ []) n [] ≡ C
  last = get_or-append_seam Rs C [] []

  pub holds_more : Holds T start ws' bs' (Rs ++ C ∷ [])
  unfolding state_in
  holds_more = record {
    begun = record {
      room = rw (length-put_all ws (get_or bs (length Rs) 0) (packed C)) H.begun.room;
      long = simp length-set H.begun.long;
      few = rw one (omega arith);
      rises = which (λ (k : ℕ). get_or bs' k 0 ≤ get_or bs' (k + 1) 0)
          (λ k h. rw (old k (omega arith), old (k + 1) (omega arith)) (H.begun.rises k h))
          (rw (old n (omega arith), new, at) (omega arith));
      ends = which (λ (k : ℕ). get_or bs' (k + 1) 0 ≤ record_limit)
          (λ k h. rw (old (k + 1) (omega arith)) (H.begun.ends k h))
          (rw new room);
    };
    front = old 0 (omega arith) ∙ H.front;
    made = which (λ (k : ℕ). Made T start (get_or (Rs ++ C ∷ []) k [])) (λ k h. rw (before k h) (H.made k h)) (rw last m);
    counts = which (λ (k : ℕ). get_or bs' (k + 1) 0 ≡ get_or bs' k 0 + length (packed (get_or (Rs ++ C ∷ []) k [])))
        (λ k h. rw (old (k + 1) (omega arith), old k (omega arith), before k h) (H.counts k h))
        (rw (new, old n (omega arith), last) at);
    is = which (λ (k : ℕ). entries ws' (get_or bs' k 0) (get_or bs' (k + 1) 0 - get_or bs' k 0) ≡ packed (get_or (Rs ++ C ∷ []) k []))
        (λ k h.
        let r = rise_to ws bs n H.begun (k + 1) n (omega arith) (omega arith) in
        let s = H.begun.rises k h in
        rw (old (k + 1) (omega arith), old k (omega arith), before k h) (put_all-before ws (get_or bs n 0) (packed C) (get_or bs k 0) (get_or bs (k + 1) 0 - get_or bs k 0) (omega arith) ∙ H.is k h))
        (let z : past - get_or bs n 0 ≡ length (packed C) = omega arith in
        rw (new, old n (omega arith), last, z) (put_all_here ws (get_or bs n 0) (packed C) (omega (arith, H.begun.room))));
  }

-- how many items

pub length-packed : (S : List ℕ) → length (written S) ≡ length (packed S)
unfolding written packed
length-packed S = simp length_mapped

pub sum-append : {A : Type 0} (f : A → ℕ) (xs : List A) (y : A) → sum f (xs ++ y ∷ []) ≡ sum f xs + f y
unfolding sum
sum-append f [] y = omega arith
sum-append f (x ∷ xs) y = let more = sum-append f xs y in omega arith

module _ (T : Table) (start : ℕ) (ws bs : List ℕ) (Rs : List (List ℕ)) (H : Holds T start ws bs Rs) where
  counted_to : (k : ℕ) → k ≤ length Rs → sum (λ (S : List ℕ). length (written S)) (take k Rs) ≡ get_or bs k 0
  unfolding sum
  counted_to zero h = sym H.front
  counted_to (suc k) h =
      let a = counted_to k (omega arith) in
      let b = H.counts k (omega arith) in
      let c = length-packed (get_or Rs k []) in
      let d = add-one k in
      rw (take-suc Rs k [] (omega arith), sum-append (λ (S : List ℕ). length (written S)) (take k Rs) (get_or Rs k [])) (rw (a, c, ← b, d) refl)

  pub holds_counted : sum (λ (S : List ℕ). length (written S)) Rs ≡ get_or bs (length Rs) 0
  holds_counted = ap (sum (λ (S : List ℕ). length (written S))) (sym (take-length Rs)) ∙ counted_to (length Rs) (omega arith)

  holds_list : states_in ws bs (length Rs) ≡ map packed Rs
  unfolding states_in
  holds_list =
      let a = length-map-below (state_in ws bs) (length Rs) in
      ext_get_or (packed []) (map (state_in ws bs) (below (length Rs))) (map packed Rs) (a ∙ sym (length_mapped packed Rs)) (λ i l.
      let h : i < length Rs = rw a at l in
      get_d_map-below (state_in ws bs) (length Rs) i (packed []) h ∙ H.is i h ∙ sym (get_or-map packed Rs i []))

  pub holds_place : (F : TableFits T) → start < length T.productions → (M : List ℕ) → Kernel T M → kernel_place (packed M) (states_in ws bs (length Rs)) ≡ place (closure T M) Rs
  holds_place F h M K = ap (kernel_place (packed M)) holds_list ∙ place_kernel T M K Rs (λ t l. made_told T F start h (H.made t l))
