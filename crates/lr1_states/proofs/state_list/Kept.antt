-- Laws of states in words, one for each way through the code.
use Rattle.std.specs.Prelude.{◌≡◌, ℕ, zero, suc, ◌+◌, ◌-◌, ◌*◌, ◌<◌, ◌≤◌, Bool, true, false, not, cond, eqb, List, [], ◌∷◌, ◌++◌, map, length, get_or, take, drop, set, replicate}
use mathlib.Core.Path.{refl, sym, ap, ◌∙◌}
use native.Mathlib.Numerals.{add-one}
use native.Mathlib.Omega.{arith}
use Rattle.std.specs.List.{count_by, sum_by}
use Rattle.std.proofs.lemmas.List.Sums.{sum_by-drop_more}
use Rattle.std.proofs.Math.ListN.{drop_of_length-le}
use borrow.Author.Tests.{eqb-true, eqb-false}
use Rattle.lr1_base.specs.repr.Sizes.{item_limit}
use Rattle.lr1_base.specs.repr.Lists.{up_from, below, keep}
use Rattle.lr1_base.proofs.repr.Lists.{cases, up_from_more, up_from_end}
use Rattle.lr1_states.specs.stored_item.Stored.{Entry, entry_at, entries, put_entry, held, packed, is_same_kernel}
use Rattle.std.specs.Option.{MatchOption}
use Rattle.std.proofs.Common.{Option, Some, None, length-set}
use Rattle.lr1_base.specs.repr.Meaning.{All}
use Rattle.lr1_states.proofs.stored_item.Stored.{length-put, all_entries, all_part, all_none, all-more, entries_fit}
use Rattle.lr1_states.proofs.stored_item.Packed.{held_none, held-some}
use Rattle.lr1_states.specs.state_list.Kept.{puts, unpacked, put_all, state_in, states_in, kernel_place}

-- flat again

pub record Unpacking (S : List ℕ) (all left : List Entry) : Type 0 where
  pub long : length S ≡ item_limit
  pub inside : All (λ (e : Entry). e.place < item_limit) left
  pub put : puts S left ≡ unpacked all

pub unpack_start : (ws : List ℕ) (from past : ℕ) → from ≤ past → past * 5 ≤ length ws → ((i : ℕ) → from ≤ i → i < past → (entry_at ws i).place < item_limit)
    → Unpacking (replicate item_limit 0) (entries ws from (past - from)) (all_entries (take (past * 5 - from * 5) (drop (from * 5) ws)))
unfolding unpacked
unpack_start ws from past h l f =
    rw (all_part ws from past h l) record {
      long = refl;
      inside = entries_fit ws item_limit from (past - from) (λ i u v. f i u (omega arith));
      put = refl;
    }

pub unpack-more : (S w rest : List ℕ) (all : List Entry) (x s : ℕ) → length w ≡ 5 → Unpacking S all (all_entries (w ++ rest)) → record { place = x; set = s } ≡ entry_at w 0
    → (x < item_limit) × Unpacking (set S x s) all (all_entries rest)
unfolding puts All
unpack-more S w rest all x s h u e =
    let t : Unpacking S all (record { place = x; set = s } ∷ all_entries rest) = rw (all-more w rest h, ← e) at u in
    (t.inside.0, record { long = simp length-set t.long; inside = t.inside.1; put = t.put })

pub unpack_end : (S rest : List ℕ) (all : List Entry) → length rest < 5 → Unpacking S all (all_entries rest) → S ≡ unpacked all
unfolding puts
unpack_end S rest all h u = rw (all_none rest h) at u.put

-- the places of a range

module _ (S : List ℕ) (p n s : ℕ) (h : p < n) (e : s ≡ get_or S p 0) where
  held_skip : s ≡ 0 → held S (up_from p (n - p)) ≡ held S (up_from (p + 1) (n - (p + 1)))
  held_skip z = rw (up_from_more p n h) (held_none S p (up_from (p + 1) (n - (p + 1))) (sym e ∙ z))

  held_here : (s ≡ 0 → ⊥) → held S (up_from p (n - p)) ≡ record { place = p; set = s } ∷ held S (up_from (p + 1) (n - (p + 1)))
  held_here z = rw (up_from_more p n h, e) (held-some S p (up_from (p + 1) (n - (p + 1))) (λ q. z (e ∙ q)))

held_end : (S : List ℕ) (p n : ℕ) → n ≤ p → held S (up_from p (n - p)) ≡ []
unfolding keep
held_end S p n h = rw (up_from_end p n h) refl

-- counting them

pub count_start : (S : List ℕ) (m : ℕ) → m + length (held S (up_from 0 (length S - 0))) ≡ m + length (packed S)
unfolding packed below
count_start S m = let z : length S - 0 ≡ length S = omega arith in rw z refl

pub count_more : (S : List ℕ) (p n s m r all : ℕ) → p < n → s ≡ get_or S p 0 → (s ≡ 0 → r ≡ m) × ((s ≡ 0 → ⊥) → r ≡ m + 1)
    → m + length (held S (up_from p (n - p))) ≡ all → r + length (held S (up_from (p + 1) (n - (p + 1)))) ≡ all
count_more S p n s m r all h e f q =
    cases (eqb s 0)
    (λ t. let z = eqb-true s 0 t in rw (f.0 z) (rw (held_skip S p n s h e z) at q))
    (λ t. let z = eqb-false s 0 t in let w : m + suc (length (held S (up_from (p + 1) (n - (p + 1))))) ≡ all = rw (held_here S p n s h e z) at q in omega (arith, f.1 z))

pub count_end : (S : List ℕ) (p n m all : ℕ) → n ≤ p → m + length (held S (up_from p (n - p))) ≡ all → m ≡ all
count_end S p n m all h q = let w : m + 0 ≡ all = rw (held_end S p n h) at q in omega arith

some : ℕ → ℕ
some x = cond (not (eqb x 0)) 1 0

pub count-packed : (S : List ℕ) → length (packed S) ≡ count_by (λ (x : ℕ). not (eqb x 0)) S
unfolding packed below up_from some keep
count-packed S = from 0 (length S) (omega arith)
  where
    from : (p n : ℕ) → p + n ≡ length S → length (held S (up_from p n)) ≡ sum_by some (drop p S)
    from p zero h = let l : length S ≤ p = omega arith in rw (drop_of_length-le S l) refl
    from p (suc n) h =
        let more = from (suc p) n (omega arith) in
        let l : p < length S = omega arith in
        let step : sum_by some (drop p S) ≡ some (get_or S p 0) + sum_by some (drop (suc p) S) = rw (← add-one p) (sum_by-drop_more some S p 0 l) in
        cases (eqb (get_or S p 0) 0)
        (λ t. ap length (held_none S p (up_from (suc p) n) (eqb-true (get_or S p 0) 0 t)) ∙ more ∙ sym (step ∙ rw t (omega arith)))
        (λ t. ap length (held-some S p (up_from (suc p) n) (eqb-false (get_or S p 0) 0 t)) ∙ rw more (sym (step ∙ rw t (omega arith))))

-- storing them

pub length-put_all : (ws : List ℕ) (m : ℕ) (es : List Entry) → length (put_all ws m es) ≡ length ws
unfolding put_all
length-put_all ws m [] = refl
length-put_all ws m (e ∷ es) = length-put_all (put_entry ws m e.place e.set) (m + 1) es ∙ length-put ws m e.place e.set

put_all-more : (ws : List ℕ) (m x s : ℕ) (es : List Entry) → put_all ws m (record { place = x; set = s } ∷ es) ≡ put_all (put_entry ws m x s) (m + 1) es
unfolding put_all
put_all-more ws m x s es = refl

put_all-none : (ws : List ℕ) (m : ℕ) → put_all ws m [] ≡ ws
unfolding put_all
put_all-none ws m = refl

-- what one place leaves
abbrev pub One : List ℕ → List ℕ → ℕ → ℕ → ℕ → ℕ → Type 0
One ws ws' m p s r = (s ≡ 0 → (r ≡ m) × (ws' ≡ ws)) × ((s ≡ 0 → ⊥) → (r ≡ m + 1) × (ws' ≡ put_entry ws m p s))

pub one_long : (ws ws' : List ℕ) (m p s r : ℕ) → One ws ws' m p s r → length ws' ≡ length ws
one_long ws ws' m p s r f =
    cases (eqb s 0)
    (λ t. ap length (f.0 (eqb-true s 0 t)).1)
    (λ t. ap length (f.1 (eqb-false s 0 t)).1 ∙ length-put ws m p s)

pub one_counts : (ws ws' : List ℕ) (m p s r : ℕ) → One ws ws' m p s r → (s ≡ 0 → r ≡ m) × ((s ≡ 0 → ⊥) → r ≡ m + 1)
one_counts ws ws' m p s r f = (λ z. (f.0 z).0, λ z. (f.1 z).0)

pub one_room : (S : List ℕ) (p n s m all : ℕ) → p < n → s ≡ get_or S p 0 → m + length (held S (up_from p (n - p))) ≡ all → (s ≡ 0 → ⊥) → m < all
one_room S p n s m all h e q z = let w : m + suc (length (held S (up_from (p + 1) (n - (p + 1))))) ≡ all = rw (held_here S p n s h e z) at q in omega arith

pub pack-start : (S ws : List ℕ) (m : ℕ) → put_all ws m (held S (up_from 0 (length S - 0))) ≡ put_all ws m (packed S)
unfolding packed below
pack-start S ws m = let z : length S - 0 ≡ length S = omega arith in rw z refl

pub pack-more : (S ws ws' : List ℕ) (p n s m r : ℕ) (all : List ℕ) → p < n → s ≡ get_or S p 0 → One ws ws' m p s r
    → put_all ws m (held S (up_from p (n - p))) ≡ all → put_all ws' r (held S (up_from (p + 1) (n - (p + 1)))) ≡ all
pack-more S ws ws' p n s m r all h e f q =
    cases (eqb s 0)
    (λ t. let z = eqb-true s 0 t in rw ((f.0 z).0, (f.0 z).1) (rw (held_skip S p n s h e z) at q))
    (λ t.
    let z = eqb-false s 0 t in
    rw ((f.1 z).0, (f.1 z).1) (sym (put_all-more ws m p s (held S (up_from (p + 1) (n - (p + 1))))) ∙ (rw (held_here S p n s h e z) at q)))

pub pack_end : (S ws : List ℕ) (p n m : ℕ) (all : List ℕ) → n ≤ p → put_all ws m (held S (up_from p (n - p))) ≡ all → ws ≡ all
pack_end S ws p n m all h q = sym (put_all-none ws m) ∙ (rw (held_end S p n h) at q)

-- looking for a kernel

abbrev pub from_state : List ℕ → List ℕ → ℕ → ℕ → List (List Entry)
from_state ws bs k n = map (state_in ws bs) (up_from k (n - k))

from_more : (ws bs : List ℕ) (k n : ℕ) → k < n → from_state ws bs k n ≡ state_in ws bs k ∷ from_state ws bs (k + 1) n
from_more ws bs k n h = rw (up_from_more k n h) refl

find-start : (ks : List Entry) (ws bs : List ℕ) (n : ℕ) → 0 + kernel_place ks (from_state ws bs 0 n) ≡ kernel_place ks (states_in ws bs n)
unfolding states_in below
find-start ks ws bs n =
    let z : n - 0 ≡ n = omega arith in
    let w : kernel_place ks (from_state ws bs 0 n) ≡ kernel_place ks (map (state_in ws bs) (up_from 0 n)) = rw z refl in
    omega arith

pub place-yes : (ks es : List Entry) (ess : List (List Entry)) → is_same_kernel es ks ≡ true → kernel_place ks (es ∷ ess) ≡ 0
unfolding kernel_place
place-yes ks es ess t = rw (t, kernel_place)

pub place_no : (ks es : List Entry) (ess : List (List Entry)) → is_same_kernel es ks ≡ false → kernel_place ks (es ∷ ess) ≡ suc (kernel_place ks ess)
unfolding kernel_place
place_no ks es ess t = rw (t, kernel_place)

module _ (ks : List Entry) (ws bs : List ℕ) (k n all : ℕ) (b : Bool) (e : b ≡ is_same_kernel (state_in ws bs k) ks) where
  find_here : k < n → b ≡ true → k + kernel_place ks (from_state ws bs k n) ≡ all → all ≡ k
  find_here h t q =
      let w : k + 0 ≡ all = rw (from_more ws bs k n h, place-yes ks (state_in ws bs k) (from_state ws bs (k + 1) n) (sym e ∙ t)) at q in omega arith

  find-more : k < n → b ≡ false → k + kernel_place ks (from_state ws bs k n) ≡ all → k + 1 + kernel_place ks (from_state ws bs (k + 1) n) ≡ all
  find-more h t q =
      let w : k + suc (kernel_place ks (from_state ws bs (k + 1) n)) ≡ all = rw (from_more ws bs k n h, place_no ks (state_in ws bs k) (from_state ws bs (k + 1) n) (sym e ∙ t)) at q in
      omega arith

find_end : (ks : List Entry) (ws bs : List ℕ) (k n all : ℕ) → k ≤ n → n ≤ k → k + kernel_place ks (from_state ws bs k n) ≡ all → all ≡ n
unfolding kernel_place
find_end ks ws bs k n all l h q = let w : k + 0 ≡ all = rw (up_from_end k n h) at q in omega arith

-- the first state whose kernel is this one, as the library's search says it
pub found_first : (ks : List Entry) (ws bs : List ℕ) (n : ℕ) (r : Option ℕ) → MatchOption r ((k : ℕ) → 0 ≤ k → k < n → is_same_kernel (state_in ws bs k) ks ≡ false) (λ i. (0 ≤ i) × (i < n) × (is_same_kernel (state_in ws bs i) ks ≡ true) × ((k : ℕ) → 0 ≤ k → k < i → is_same_kernel (state_in ws bs k) ks ≡ false))
    → let p = kernel_place ks (states_in ws bs n) in MatchOption r (p ≡ n) (λ k. (k < n) × (p ≡ k))
found_first ks ws bs n r f = go r f
  where
    from_here : (k : ℕ) → k ≤ n → ((j : ℕ) → 0 ≤ j → j < k → is_same_kernel (state_in ws bs j) ks ≡ false) → k + kernel_place ks (from_state ws bs k n) ≡ kernel_place ks (states_in ws bs n)
    from_here zero h g = find-start ks ws bs n
    from_here (suc k) h g =
        let q = find-more ks ws bs k n (kernel_place ks (states_in ws bs n)) false (sym (g k (omega arith) (omega arith))) (omega arith) refl (from_here k (omega arith) (λ j l u. g j l (omega arith))) in
        rw (add-one k) at q

    go : (r : Option ℕ) → MatchOption r ((k : ℕ) → 0 ≤ k → k < n → is_same_kernel (state_in ws bs k) ks ≡ false) (λ i. (0 ≤ i) × (i < n) × (is_same_kernel (state_in ws bs i) ks ≡ true) × ((k : ℕ) → 0 ≤ k → k < i → is_same_kernel (state_in ws bs k) ks ≡ false))
        → MatchOption r (kernel_place ks (states_in ws bs n) ≡ n) (λ k. (k < n) × (kernel_place ks (states_in ws bs n) ≡ k))
    go None g = find_end ks ws bs n n (kernel_place ks (states_in ws bs n)) (omega arith) (omega arith) (from_here n (omega arith) g)
    go (Some i) g = (g.1, find_here ks ws bs i n (kernel_place ks (states_in ws bs n)) true (sym g.2) g.1 refl (from_here i (omega (arith, g.1)) g.3))
