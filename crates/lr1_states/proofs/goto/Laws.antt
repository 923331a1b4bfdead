-- Laws of what one step leaves, one for each way through the code.
use Rattle.std.proofs.Common.{◌≡◌, ℕ, zero, suc, ◌+◌, ◌-◌, ◌*◌, ◌^◌, ◌<◌, ◌≤◌, true, false, eqb, ltb, List, ◌∷◌, ◌++◌, map, length, get_or, take, drop, set, replicate, sym, refl, ap, ◌∙◌, arith, length-append, take_at, get_or-append-add, ltb-false, ltb-true, eqb-true}
use lib.ListN.{length-replicate, get_or-append}
use borrow.Author.Tests.{eqb-false}
use Rattle.lr1_base.specs.repr.Sizes.{index_limit, item_limit}
use Rattle.lr1_base.specs.repr.Lists.{up_from, below, keep}
use Rattle.lr1_base.specs.repr.Meaning.{Table}
use Rattle.lr1_base.proofs.repr.Lists.{cases, clash, get_d_map, get_d_up_from, length-up_from, length_mapped}
use Rattle.lr1_states.specs.canonical.States.{places, closure}
use Rattle.lr1_states.proofs.canonical.Rounds.{Sized}
use Rattle.lr1_states.proofs.canonical.Closure.{closure_sized}
use Rattle.lr1_states.specs.closure.Grammar.{OfTable}
use Rattle.lr1_states.specs.closure.Fed.{Flat}
use Rattle.lr1_states.specs.stored_item.Stored.{Entry, no_entry, entry_at, entries, held, packed}
use Rattle.lr1_states.proofs.stored_item.Stored.{length-entries}
use Rattle.lr1_states.proofs.stored_item.Packed.{held_none, held-some}
use Rattle.lr1_states.specs.state_list.Kept.{unpacked, put_all}
use Rattle.lr1_states.proofs.state_list.Flat.{unpacked-packed}
use Rattle.lr1_states.specs.goto.Search.{KernelIn, Stored}
use Rattle.lr1_base.proofs.laws.Lists.{zero_at}

-- `append`

pub stored_none : (f l p : ℕ) (es : List Entry) (ws bs : List ℕ) (n : ℕ) → p ≡ length es → l < f + (get_or bs n 0 + p) → Stored f l es ws ws bs bs n false
stored_none f l p es ws bs n e h = record {
  room = λ q. clash false q refl;
  none = λ q. rw (← e) h;
  words = λ q. clash false q refl;
  begins = λ q. clash false q refl;
}

pub stored_some : (f l p r : ℕ) (es : List Entry) (ws ws' bs : List ℕ) (n : ℕ) → p ≡ length es → f + (get_or bs n 0 + p) ≤ l → r ≡ get_or bs n 0 + length es → ws' ≡ put_all ws (get_or bs n 0) es
    → Stored f l es ws ws' bs (set bs (n + 1) r) n true
stored_some f l p r es ws ws' bs n e h q w = record {
  room = λ q. rw (← e) h;
  none = λ q. clash true refl q;
  words = λ _. w;
  begins = λ _. rw q refl;
}

-- places of packed items

held_below : (M : List ℕ) (x n m : ℕ) → m < length (held M (up_from x n)) → (get_or (held M (up_from x n)) m no_entry).place < x + n
unfolding up_from keep
held_below M x zero m h = absurd (omega arith)
held_below M x (suc n) m h =
    let more : (m : ℕ) → m < length (held M (up_from (suc x) n)) → (get_or (held M (up_from (suc x) n)) m no_entry).place < suc x + n = held_below M (suc x) n in
    cases (eqb (get_or M x 0) 0)
    (λ t.
    let q = held_none M x (up_from (suc x) n) (eqb-true (get_or M x 0) 0 t) in
    let l : m < length (held M (up_from (suc x) n)) = rw q at h in
    rw q (omega (arith, more m l)))
    (λ t.
    let q = held-some M x (up_from (suc x) n) (eqb-false (get_or M x 0) 0 t) in
    rw q (by more m (rw q at h)))
  where
    by : ((m : ℕ) → m < length (held M (up_from (suc x) n)) → (get_or (held M (up_from (suc x) n)) m no_entry).place < suc x + n) → (m : ℕ) → m < suc (length (held M (up_from (suc x) n)))
        → (get_or (record { place = x; set = get_or M x 0 } ∷ held M (up_from (suc x) n)) m no_entry).place < x + suc n
    by more zero l = omega arith
    by more (suc m) l = omega (arith, more m (omega arith))

pub entry_places : (ws R : List ℕ) (from n : ℕ) → entries ws from n ≡ packed R → (m : ℕ) → from ≤ m → m < from + n → (entry_at ws m).place < length R
unfolding entries packed below
entry_places ws R from n e m h l =
    let i : ℕ = m - from in
    let s : length (map (entry_at ws) (up_from from n)) ≡ n = length_mapped (entry_at ws) (up_from from n) ∙ length-up_from from n in
    let k : m - from < length (held R (up_from 0 (length R))) = rw (← e, s) (omega arith) in
    let w = held_below R 0 (length R) (m - from) k in
    let u : m - from < length (up_from from n) = rw (length-up_from from n) (omega arith) in
    let q : from + (m - from) ≡ m = omega arith in
    let v : get_or (map (entry_at ws) (up_from from n)) (m - from) no_entry ≡ entry_at ws m = get_d_map (entry_at ws) (up_from from n) (m - from) 0 no_entry u ∙ ap (entry_at ws) (get_d_up_from from n (m - from) 0 (omega arith) ∙ q) in
    let z : (entry_at ws m).place ≡ (get_or (held R (up_from 0 (length R))) (m - from) no_entry).place = ap (λ (e : Entry). e.place) (sym v ∙ ap (λ (l : List Entry). get_or l (m - from) no_entry) e) in
    omega arith

-- how many items a kernel has

held_short : (M : List ℕ) (x n : ℕ) → length (held M (up_from x n)) ≤ n
unfolding up_from keep
held_short M x zero = omega arith
held_short M x (suc n) =
    let more = held_short M (suc x) n in
    cases (eqb (get_or M x 0) 0)
    (λ t. rw (held_none M x (up_from (suc x) n) (eqb-true (get_or M x 0) 0 t)) (omega arith))
    (λ t. rw (held-some M x (up_from (suc x) n) (eqb-false (get_or M x 0) 0 t)) (omega arith))

pub packed_short : (M : List ℕ) → length (packed M) ≤ length M
unfolding packed below
packed_short M = held_short M 0 (length M)

pub kernel_few : (ks : List ℕ) (many P : ℕ) → P ≤ 128 → KernelIn ks many P → many ≤ item_limit
kernel_few ks many P few k =
    let a = length-entries ks 0 many in
    let b = ap length k.is in
    omega (arith, a, b, packed_short k.kernel, k.long)

-- `close`

pub padded_fits : (M : List ℕ) (n : ℕ) → ((x : ℕ) → get_or M x 0 < 2 ^ 64) → (x : ℕ) → get_or (M ++ replicate n 0) x 0 < 2 ^ 64
padded_fits M n f x =
    cases (ltb x (length M))
    (λ t. rw (get_or-append M (replicate n 0) 0 x (ltb-true x (length M) t)) (f x))
    (λ t.
    let u = ltb-false x (length M) t in
    let q : length M + (x - length M) ≡ x = omega arith in
    let z : get_or (M ++ replicate n 0) x 0 ≡ 0 = ap (λ (y : ℕ). get_or (M ++ replicate n 0) y 0) (sym q) ∙ get_or-append-add M (replicate n 0) (x - length M) 0 ∙ zero_at n (x - length M) in
    rw z (omega arith))

module _ (ks : List ℕ) (many P : ℕ) (few : P ≤ 128) where
  flat_is : (M K : List ℕ) → length M ≡ index_limit * P → entries ks 0 many ≡ packed M → K ≡ unpacked (entries ks 0 (many - 0)) → K ≡ M ++ replicate (item_limit - length M) 0
  flat_is M K long e k =
      let z : many - 0 ≡ many = omega arith in
      k ∙ rw z (ap unpacked e ∙ unpacked-packed M (rw long (omega arith)))

  pub kernel_places : KernelIn ks many P → (m : ℕ) → 0 ≤ m → m < many → (entry_at ks m).place < item_limit
  kernel_places k m h l = let w = entry_places ks k.kernel 0 many k.is m h (omega arith) in omega (arith, k.long)

  pub kernel_flat : KernelIn ks many P → (K : List ℕ) → K ≡ unpacked (entries ks 0 (many - 0)) → Flat K
  kernel_flat k K e =
      let q = flat_is k.kernel K k.long k.is e in
      record {
        long = ap length q ∙ length-append k.kernel (replicate (item_limit - length k.kernel) 0) ∙ rw (length-replicate {A = ℕ} (item_limit - length k.kernel) 0, k.long) (omega arith);
        fits = λ x. rw q (padded_fits k.kernel (item_limit - length k.kernel) k.fits x);
      }

  -- the kernel's sets are told by its words
  kernel_one : (k : KernelIn ks many P) (M : List ℕ) → length M ≡ index_limit * P → entries ks 0 many ≡ packed M → M ≡ k.kernel
  kernel_one k M long e =
      let a = unpacked-packed M (rw long (omega arith)) in
      let b = unpacked-packed k.kernel (rw k.long (omega arith)) in
      let c : M ++ replicate (item_limit - length M) 0 ≡ k.kernel ++ replicate (item_limit - length k.kernel) 0 = sym a ∙ ap unpacked (sym e ∙ k.is) ∙ b in
      sym (take_at M (replicate (item_limit - length M) 0) (index_limit * P) long) ∙ ap (take (index_limit * P)) c
      ∙ take_at k.kernel (replicate (item_limit - length k.kernel) 0) (index_limit * P) k.long

  pub closed_is : (k : KernelIn ks many P) (K R : List ℕ) → K ≡ unpacked (entries ks 0 (many - 0)) → (T : Table) (g : List ℕ) (e : ℕ) (sets : List ℕ) → OfTable T g P e sets
      → R ≡ closure T (take (index_limit * P) K) ++ drop (index_limit * P) K → (M : List ℕ) → length M ≡ index_limit * P → entries ks 0 many ≡ packed M → take (index_limit * P) R ≡ closure T M
  closed_is k K R ek T g e sets G er M long is =
      let q = flat_is M K long is ek in
      let o = kernel_one k M long is in
      let p : index_limit * P ≡ places T = ap (λ (n : ℕ). index_limit * n) G.many in
      let z : Sized (places T) M = record { long = long ∙ p; fits = λ x. rw o (k.fits x) } in
      let t : take (index_limit * P) K ≡ M = ap (take (index_limit * P)) q ∙ take_at M (replicate (item_limit - length M) 0) (index_limit * P) long in
      rw er (take_at (closure T (take (index_limit * P) K)) (drop (index_limit * P) K) (index_limit * P) (rw t ((closure_sized T G.fits M z).long ∙ sym p)) ∙ ap (closure T) t)
