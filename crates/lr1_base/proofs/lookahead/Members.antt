-- Laws of a set's tokens in order, `members` of specs/lookahead/Tokens: which they are, that they ascend, how many, and the least and the others.
use mathlib.Core.Path.{◌≡◌, sym, ap, ◌∙◌}
use mathlib.Core.Bool.{Bool, true, false, ◌&&◌, not, and-true, and-false, true≢false}
use mathlib.Core.List.{List, [], ◌∷◌}
use Prim.Native.Nat.{ℕ, zero, suc, ◌+◌, ◌*◌, ◌/◌, ◌%◌, ◌^◌, ◌≤◌, ◌<◌}
use native.Mathlib.Nat.{pow-suc}
use native.Mathlib.Omega.{arith}
use lib.Arith.{lt-one}
use lib.Count.{ones, ones_step, count_trailing_zeros}
use lib.Dec.{eqb, ltb}
use lib.ListN.{length, get_or}
use borrow.Author.Tests.{eqb-true, eqb-false, ne_eqb, ltb-true, ltb-false, lt-ltb}
use Rattle.lr1_base.specs.repr.Lists.{up_from, below, mem, keep}
use Rattle.lr1_base.proofs.repr.Lists.{cases, length-up_from, get_d_up_from, mem_at, mem_index, mem-keep, mem-up_from, mem_below, mem-cons_here, keep-nil, keep-yes, keep_no, keep-none, keep_agree, length-keep, length-below}
use Rattle.lr1_base.specs.lookahead.Tokens.{has, without, members}
use Rattle.lr1_base.proofs.lookahead.Laws.{has-none, has_lowest, has_half, has-without}

-- which they are

pub members-mem : (s k : ℕ) → mem k (members s) ≡ (ltb k 64 && has s k)
unfolding members
members-mem s k = mem-keep (has s) k (below 64) ∙ rw (mem_below k 64)

pub mem-members : (s k : ℕ) → k < 64 → mem k (members s) ≡ has s k
mem-members s k h = members-mem s k ∙ rw (lt-ltb k 64 h)

pub members_few : (s : ℕ) → length (members s) ≤ 64
unfolding members
members_few s = omega (arith, length-keep (has s) (below 64), length-below 64)

pub members-none : members 0 ≡ []
unfolding members
members-none = keep-none (has 0) (below 64) 0 (λ i h. has-none (get_or (below 64) i 0))

-- they ascend

kept_from : (t : ℕ → Bool) (from n i : ℕ) → i < length (keep t (up_from from n)) → from ≤ get_or (keep t (up_from from n)) i 0
kept_from t from n i h =
    let k = get_or (keep t (up_from from n)) i 0 in
    let m : mem k (keep t (up_from from n)) ≡ true = mem_at (keep t (up_from from n)) i 0 h in
    let r : ((not (ltb k from) && ltb k (from + n)) && t k) ≡ true = ap (λ (b : Bool). b && t k) (sym (mem-up_from k from n)) ∙ sym (mem-keep t k (up_from from n)) ∙ m in
    cases (ltb k from) (λ e. absurd (true≢false (sym (rw e at r)))) (ltb-false k from)

pub kept_ascend : (t : ℕ → Bool) (from n i j : ℕ) → i < j → j < length (keep t (up_from from n)) → get_or (keep t (up_from from n)) i 0 < get_or (keep t (up_from from n)) j 0
unfolding up_from
kept_ascend t from zero i j l h = absurd (omega (arith, ap length (keep-nil t)))
kept_ascend t from (suc n) i j l h =
    let rest = kept_ascend t (suc from) n in
    cases (t from)
    (λ e. rw (keep-yes t from (up_from (suc from) n) e) (here rest i j l (rw (keep-yes t from (up_from (suc from) n) e) at h)))
    (λ e. rw (keep_no t from (up_from (suc from) n) e) (rest i j l (rw (keep_no t from (up_from (suc from) n) e) at h)))
  where
    here : ((i j : ℕ) → i < j → j < length (keep t (up_from (suc from) n)) → get_or (keep t (up_from (suc from) n)) i 0 < get_or (keep t (up_from (suc from) n)) j 0)
        → (i j : ℕ) → i < j → j < suc (length (keep t (up_from (suc from) n)))
        → get_or (from ∷ keep t (up_from (suc from) n)) i 0 < get_or (from ∷ keep t (up_from (suc from) n)) j 0
    here rest i zero l h = absurd (omega arith)
    here rest zero (suc j) l h = kept_from t (suc from) n j (omega arith)
    here rest (suc i) (suc j) l h = rest i j (omega arith) (omega arith)

pub members_ascend : (s i j : ℕ) → i < j → j < length (members s) → get_or (members s) i 0 < get_or (members s) j 0
unfolding members below
members_ascend s i j l h = kept_ascend (has s) 0 64 i j l h

-- how many: the ones of the word

kept_half : (s from n : ℕ) → length (keep (has s) (up_from (suc from) n)) ≡ length (keep (has (s / 2)) (up_from from n))
unfolding up_from
kept_half s from zero = rw (keep-nil (has s), keep-nil (has (s / 2)))
kept_half s from (suc n) =
    let rest = kept_half s (suc from) n in
    cases (has (s / 2) from)
    (λ e. rw (keep-yes (has s) (suc from) (up_from (suc (suc from)) n) (has_half s from ∙ e), keep-yes (has (s / 2)) from (up_from (suc from) n) e) (ap suc rest))
    (λ e. rw (keep_no (has s) (suc from) (up_from (suc (suc from)) n) (has_half s from ∙ e), keep_no (has (s / 2)) from (up_from (suc from) n) e) rest)

kept_count : (n s : ℕ) → s < 2 ^ n → length (keep (has s) (up_from 0 n)) ≡ ones s
unfolding up_from ones
kept_count zero s h = ap length (keep-nil (has s)) ∙ ap ones (sym (lt-one h))
kept_count (suc n) s h =
    let l : s < 2 ^ n * 2 = rw (pow-suc 2 n) at h in
    let rest = kept_half s 0 n ∙ kept_count n (s / 2) (omega arith) in
    let step = ones_step s in
    cases (eqb (s % 2) 1)
    (λ e. let o = eqb-true (s % 2) 1 e in rw (keep-yes (has s) 0 (up_from 1 n) (has_lowest s ∙ e)) (omega arith))
    (λ e. let o = eqb-false (s % 2) 1 e in rw (keep_no (has s) 0 (up_from 1 n) (has_lowest s ∙ e)) (omega arith))

pub members_count : (s : ℕ) → s < 2 ^ 64 → length (members s) ≡ ones s
unfolding members below
members_count s h = kept_count 64 s h

-- the least token, and the others

kept_next : (s k from n : ℕ) → from ≤ k → k < from + n → has s k ≡ true → ((j : ℕ) → j < k → has s j ≡ false) → keep (has s) (up_from from n) ≡ k ∷ keep (has (without s k)) (up_from from n)
unfolding up_from
kept_next s k from zero h l e least = absurd (omega arith)
kept_next s k from (suc n) h l e least =
    let rest = kept_next s k (suc from) n in
    cases (eqb from k)
    (λ q.
    let p = eqb-true from k q in
    let off : has (without s k) from ≡ false = has-without s k from ∙ rw q (and-false (has s from)) in
    keep-yes (has s) from (up_from (suc from) n) (ap (has s) p ∙ e)
    ∙ rw (p) (ap (λ (ks : List ℕ). k ∷ ks) (others p ∙ sym (rw p at (keep_no (has (without s k)) from (up_from (suc from) n) off)))))
    (λ q.
    let p = eqb-false from k q in
    let no = least from (omega arith) in
    let off : has (without s k) from ≡ false = has-without s k from ∙ rw no in
    rw (keep_no (has s) from (up_from (suc from) n) no, keep_no (has (without s k)) from (up_from (suc from) n) off) (rest (omega arith) (omega arith) e least))
  where
    others : from ≡ k → keep (has s) (up_from (suc k) n) ≡ keep (has (without s k)) (up_from (suc k) n)
    others p = keep_agree (has s) (has (without s k)) (up_from (suc k) n) 0 (λ i h.
        let g : i < n = rw (length-up_from (suc k) n) at h in
        rw (get_d_up_from (suc k) n i 0 g, has-without s k (suc k + i), ne_eqb (suc k + i) k (omega arith)) (sym (and-true (has s (suc k + i)))))

pub members-next : (s k : ℕ) → k < 64 → has s k ≡ true → ((j : ℕ) → j < k → has s j ≡ false) → members s ≡ k ∷ members (without s k)
unfolding members below
members-next s k h e least = kept_next s k 0 64 (omega arith) (omega arith) e least

-- the zeros of a word below its lowest one are as many as its least token says
pub trailing_least : (n s : ℕ) → 0 < s → s < 2 ^ n → (count_trailing_zeros n s < n) × (has s (count_trailing_zeros n s) ≡ true) × ((j : ℕ) → j < count_trailing_zeros n s → has s j ≡ false)
unfolding count_trailing_zeros
trailing_least zero s p h = absurd (omega arith)
trailing_least (suc n) s p h =
    let l : s < 2 ^ n * 2 = rw (pow-suc 2 n) at h in
    cases (eqb (s % 2) 1)
    (λ e. let z = odd n s (eqb-true (s % 2) 1 e) in rw z (omega arith, has_lowest s ∙ e, λ j m. absurd (omega arith)))
    (λ e.
    let o = eqb-false (s % 2) 1 e in
    let r = trailing_least n (s / 2) (omega arith) (omega arith) in
    let z = even n s (omega arith) in
    rw z (omega (arith, r.0), has_half s (count_trailing_zeros n (s / 2)) ∙ r.1, least e (count_trailing_zeros n (s / 2)) r.2))
  where
    odd : (n s : ℕ) → s % 2 ≡ 1 → count_trailing_zeros (suc n) s ≡ 0
    odd n s o = rw (o, count_trailing_zeros)

    even : (n s : ℕ) → s % 2 ≡ 0 → count_trailing_zeros (suc n) s ≡ suc (count_trailing_zeros n (s / 2))
    even n s o = rw (o, count_trailing_zeros)

    least : eqb (s % 2) 1 ≡ false → (t : ℕ) → ((j : ℕ) → j < t → has (s / 2) j ≡ false) → (j : ℕ) → j < suc t → has s j ≡ false
    least e t f zero l = has_lowest s ∙ e
    least e t f (suc j) l = has_half s j ∙ f j (omega arith)

-- so the first of the tokens is the least, and the set without it has the others
pub members_step : (s k : ℕ) (ks : List ℕ) → members s ≡ k ∷ ks → (k < 64) × (has s k ≡ true) × (members (without s k) ≡ ks)
members_step s k ks e =
    let m : mem k (members s) ≡ true = ap (mem k) e ∙ mem-cons_here k ks in
    let both : (ltb k 64 && has s k) ≡ true = sym (members-mem s k) ∙ m in
    let small : ltb k 64 ≡ true = cases (ltb k 64) (λ t. t) (λ t. absurd (true≢false (sym (rw t at both)))) in
    let there : has s k ≡ true = rw small at both in
    let next : members s ≡ k ∷ members (without s k) = members-next s k (ltb-true k 64 small) there (least (ltb-true k 64 small)) in
    (ltb-true k 64 small, there, cc)
  where
    least : k < 64 → (j : ℕ) → j < k → has s j ≡ false
    least h j l =
        cases (has s j)
        (λ t.
        let at = mem_index j (members s) 0 (mem-members s j (omega arith) ∙ t) in
        let first : get_or (members s) 0 0 ≡ k = ap (λ (l : List ℕ). get_or l 0 0) e in
        absurd (later at.0 at.1 at.2 first))
        (λ t. t)
      where
        later : (i : ℕ) → i < length (members s) → get_or (members s) i 0 ≡ j → get_or (members s) 0 0 ≡ k → ⊥
        later zero h q f = omega arith
        later (suc i) h q f = omega (arith, members_ascend s 0 (suc i) (omega arith) h)

-- of a word that is not empty
pub members_first : (s : ℕ) → 0 < s → s < 2 ^ 64 → members s ≡ count_trailing_zeros 64 s ∷ members (without s (count_trailing_zeros 64 s))
members_first s p h = let r = trailing_least 64 s p h in members-next s (count_trailing_zeros 64 s) r.0 r.1 r.2
