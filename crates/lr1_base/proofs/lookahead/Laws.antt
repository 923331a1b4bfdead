-- Laws of the sets of tokens of specs/lookahead/Tokens: what each operation has, and how large it is.
use mathlib.Core.Path.{◌≡◌, refl, sym, ap, ◌∙◌}
use mathlib.Core.Bool.{Bool, true, false, ◌&&◌, ◌||◌, not, and-true, and-false, or-false}
use Prim.Native.Nat.{ℕ, zero, suc, ◌-◌, ◌*◌, ◌/◌, ◌%◌, ◌^◌, ◌≤◌, ◌<◌, min, max}
use native.Mathlib.Nat.{zero-div, pow-suc, div-one, div-eq_of_lt, lt_of_lt_of_le, lt_of_le_of_lt}
use native.Mathlib.Numerals.{one-add}
use native.Mathlib.Omega.{arith}
use lib.Dec.{eqb, ltb, eqb-zero-suc, eqb-suc-zero, eqb-suc-suc, leb-suc-suc}
use lib.Pow.{shr-shr, pow_pos, pow_mono, pow-lt}
use lib.Bits.{bit_and, bit_or, or_shr, and_shr, or_step, and_step, or_lt, and_le_l}
use borrow.Author.Tests.{eqb-true, eq-eqb, ne_eqb, ltb-true, ltb-false, lt-ltb, le-ltb}
use Rattle.lr1_base.proofs.repr.Lists.{cases, clash}
use Rattle.lr1_base.specs.lookahead.Tokens.{has, single, union, meet, without, with, up_to}

-- a digit is 0 or 1

digit_or : (x y : ℕ) → x < 2 → y < 2 → eqb (max x y) 1 ≡ (eqb x 1 || eqb y 1)
digit_or zero zero h l = refl
digit_or zero (suc zero) h l = refl
digit_or zero (suc (suc y)) h l = absurd (omega arith)
digit_or (suc zero) zero h l = refl
digit_or (suc zero) (suc zero) h l = refl
digit_or (suc zero) (suc (suc y)) h l = absurd (omega arith)
digit_or (suc (suc x)) y h l = absurd (omega arith)

digit_and : (x y : ℕ) → x < 2 → y < 2 → eqb (min x y) 1 ≡ (eqb x 1 && eqb y 1)
digit_and zero zero h l = refl
digit_and zero (suc zero) h l = refl
digit_and zero (suc (suc y)) h l = absurd (omega arith)
digit_and (suc zero) zero h l = refl
digit_and (suc zero) (suc zero) h l = refl
digit_and (suc zero) (suc (suc y)) h l = absurd (omega arith)
digit_and (suc (suc x)) y h l = absurd (omega arith)

-- the lowest token, and the others, which are those of the half

pub has_lowest : (s : ℕ) → has s 0 ≡ eqb (s % 2) 1
unfolding has
has_lowest s = rw (div-one s)

pub has_half : (s k : ℕ) → has s (suc k) ≡ has (s / 2) k
unfolding has
has_half s k = ap (λ (x : ℕ). eqb (x % 2) 1) (ap (λ (j : ℕ). s / 2 ^ j) (sym (one-add k)) ∙ sym (shr-shr s 1 k))

-- what each set has

pub has-none : (k : ℕ) → has 0 k ≡ false
unfolding has
has-none k = rw (zero-div (2 ^ k))

pub has_above : (s n k : ℕ) → s < 2 ^ n → n ≤ k → has s k ≡ false
unfolding has
has_above s n k h l = rw (div-eq_of_lt (lt_of_lt_of_le h (pow_mono l)))

-- so a token of a set bounds the set from below, and the token by the size of the set
pub has_le : (s k : ℕ) → has s k ≡ true → 2 ^ k ≤ s
has_le s k e = cases (ltb s (2 ^ k)) (λ t. clash (has s k) e (has_above s k k (ltb-true s (2 ^ k) t) (omega arith))) (λ t. ltb-false s (2 ^ k) t)

pub has-below : (s n k : ℕ) → s < 2 ^ n → has s k ≡ true → k < n
has-below s n k h e = cases (ltb k n) (ltb-true k n) (λ t. clash (has s k) e (has_above s n k h (ltb-false k n t)))

pub has-union : (a b k : ℕ) → has (union a b) k ≡ (has a k || has b k)
unfolding has union
has-union a b k =
    let e : bit_or a b / 2 ^ k % 2 ≡ max (a / 2 ^ k % 2) (b / 2 ^ k % 2) = rw (or_shr a b k, or_step (a / 2 ^ k) (b / 2 ^ k)) (omega arith) in
    ap (λ (x : ℕ). eqb x 1) e ∙ digit_or (a / 2 ^ k % 2) (b / 2 ^ k % 2) (omega arith) (omega arith)

pub has_meet : (a b k : ℕ) → has (meet a b) k ≡ (has a k && has b k)
unfolding has meet
has_meet a b k =
    let e : bit_and a b / 2 ^ k % 2 ≡ min (a / 2 ^ k % 2) (b / 2 ^ k % 2) = rw (and_shr a b k, and_step (a / 2 ^ k) (b / 2 ^ k)) (omega arith) in
    ap (λ (x : ℕ). eqb x 1) e ∙ digit_and (a / 2 ^ k % 2) (b / 2 ^ k % 2) (omega arith) (omega arith)

power_half : (k : ℕ) → 2 ^ suc k / 2 ≡ 2 ^ k
power_half k = rw (pow-suc 2 k) (omega arith)

has_power : (k j : ℕ) → has (2 ^ k) j ≡ eqb j k
has_power zero zero = has_lowest 1
has_power zero (suc j) = has_half 1 j ∙ has-none j ∙ sym (eqb-suc-zero j)
has_power (suc k) zero = has_lowest (2 ^ suc k) ∙ rw (pow-suc 2 k, eqb-zero-suc k) (ne_eqb (2 ^ k * 2 % 2) 1 (omega arith))
has_power (suc k) (suc j) = has_half (2 ^ suc k) j ∙ ap (λ (x : ℕ). has x j) (power_half k) ∙ has_power k j ∙ sym (eqb-suc-suc j k)

pub has-single : (k j : ℕ) → has (single k) j ≡ eqb j k
unfolding single
has-single k j = has_power k j

has-ones : (n k : ℕ) → has (2 ^ n - 1) k ≡ ltb k n
has-ones zero k = has-none k ∙ sym (le-ltb k 0 (omega arith))
has-ones (suc n) zero =
    let p = pow_pos n in
    has_lowest (2 ^ suc n - 1) ∙ rw (pow-suc 2 n, lt-ltb 0 (suc n) (omega arith)) (eq-eqb ((2 ^ n * 2 - 1) % 2) 1 (omega arith))
has-ones (suc n) (suc k) =
    let p = pow_pos n in
    let h : (2 ^ suc n - 1) / 2 ≡ 2 ^ n - 1 = rw (pow-suc 2 n) (omega arith) in
    has_half (2 ^ suc n - 1) k ∙ ap (λ (x : ℕ). has x k) h ∙ has-ones n k ∙ sym (leb-suc-suc (suc k) n)

-- a token taken off
has_minus : (s k j : ℕ) → has s k ≡ true → has (s - 2 ^ k) j ≡ (has s j && not (eqb j k))
has_minus s zero zero e =
    let o = eqb-true (s % 2) 1 (sym (has_lowest s) ∙ e) in
    has_lowest (s - 1) ∙ ne_eqb ((s - 1) % 2) 1 (omega arith) ∙ sym (and-false (has s 0))
has_minus s zero (suc j) e =
    let o = eqb-true (s % 2) 1 (sym (has_lowest s) ∙ e) in
    let h : (s - 1) / 2 ≡ s / 2 = omega arith in
    has_half (s - 1) j ∙ rw (h, eqb-suc-zero j) (sym (has_half s j) ∙ sym (and-true (has s (suc j))))
has_minus s (suc k) zero e =
    let l : 2 ^ k * 2 ≤ s = rw (pow-suc 2 k) at (has_le s (suc k) e) in
    let h : (s - 2 ^ k * 2) % 2 ≡ s % 2 = omega arith in
    has_lowest (s - 2 ^ suc k) ∙ rw (pow-suc 2 k, h, eqb-zero-suc k) (sym (has_lowest s) ∙ sym (and-true (has s 0)))
has_minus s (suc k) (suc j) e =
    let l : 2 ^ k * 2 ≤ s = rw (pow-suc 2 k) at (has_le s (suc k) e) in
    let h : (s - 2 ^ suc k) / 2 ≡ s / 2 - 2 ^ k = rw (pow-suc 2 k) (omega arith) in
    has_half (s - 2 ^ suc k) j ∙ ap (λ (x : ℕ). has x j) h ∙ has_minus (s / 2) k j (sym (has_half s k) ∙ e) ∙ rw (eqb-suc-suc j k, has_half s j)

pub without-yes : (s k : ℕ) → has s k ≡ true → without s k ≡ s - 2 ^ k
unfolding without
without-yes s k e = rw (e, without)

pub without_no : (s k : ℕ) → has s k ≡ false → without s k ≡ s
unfolding without
without_no s k e = rw (e, without)

pub has-without : (s k j : ℕ) → has (without s k) j ≡ (has s j && not (eqb j k))
has-without s k j =
    cases (has s k)
    (λ e. rw (without-yes s k e) (has_minus s k j e))
    (λ e. rw (without_no s k e) (cases (eqb j k)
    (λ q. rw q (ap (has s) (eqb-true j k q) ∙ e ∙ sym (and-false (has s j))))
    (λ q. rw q (sym (and-true (has s j))))))

pub with_yes : (s k : ℕ) → k < 64 → with s k ≡ union s (single k)
unfolding with
with_yes s k h = rw (lt-ltb k 64 h, with)

pub with_no : (s k : ℕ) → 64 ≤ k → with s k ≡ s
unfolding with
with_no s k h = rw (le-ltb k 64 h, with)

pub has_with : (s k j : ℕ) → has (with s k) j ≡ (has s j || (ltb j 64 && eqb j k))
has_with s k j =
    cases (ltb k 64)
    (λ e. rw (with_yes s k (ltb-true k 64 e), has-union s (single k) j, has-single k j) (ap (λ (b : Bool). has s j || b) (inside e)))
    (λ e. rw (with_no s k (ltb-false k 64 e)) (sym (or-false (has s j)) ∙ ap (λ (b : Bool). has s j || b) (outside e)))
  where
    inside : ltb k 64 ≡ true → eqb j k ≡ (ltb j 64 && eqb j k)
    inside e = cases (eqb j k) (λ q. rw (q, ap (λ (x : ℕ). ltb x 64) (eqb-true j k q), e)) (λ q. rw q (sym (and-false (ltb j 64))))

    outside : ltb k 64 ≡ false → false ≡ (ltb j 64 && eqb j k)
    outside e = cases (eqb j k) (λ q. rw (ap (λ (x : ℕ). ltb x 64) (eqb-true j k q), e)) (λ q. rw q (sym (and-false (ltb j 64))))

pub up_to_few : (e : ℕ) → e < 63 → up_to e ≡ 2 ^ suc e - 1
unfolding up_to
up_to_few e h = rw (lt-ltb e 63 h, up_to)

pub up_to-all : (e : ℕ) → 63 ≤ e → up_to e ≡ 2 ^ 64 - 1
unfolding up_to
up_to-all e h = rw (le-ltb e 63 h, up_to)

pub has-up_to : (e k : ℕ) → has (up_to e) k ≡ (ltb k 64 && not (ltb e k))
has-up_to e k =
    cases (ltb e 63)
    (λ t.
    let h = ltb-true e 63 t in
    rw (up_to_few e h) (has-ones (suc e) k ∙ cases (ltb e k)
    (λ u. let l = ltb-true e k u in rw (u, le-ltb k (suc e) (omega arith)) (sym (and-false (ltb k 64))))
    (λ u. let l = ltb-false e k u in rw (u, lt-ltb k (suc e) (omega arith), lt-ltb k 64 (omega arith)))))
    (λ t.
    let h = ltb-false e 63 t in
    rw (up_to-all e h) (has-ones 64 k ∙ cases (ltb k 64)
    (λ u. let l = ltb-true k 64 u in rw (u, le-ltb e k (omega arith)))
    (λ u. rw u)))

-- how large they are

pub single_lt : (k n : ℕ) → k < n → single k < 2 ^ n
unfolding single
single_lt k n h = pow-lt h

pub union_lt : (n a b : ℕ) → a < 2 ^ n → b < 2 ^ n → union a b < 2 ^ n
unfolding union
union_lt n a b h l = or_lt n a b h l

pub meet_le_left : (a b : ℕ) → meet a b ≤ a
unfolding meet
meet_le_left a b = and_le_l a b

pub meet_lt : (n a b : ℕ) → a < 2 ^ n → meet a b < 2 ^ n
meet_lt n a b h = lt_of_le_of_lt (meet_le_left a b) h

pub without_le : (s k : ℕ) → without s k ≤ s
without_le s k = cases (has s k) (λ e. rw (without-yes s k e) (omega arith)) (λ e. rw (without_no s k e) (omega arith))

pub without_lt : (n s k : ℕ) → s < 2 ^ n → without s k < 2 ^ n
without_lt n s k h = lt_of_le_of_lt (without_le s k) h
