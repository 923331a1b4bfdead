-- What the code computes on a word is the set that specs/lookahead/Tokens says: one law for each way through a function of src/lib.
use mathlib.Core.Path.{◌≡◌, refl, sym, ap, ◌∙◌}
use mathlib.Core.List.{◌∷◌}
use mathlib.Core.Bool.{true, false, ◌&&◌, not}
use Prim.Native.Nat.{ℕ, suc, ◌+◌, ◌-◌, ◌*◌, ◌/◌, ◌%◌, ◌^◌, ◌≤◌, ◌<◌}
use native.Mathlib.Nat.{one-mul}
use native.Mathlib.Numerals.{add-one}
use native.Mathlib.Omega.{arith}
use lib.Bits.{bit_and, bit_or, and_step, and_zero_r}
use lib.Count.{count_trailing_zeros}
use lib.Dec.{eqb, ltb}
use lib.Pow.{shl_exact, pow_pos}
use borrow.Author.Tests.{eqb-true, eq-eqb, ne_eqb, ltb-true, ltb-false, lt-ltb}
use Rattle.lr1_base.proofs.repr.Lists.{cases, clash}
use Rattle.lr1_base.specs.lookahead.Tokens.{has, single, union, meet, without, with, members, up_to}
use Rattle.lr1_base.proofs.lookahead.Laws.{has-none, has_le, has-below, has_meet, has-single, has_with, has-up_to, with_yes, with_no, without-yes, up_to_few}
use Rattle.lr1_base.proofs.lookahead.Sets.{empty-set, union-within_same}
use Rattle.lr1_base.proofs.lookahead.Members.{trailing_least, members_first}

-- `1 << k`
pub shifted : (k : ℕ) → k < 64 → 1 * 2 ^ k % 18446744073709551616 ≡ 2 ^ k
shifted k h = shl_exact {a = 1} 1 k 64 (omega arith) (omega arith) ∙ one-mul (2 ^ k)

-- all

pub all-shifted : (e : ℕ) → e < 63 → 1 * 2 ^ (e + 1) % 18446744073709551616 ≡ 2 ^ suc e
all-shifted e h = shifted (e + 1) (omega arith) ∙ ap (λ (k : ℕ). 2 ^ k) (add-one e)

pub all_pos : (e : ℕ) → e < 63 → 1 ≤ 1 * 2 ^ (e + 1) % 18446744073709551616
all_pos e h = rw (all-shifted e h) (pow_pos (suc e))

pub all_few : (e : ℕ) → e < 63 → 1 * 2 ^ (e + 1) % 18446744073709551616 - 1 ≡ up_to e
all_few e h = rw (all-shifted e h) (sym (up_to_few e h))

pub all_is : (e r : ℕ) → r ≡ up_to e → (r ≡ up_to e) × ((k : ℕ) → has r k ≡ (ltb k 64 && not (ltb e k)))
all_is e r q = (q, λ k. ap (λ (s : ℕ). has s k) q ∙ has-up_to e k)

-- contains

pub contained : (s t : ℕ) → eqb (bit_and (s / 2 ^ t) 1) 1 ≡ has s t
unfolding has
contained s t =
    let x = s / 2 ^ t in
    let e : bit_and x 1 ≡ x % 2 = and_step x 1 ∙ rw (and_zero_r (x / 2)) (omega arith) in
    ap (λ (b : ℕ). eqb b 1) e

-- insert: the set changed where the token was not there

with_changed : (s t : ℕ) → t < 64 → eqb (with s t) s ≡ has s t
with_changed s t h =
    cases (has s t)
    (λ e. rw e (eq-eqb (with s t) s (with_yes s t h ∙ union-within_same s (single t) (λ k m.
    ap (has s) (eqb-true k t (sym (has-single t k) ∙ m)) ∙ e))))
    (λ e. rw e (ne_eqb (with s t) s (λ q.
    clash (has s t) (sym (ap (λ (r : ℕ). has r t) q) ∙ has_with s t t ∙ rw (e, lt-ltb t 64 h, eq-eqb t t refl)) e)))

pub with_shifted : (s t : ℕ) → t < 64 → bit_or s (1 * 2 ^ t % 18446744073709551616) ≡ with s t
unfolding union single
with_shifted s t h = ap (bit_or s) (shifted t h) ∙ sym (with_yes s t h)

pub with-is_same : (s t : ℕ) → not (eqb (with s t) s) ≡ (ltb t 64 && not (has s t))
with-is_same s t =
    cases (ltb t 64)
    (λ e. rw (e, with_changed s t (ltb-true t 64 e)))
    (λ e. rw (e, with_no s t (ltb-false t 64 e), eq-eqb s s refl))

-- intersection

pub met : (a b : ℕ) → (bit_and a b ≡ meet a b) × ((k : ℕ) → has (bit_and a b) k ≡ (has a k && has b k))
unfolding meet
met a b = (refl, λ k. has_meet a b k)

pub disjoint : (a b : ℕ) → (eqb (bit_and a b) 0 ≡ eqb (meet a b) 0) × (eqb (bit_and a b) 0 ≡ true → (k : ℕ) → (has a k && has b k) ≡ false) × (((k : ℕ) → (has a k && has b k) ≡ false) → eqb (bit_and a b) 0 ≡ true)
unfolding meet
disjoint a b = (
  refl,
  λ e k. sym (has_meet a b k) ∙ ap (λ (x : ℕ). has x k) (eqb-true (bit_and a b) 0 e) ∙ has-none k,
  λ all. eq-eqb (bit_and a b) 0 (empty-set (meet a b) (λ k. has_meet a b k ∙ all k)),
)

-- take_eof

module _ (s t : ℕ) (h : s < 2 ^ 64) (e : has s t ≡ true) where
  pub shifted_le : 1 * 2 ^ t % 18446744073709551616 ≤ s
  shifted_le = rw (shifted t (has-below s 64 t h e)) (has_le s t e)

  pub off : s - 1 * 2 ^ t % 18446744073709551616 ≡ without s t
  off = rw (shifted t (has-below s 64 t h e)) (sym (without-yes s t e))

-- next

module _ (s : ℕ) (ne : s ≡ 0 → ⊥) (h : s < 2 ^ 64) where
  least : (count_trailing_zeros 64 s < 64) × (has s (count_trailing_zeros 64 s) ≡ true) × ((j : ℕ) → j < count_trailing_zeros 64 s → has s j ≡ false)
  least = trailing_least 64 s (omega arith) h

  pub next_lt : count_trailing_zeros 64 s < 64
  next_lt = least.0

  pub next_le : 1 * 2 ^ count_trailing_zeros 64 s % 18446744073709551616 ≤ s
  next_le = shifted_le s (count_trailing_zeros 64 s) h least.1

  pub next_token : members s ≡ count_trailing_zeros 64 s ∷ members (s - 1 * 2 ^ count_trailing_zeros 64 s % 18446744073709551616)
  next_token = rw (off s (count_trailing_zeros 64 s) h least.1) (members_first s (omega arith) h)

-- a set of tokens up to t alone
pub tokens_few : (t s : ℕ) → t < 63 → ltb s (1 * 2 ^ (t + 1) % 18446744073709551616) ≡ ltb s (2 ^ suc t)
tokens_few t s h = rw (shifted (t + 1) (omega arith), add-one t)

pub tokens-all : (t s : ℕ) → 63 ≤ t → t ≤ 63 → s < 18446744073709551616 → true ≡ ltb s (2 ^ suc t)
tokens-all t s a b h = let e : t ≡ 63 = omega arith in rw e (sym (lt-ltb s 18446744073709551616 h))
