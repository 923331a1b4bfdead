-- Laws of the sets of tokens of specs/lookahead/Tokens: when two sets are the same, what a union adds, and one set within another.
use mathlib.Core.Path.{◌≡◌, refl, sym, ap, ◌∙◌}
use mathlib.Core.Bool.{false, or-true, or_assoc}
use Prim.Native.Nat.{ℕ, suc, ◌/◌, ◌%◌, ◌≤◌, ◌<◌}
use native.Mathlib.Omega.{arith}
use lib.Dec.{eqb}
use lib.Arith.{bin_ind}
use lib.Bits.{and_le_r, or_add_and, or_comm, or_zero_l, or_zero_r}
use borrow.Author.Tests.{eqb-true, eqb-false}
use Rattle.lr1_base.proofs.repr.Lists.{cases, clash}
use Rattle.lr1_base.specs.lookahead.Tokens.{has, union, Within}
use Rattle.lr1_base.proofs.lookahead.Laws.{has-none, has_lowest, has_half, has-union}

digit_same : (x y : ℕ) → x < 2 → y < 2 → eqb x 1 ≡ eqb y 1 → x ≡ y
digit_same x y h l e =
    cases (eqb y 1)
    (λ f. eqb-true x 1 (e ∙ f) ∙ sym (eqb-true y 1 f))
    (λ f. let p = eqb-false x 1 (e ∙ f) in let q = eqb-false y 1 f in omega arith)

-- two sets that have the same are the same

pub empty-set : (s : ℕ) → ((k : ℕ) → has s k ≡ false) → s ≡ 0
empty-set = bin_ind (λ (s : ℕ). ((k : ℕ) → has s k ≡ false) → s ≡ 0) (λ _. refl) (λ s half all.
    let h : s / 2 ≡ 0 = half (λ k. sym (has_half s k) ∙ all (suc k)) in
    let l = eqb-false (s % 2) 1 (sym (has_lowest s) ∙ all 0) in
    omega arith)

pub same_set : (a b : ℕ) → ((k : ℕ) → has a k ≡ has b k) → a ≡ b
same_set = bin_ind (λ (a : ℕ). (b : ℕ) → ((k : ℕ) → has a k ≡ has b k) → a ≡ b)
    (λ b all. sym (empty-set b (λ k. sym (all k) ∙ has-none k)))
    (λ a half b all.
    let h : a / 2 ≡ b / 2 = half (b / 2) (λ k. sym (has_half a k) ∙ all (suc k) ∙ has_half b k) in
    let l : a % 2 ≡ b % 2 = digit_same (a % 2) (b % 2) (omega arith) (omega arith) (sym (has_lowest a) ∙ all 0 ∙ has_lowest b) in
    omega arith)

pub union_le : (a b : ℕ) → a ≤ union a b
unfolding union
union_le a b = omega (arith, or_add_and a b, and_le_r a b)

pub union_comm : (a b : ℕ) → union a b ≡ union b a
unfolding union
union_comm a b = or_comm a b

pub union_assoc : (a b c : ℕ) → union (union a b) c ≡ union a (union b c)
union_assoc a b c = same_set (union (union a b) c) (union a (union b c)) (λ k.
    rw (has-union (union a b) c k, has-union a b k, has-union a (union b c) k, has-union b c k) (or_assoc (has a k) (has b k) (has c k)))

pub union-zero-left : (a : ℕ) → union 0 a ≡ a
unfolding union
union-zero-left a = or_zero_l a

pub union-zero_right : (a : ℕ) → union a 0 ≡ a
unfolding union
union-zero_right a = or_zero_r a

-- one set within another

pub within_refl : (a : ℕ) → Within a a
within_refl a k e = e

pub within_trans : (a b c : ℕ) → Within a b → Within b c → Within a c
within_trans a b c f g k e = g k (f k e)

pub within_none : (a : ℕ) → Within 0 a
within_none a k e = clash (has 0 k) e (has-none k)

pub within-union-left : (a b : ℕ) → Within a (union a b)
within-union-left a b k e = has-union a b k ∙ rw e

pub within-union_right : (a b : ℕ) → Within b (union a b)
within-union_right a b k e = has-union a b k ∙ rw e (or-true (has a k))

pub union-within : (a b c : ℕ) → Within a c → Within b c → Within (union a b) c
union-within a b c f g k e =
    cases (has a k) (f k) (λ n. cases (has b k) (g k) (λ m. clash (has (union a b) k) e (has-union a b k ∙ rw (n, m))))

pub union-within-union : (a b c d : ℕ) → Within a c → Within b d → Within (union a b) (union c d)
union-within-union a b c d f g =
    union-within a b (union c d) (within_trans a c (union c d) f (within-union-left c d)) (within_trans b d (union c d) g (within-union_right c d))

pub within_antisym : (a b : ℕ) → Within a b → Within b a → a ≡ b
within_antisym a b f g = same_set a b (λ k.
    cases (has a k) (λ e. e ∙ sym (f k e)) (λ e. cases (has b k) (λ m. clash (has a k) (g k m) e) (λ m. e ∙ sym m)))

-- what is within adds nothing, and what adds nothing is within
pub union-within_same : (a b : ℕ) → Within b a → union a b ≡ a
union-within_same a b f = within_antisym (union a b) a (union-within a b a (within_refl a) f) (within-union-left a b)

pub within_same_union : (a b : ℕ) → union a b ≡ a → Within b a
within_same_union a b e k h = sym (ap (λ (s : ℕ). has s k) e) ∙ within-union_right a b k h

pub within_le : (a b : ℕ) → Within a b → a ≤ b
within_le a b f = rw (union_comm a b ∙ union-within_same b a f) at (union_le a b)
