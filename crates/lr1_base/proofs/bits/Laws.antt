-- Laws of the flags of specs/bits/Bits.
use mathlib.Core.Path.{◌≡◌, refl}
use mathlib.Core.Bool.{Bool, true, false, ◌||◌, or-false}
use mathlib.Core.List.{List}
use Prim.Native.Nat.{ℕ, ◌*◌, ◌/◌, ◌%◌, ◌^◌, ◌<◌}
use native.Mathlib.Omega.{arith}
use lib.Bits.{bit_and, bit_or}
use lib.Dec.{eqb}
use lib.ListN.{length, get_or, set, replicate, length-set}
use lib.Seq.{get_or-set_same, get_or-set_other}
use borrow.Author.Tests.{eqb-true, eqb-false, eq-eqb, ne_eqb}
use Rattle.lr1_base.proofs.repr.Lists.{cases}
use Rattle.lr1_base.specs.lookahead.Tokens.{has, single, union}
use Rattle.lr1_base.proofs.lookahead.Laws.{has-none, has-union, has-single}
use Rattle.lr1_base.proofs.lookahead.Words.{contained, shifted}
use Rattle.lr1_base.specs.bits.Bits.{bit_at, bit_put}
use Rattle.lr1_base.proofs.laws.Lists.{zero_at}

pub bit_tested : (hs : List ℕ) (r : ℕ) → eqb (bit_and (get_or hs (r / 64) 0 / 2 ^ (r % 64)) 1) 1 ≡ bit_at hs r
unfolding bit_at
bit_tested hs r = contained (get_or hs (r / 64) 0) (r % 64)

pub bit_put_lem : (hs : List ℕ) (r b : ℕ) → b ≡ 1 * 2 ^ (r % 64) % 18446744073709551616 → set hs (r / 64) (bit_or (get_or hs (r / 64) 0) b) ≡ bit_put hs r
unfolding bit_put union single
bit_put_lem hs r b e = rw (e, shifted (r % 64) (omega arith))

pub put-length : (hs : List ℕ) (r : ℕ) → length (bit_put hs r) ≡ length hs
unfolding bit_put
put-length hs r = length-set hs (r / 64) (union (get_or hs (r / 64) 0) (single (r % 64)))

pub put_here : (hs : List ℕ) (r : ℕ) → r / 64 < length hs → bit_at (bit_put hs r) r ≡ true
unfolding bit_put bit_at
put_here hs r i =
    rw (get_or-set_same hs (r / 64) (union (get_or hs (r / 64) 0) (single (r % 64))) 0 i, has-union (get_or hs (r / 64) 0) (single (r % 64)) (r % 64), has-single (r % 64) (r % 64), eq-eqb (r % 64) (r % 64) refl)
    (either (has (get_or hs (r / 64) 0) (r % 64)))
  where
    either : (b : Bool) → (b || true) ≡ true
    either true = refl
    either false = refl

pub put_other : (hs : List ℕ) (r j : ℕ) → r / 64 < length hs → (j ≡ r → ⊥) → bit_at (bit_put hs r) j ≡ bit_at hs j
unfolding bit_put bit_at
put_other hs r j i ne =
    cases (eqb (j / 64) (r / 64))
    (λ e.
    let q = eqb-true (j / 64) (r / 64) e in
    let m : j % 64 ≡ r % 64 → ⊥ = λ d. ne (omega arith) in
    rw (q, get_or-set_same hs (r / 64) (union (get_or hs (r / 64) 0) (single (r % 64))) 0 i, has-union (get_or hs (r / 64) 0) (single (r % 64)) (j % 64), has-single (r % 64) (j % 64), ne_eqb (j % 64) (r % 64) m)
    (or-false (has (get_or hs (r / 64) 0) (j % 64))))
    (λ e. rw (get_or-set_other hs (r / 64) (j / 64) (union (get_or hs (r / 64) 0) (single (r % 64))) 0 (eqb-false (j / 64) (r / 64) e)))

pub zeros_none : (n j : ℕ) → bit_at (replicate n 0) j ≡ false
unfolding bit_at
zeros_none n j = rw (zero_at n (j / 64)) (has-none (j % 64))
