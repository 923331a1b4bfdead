-- A numeral is the library's text of a number.
use Rattle.std.proofs.Common.{ℕ, zero, suc, ◌+◌, ◌/◌, ◌%◌, ◌^◌, ◌≤◌, ◌<◌, ◌≡◌, List, [], ◌∷◌, ◌++◌, length, length-append, ap, ◌∙◌, sym, arith}
use Rattle.std.specs.Fmt.{decimal}
use Rattle.std.proofs.lemmas.Fmt.{decimal_digit, decimal_step, decimal_nonempty, length-decimal-le}
use borrow.Author.Tests.{ltb-true, ltb-false}
use lib.Dec.{ltb}
use Rattle.lr1_base.proofs.repr.Lists.{cases}
use Rattle.lr1_base.specs.numerals.Numeral.{numeral, numeral_by}

by_digits : (f n : ℕ) → n < 2 ^ 64 → length (decimal n) ≤ f → numeral_by f n ≡ decimal n
unfolding numeral_by
by_digits zero n k h = absurd (omega (arith, decimal_nonempty n k))
by_digits (suc f) n k h =
    cases (ltb n 10)
    (λ e. rw (e, numeral_by) (sym (decimal_digit n (ltb-true n 10 e))))
    (λ e. let s = decimal_step n (ltb-false n 10 e) k in
    let l = ap length s ∙ length-append (decimal (n / 10)) ((48 + n % 10) ∷ []) in
    rw (e, numeral_by) (ap (λ (ds : List ℕ). ds ++ ((48 + n % 10) ∷ [])) (by_digits f (n / 10) (omega (arith, k)) (omega (arith, l, h))) ∙ sym s))

pub numeral_decimal : (n : ℕ) → n < 2 ^ 64 → decimal n ≡ numeral n
unfolding numeral
numeral_decimal n h = sym (by_digits 20 n h (length-decimal-le 20 n (omega arith) (omega (arith, h)) h))

pub decimal_short : (n : ℕ) → n < 2 ^ 64 → length (decimal n) ≤ 20
decimal_short n h = length-decimal-le 20 n (omega arith) (omega (arith, h)) h
