-- Line and column, counted.
use Prim.Native.Nat.{ℕ, ◌+◌}
use native.Mathlib.Omega.{arith}
use mathlib.Core.Bool.{Bool, true, false, not}
use mathlib.Core.Path.{◌≡◌, refl, sym, ap, ◌∙◌}
use mathlib.Core.List.{List, [], ◌∷◌, ◌++◌, reverse}
use lib.Dec.{eqb}
use lib.ListN.{length}
use borrow.Author.Tests.{eqb-true, eqb-false, eq-eqb, ne_eqb}
use Rattle.std.specs.Prelude.{cond}
use Rattle.std.specs.List.{filter, take_while}
use Rattle.std.proofs.lemmas.List.{reverse-reverse, reverse-append}
use Rattle.std.proofs.lemmas.List.Sums.{take_while-cons}
use Rattle.lr1_base.specs.repr.Lists.{occurrences}
use Rattle.lr1_base.proofs.repr.Lists.{cases, occurrences-nil, occurrences-yes, occurrences_no}
use Rattle.yacc_syntax.specs.error_position.Stray.{column_behind}

-- bytes that end a line
pub line_ends : (bs : List ℕ) → length (filter (λ b. eqb b 10) bs) ≡ occurrences 10 bs
line_ends [] = sym (occurrences-nil 10)
line_ends (b ∷ bs) =
    let I = line_ends bs in
    cases (eqb b 10)
    (λ y. ap (λ (c : Bool). length (cond c (b ∷ filter (λ x. eqb x 10) bs) (filter (λ x. eqb x 10) bs))) y ∙ omega (arith, I, occurrences-yes 10 b bs (eq-eqb 10 b (sym (eqb-true b 10 y)))))
    (λ n. ap (λ (c : Bool). length (cond c (b ∷ filter (λ x. eqb x 10) bs) (filter (λ x. eqb x 10) bs))) n ∙ omega (arith, I, occurrences_no 10 b bs (ne_eqb 10 b (λ i. eqb-false b 10 n (sym i)))))

-- the bytes behind the last that ends a line
column_append : (xs ys : List ℕ) (c : ℕ) → column_behind c (xs ++ ys) ≡ column_behind (column_behind c xs) ys
unfolding column_behind
column_append [] ys c = refl
column_append (b ∷ xs) ys c = column_append xs ys (elim (eqb b 10) [ true ↦ 1 | false ↦ c + 1 ])

column_byte : (c b : ℕ) (rest : List ℕ) (g : Bool) → 1 + length rest ≡ c → 1 + length (cond (not g) (b ∷ rest) []) ≡ elim g as (λ k. ℕ) [ true ↦ 1 | false ↦ c + 1 ]
column_byte c b rest true f = refl
column_byte c b rest false f = omega (arith, f)

pub column_back : (bs : List ℕ) → 1 + length (take_while (λ b. not (eqb b 10)) bs) ≡ column_behind 1 (reverse bs)
unfolding column_behind
column_back [] = refl
column_back (b ∷ bs) =
    let p : ℕ → Bool = λ x. not (eqb x 10) in
    ap (λ (l : List ℕ). 1 + length l) (take_while-cons p b bs)
    ∙ column_byte (column_behind 1 (reverse bs)) b (take_while p bs) (eqb b 10) (column_back bs)
    ∙ sym (ap (column_behind 1) (reverse-append (b ∷ []) bs) ∙ column_append (reverse bs) (b ∷ []) 1)

pub column_is : (bs : List ℕ) → 1 + length (take_while (λ b. not (eqb b 10)) (reverse bs)) ≡ column_behind 1 bs
column_is bs = column_back (reverse bs) ∙ ap (column_behind 1) (reverse-reverse bs)
