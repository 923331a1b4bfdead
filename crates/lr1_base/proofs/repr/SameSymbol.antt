-- `is_same_symbol` of specs/repr/Meaning decides whether two symbols are equal.
use mathlib.Core.Path.{◌≡◌, refl, sym, ap, ◌∙◌}
use mathlib.Core.Bool.{true, false, true≢false}
use borrow.Author.Tests.{eqb-true, eq-eqb}
use Rattle.lr1_base.specs.repr.Meaning.{Symbol, nonterminal, terminal, is_same_symbol}
use Rattle.lr1_base.proofs.repr.Lists.{clash}

pub same_equal : (x y : Symbol) → is_same_symbol x y ≡ true → x ≡ y
unfolding is_same_symbol
same_equal (nonterminal n) (nonterminal m) e = ap {B = Symbol} nonterminal (eqb-true n m e)
same_equal (nonterminal n) (terminal m) e = absurd (true≢false (sym e))
same_equal (terminal n) (nonterminal m) e = absurd (true≢false (sym e))
same_equal (terminal n) (terminal m) e = ap {B = Symbol} terminal (eqb-true n m e)

pub same_refl : (x : Symbol) → is_same_symbol x x ≡ true
unfolding is_same_symbol
same_refl (nonterminal n) = eq-eqb n n refl
same_refl (terminal n) = eq-eqb n n refl

pub equal_same : (x y : Symbol) → x ≡ y → is_same_symbol x y ≡ true
equal_same x y e = ap (is_same_symbol x) (sym e) ∙ same_refl x

pub not_same : (x y : Symbol) → is_same_symbol x y ≡ false → x ≡ y → ⊥
not_same x y f e = clash (is_same_symbol x y) (equal_same x y e) f
