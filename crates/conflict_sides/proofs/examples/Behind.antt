-- A listing's examples behind those of its side (specs/examples/Gathers): none yet, and one more.
use Rattle.std.specs.Prelude.{◌≡◌, ℕ, suc, ◌+◌, ◌<◌, ◌≤◌, Bool, ltb, List, [], ◌∷◌, ◌++◌, length}
use native.Mathlib.Omega.{arith}
use mathlib.Core.Path.{refl, ◌∙◌}
use lib.ListN.{length-append, get_or-append}
use lib.Seq.{get_or_at}
use borrow.Author.Tests.{ltb-true, ltb-false}
use Rattle.lr1_base.specs.repr.Sizes.{example_limit}
use Rattle.lr1_base.specs.repr.Meaning.{Production}
use Rattle.lr1_base.proofs.repr.Lists.{cases}
use Rattle.conflict_sides.specs.conflict.Judge.{Example}
use Rattle.conflict_sides.specs.outline.Outline.{outline_from}
use Rattle.conflict_sides.specs.outline.Kept.{nth, outline_in, labelled_limit, KeptLabels}
use Rattle.conflict_sides.specs.examples.Gathers.{PutBehind, Behind}

pub behind-none : (ps : List Production) (shift : Bool) (count : ℕ) (kept prints : List ℕ) → count ≤ example_limit → Behind ps shift count (count + 0) [] kept prints kept prints
behind-none ps shift count kept prints h = record {
  many = refl;
  few = omega arith;
  same = λ k q. refl;
  same_turn = λ k q. refl;
  same_labels = λ k q l x K. K;
  new = λ j q. let z : j < 0 = q in absurd (omega arith);
  new_turn = λ j q. let z : j < 0 = q in absurd (omega arith);
  new_labels = λ j q. let z : j < 0 = q in absurd (omega arith);
}

-- an example of several and one behind them

nth-before : (ys : List Example) (x : Example) (j : ℕ) → j < length ys → nth (ys ++ x ∷ []) j ≡ nth ys j
unfolding nth
nth-before ys x j h = get_or-append ys (x ∷ []) [] j h

nth_last : (ys : List Example) (x : Example) → nth (ys ++ x ∷ []) (length ys) ≡ x
unfolding nth
nth_last ys x = get_or_at ys x [] [] (length ys) refl

-- x put as number `turn` behind n examples, `turn` of them this listing's
module _ (ps : List Production) (shift : Bool) (count n turn : ℕ) (ys : List Example) (kept₀ prints₀ kept prints : List ℕ) (B : Behind ps shift count n ys kept₀ prints₀ kept prints) (t : length ys ≡ turn)
    (h : n < example_limit) (x : Example) (kept' prints' : List ℕ) (P : PutBehind ps shift x turn n kept prints kept' prints') where
  -- of the listing's examples: those before, and x
  each_more : (Q : ℕ → Example → Type 0) → ((j : ℕ) → j < length ys → Q (count + j) (nth ys j)) → Q n x → (j : ℕ) → j < length (ys ++ x ∷ []) → Q (count + j) (nth (ys ++ x ∷ []) j)
  each_more Q f e j q =
      let m = B.many in
      let l : length (ys ++ x ∷ []) ≡ length ys + 1 = length-append ys (x ∷ []) in
      cases (ltb j (length ys))
      (λ b. let v = ltb-true j (length ys) b in rw (nth-before ys x j v) (f j v))
      (λ b. let v = ltb-false j (length ys) b in let z : j ≡ length ys = omega arith in let y : count + j ≡ n = omega arith in rw (y, z, nth_last ys x) e)

  pub behind_more : Behind ps shift count (suc n) (ys ++ x ∷ []) kept₀ prints₀ kept' prints'
  behind_more =
      let m = B.many in
      let l : length (ys ++ x ∷ []) ≡ length ys + 1 = length-append ys (x ∷ []) in
      record {
        many = omega arith;
        few = omega arith;
        same = λ k q. P.other_outlines k (λ z. omega arith) (omega arith) ∙ B.same k q;
        same_turn = λ k q. P.other-numbers k (λ z. omega arith) (omega arith) ∙ B.same_turn k q;
        same_labels = λ k q r y K. P.other_labels k (λ z. omega arith) r y (B.same_labels k q r y K);
        new =
            each_more (λ k y. outline_in kept' prints' k ≡ outline_from ps shift y)
            (λ j q. P.other_outlines (count + j) (λ z. omega arith) (omega arith) ∙ B.new j q) P.outline;
        new_turn = λ j q.
            cases (ltb j (length ys))
            (λ b. let v = ltb-true j (length ys) b in P.other-numbers (count + j) (λ z. omega arith) (omega arith) ∙ B.new_turn j v)
            (λ b. let v = ltb-false j (length ys) b in let z : turn ≡ j = omega arith in let y : count + j ≡ n = omega arith in rw y (P.number ∙ z));
        new_labels =
            each_more (λ k y. k < labelled_limit → KeptLabels ps kept' k y)
            (λ j q r. P.other_labels (count + j) (λ z. omega arith) r (nth ys j) (B.new_labels j q r)) P.labels;
      }
