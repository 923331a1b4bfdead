-- FIRST of two lists of words joined, as the code asks for it.
use mathlib.Core.Path.{◌≡◌, sym, ap, ◌∙◌}
use mathlib.Core.List.{List, [], ◌∷◌, ◌++◌}
use Prim.Native.Nat.{ℕ, ◌-◌, ◌%◌, ◌<◌}
use lib.ListN.{length, get_or, take}
use Rattle.lr1_base.specs.repr.Meaning.{Symbol}
use Rattle.lr1_base.specs.repr.Listed.{listed}
use Rattle.lr1_base.proofs.repr.Joined.{behind, listed-append, listed_straddled}
use Rattle.first.specs.declared.Answer.{Answer}
use Rattle.first.specs.First.{first0, join_answers}
use Rattle.first.proofs.Answers.{join_answers_assoc, first0-append}

module _ (e : ℕ) (sets xs ys : List ℕ) where
  pub joined_even : length xs % 2 ≡ 0 → (a r : Answer) → a ≡ first0 e sets (listed xs) → r ≡ join_answers a (first0 e sets (listed ys)) → r ≡ first0 e sets (listed (xs ++ ys))
  joined_even q a r ea er =
      er ∙ ap (λ (b : Answer). join_answers b (first0 e sets (listed ys))) ea
      ∙ sym (first0-append e sets (listed xs) (listed ys)) ∙ ap (first0 e sets) (sym (listed-append xs ys q))

  pub joined_odd : (length xs % 2 ≡ 0 → ⊥) → 0 < length ys → (f a r : Answer) → f ≡ first0 e sets (listed (take (length xs - 1) xs))
      → a ≡ join_answers f (first0 e sets (listed (get_or xs (length xs - 1) 0 ∷ get_or ys 0 0 ∷ [])))
      → r ≡ join_answers a (first0 e sets (listed (behind ys))) → r ≡ first0 e sets (listed (xs ++ ys))
  joined_odd odd more f a r ef ea er =
      er ∙ (λ j. join_answers ((ea ∙ ap (λ (b : Answer). join_answers b (first0 e sets middle)) ef) j) (first0 e sets last))
      ∙ join_answers_assoc (first0 e sets front) (first0 e sets middle) (first0 e sets last)
      ∙ ap (join_answers (first0 e sets front)) (sym (first0-append e sets middle last))
      ∙ sym (first0-append e sets front (middle ++ last))
      ∙ ap (first0 e sets) (sym (listed_straddled xs ys odd more))
    where
      front : List Symbol
      front = listed (take (length xs - 1) xs)

      middle : List Symbol
      middle = listed (get_or xs (length xs - 1) 0 ∷ get_or ys 0 0 ∷ [])

      last : List Symbol
      last = listed (behind ys)
