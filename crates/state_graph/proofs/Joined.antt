-- The walk over two lists of words joined, as the code makes it.
use mathlib.Core.Path.{◌≡◌, sym, ap, ◌∙◌}
use mathlib.Core.List.{List, [], ◌∷◌, ◌++◌}
use Prim.Native.Nat.{ℕ, ◌-◌, ◌%◌, ◌<◌}
use lib.ListN.{length, get_or, take}
use Rattle.lr1_base.specs.repr.Meaning.{Symbol, Table}
use Rattle.lr1_base.specs.repr.Listed.{listed}
use Rattle.lr1_base.proofs.repr.Joined.{behind, listed-append, listed_straddled}
use Rattle.state_graph.specs.Walk.{walked_back}
use Rattle.state_graph.proofs.Exact.{walk-append}

module _ (T : Table) where
  module _ (ss xs ys : List ℕ) where
    pub joined_even : length xs % 2 ≡ 0 → (us vs : List ℕ) → us ≡ walked_back T ss (listed ys) → vs ≡ walked_back T us (listed xs) → vs ≡ walked_back T ss (listed (xs ++ ys))
    joined_even q us vs eu ev =
        ev ∙ ap (λ (ks : List ℕ). walked_back T ks (listed xs)) eu ∙ sym (walk-append T ss (listed xs) (listed ys)) ∙ ap (walked_back T ss) (sym (listed-append xs ys q))

    pub joined_odd : (length xs % 2 ≡ 0 → ⊥) → 0 < length ys → (us vs ws : List ℕ) → us ≡ walked_back T ss (listed (behind ys))
        → vs ≡ walked_back T us (listed (get_or xs (length xs - 1) 0 ∷ get_or ys 0 0 ∷ [])) → ws ≡ walked_back T vs (listed (take (length xs - 1) xs)) → ws ≡ walked_back T ss (listed (xs ++ ys))
    joined_odd odd more us vs ws eu ev ew =
        ew
        ∙ ap (λ (ks : List ℕ). walked_back T ks front) (ev ∙ ap (λ (ks : List ℕ). walked_back T ks middle) eu ∙ sym (walk-append T ss middle last))
        ∙ sym (walk-append T ss front (middle ++ last))
        ∙ ap (walked_back T ss) (sym (listed_straddled xs ys odd more))
      where
        front : List Symbol
        front = listed (take (length xs - 1) xs)

        middle : List Symbol
        middle = listed (get_or xs (length xs - 1) 0 ∷ get_or ys 0 0 ∷ [])

        last : List Symbol
        last = listed (behind ys)
