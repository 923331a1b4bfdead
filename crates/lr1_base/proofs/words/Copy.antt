-- Copying word by word.
use mathlib.Core.Path.{◌≡◌, refl, sym, ap, ◌∙◌}
use mathlib.Core.List.{List, [], ◌∷◌, ◌++◌}
use Prim.Native.Nat.{ℕ, zero, suc, ◌+◌, ◌<◌}
use native.Mathlib.Omega.{arith}
use native.Mathlib.Numerals.{add-one}
use lib.ListN.{length, get_or, take, drop, set}

copy_suc : (i : ℕ) (a d : List ℕ) → i < length a → i < length d → set (take i a ++ drop i d) i (get_or a i 0) ≡ take (suc i) a ++ drop (suc i) d
copy_suc i [] d h l = absurd (omega arith)
copy_suc i (x ∷ a) [] h l = absurd (omega arith)
copy_suc zero (x ∷ a) (y ∷ d) h l = refl
copy_suc (suc i) (x ∷ a) (y ∷ d) h l = ap (λ (t : List ℕ). x ∷ t) (copy_suc i a d (omega arith) (omega arith))

pub copy_more : (i : ℕ) (a d : List ℕ) → i < length a → i < length d → set (take i a ++ drop i d) i (get_or a i 0) ≡ take (i + 1) a ++ drop (i + 1) d
copy_more i a d h l = copy_suc i a d h l ∙ ap (λ (k : ℕ). take k a ++ drop k d) (sym (add-one i))
