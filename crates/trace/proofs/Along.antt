-- The items of slots one after the other (specs/Tails).
use Rattle.std.proofs.Common.{◌≡◌, ℕ, zero, suc, ◌+◌, ◌<◌, ◌≤◌, List, [], ◌∷◌, ◌++◌, get_or, take, sym, refl, ap, ◌∙◌, arith}
use Rattle.lr1_base.specs.repr.Meaning.{Item}
use Rattle.table.specs.Decoded.{items_from}
use Rattle.table.specs.Index.{ItemRead}
use Rattle.trace.specs.Tails.{along}

pub along-none : (t rs : List ℕ) (k : ℕ) → along t rs 0 k ≡ []
unfolding along
along-none t rs k = refl

pub along-suc : (t rs : List ℕ) (j k : ℕ) → along t rs (suc j) k ≡ take 1 (items_from t (get_or rs k 0)) ++ along t rs j (suc k)
unfolding along
along-suc t rs j k = refl

-- the slot whose record is read, with what follows
pub along-read : (t rs : List ℕ) (j k at next p x : ℕ) → at ≡ get_or rs k 0 → ItemRead t at next p x → along t rs (suc j) k ≡ record { production = p; index = x } ∷ along t rs j (suc k)
along-read t rs j k at next p x e R =
    along-suc t rs j k ∙ ap (λ (r : ℕ). take 1 (items_from t r) ++ along t rs j (suc k)) (sym e) ∙ ap (λ (l : List Item). take 1 l ++ along t rs j (suc k)) R.list

-- only the slots that are gone along count
pub along_same : (t rs us : List ℕ) (j k : ℕ) → ((i : ℕ) → k ≤ i → i < k + j → get_or us i 0 ≡ get_or rs i 0) → along t us j k ≡ along t rs j k
along_same t rs us zero k h = along-none t us k ∙ sym (along-none t rs k)
along_same t rs us (suc j) k h =
    along-suc t us j k ∙ ap (λ (r : ℕ). take 1 (items_from t r) ++ along t us j (suc k)) (h k (omega arith) (omega arith))
    ∙ ap (λ (l : List Item). take 1 (items_from t (get_or rs k 0)) ++ l) (along_same t rs us j (suc k) (λ i l m. h i (omega arith) (omega arith))) ∙ sym (along-suc t rs j k)
