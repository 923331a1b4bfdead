-- A run of stores, read back word by word.
use Rattle.std.proofs.Common.{◌≡◌, ℕ, zero, suc, ◌+◌, ◌<◌, ◌≤◌, List, [], ◌∷◌, length, get_or, set, refl, ◌∙◌, arith, length-set, get_or-set_other, get_or-set_same}
use lib.Seq.{sets}

pub stored_before : (vs ws : List ℕ) (i j : ℕ) → j < i → get_or (sets ws i vs) j 0 ≡ get_or ws j 0
stored_before [] ws i j h = refl
stored_before (a ∷ vs) ws i j h =
    stored_before vs (set ws i a) (suc i) j (omega arith) ∙ get_or-set_other ws i j a 0 (λ q. omega arith)

pub stored_after : (vs ws : List ℕ) (i j : ℕ) → i + length vs ≤ j → get_or (sets ws i vs) j 0 ≡ get_or ws j 0
stored_after [] ws i j h = refl
stored_after (a ∷ vs) ws i j h =
    stored_after vs (set ws i a) (suc i) j (omega arith) ∙ get_or-set_other ws i j a 0 (λ q. omega arith)

pub stored_at : (vs ws : List ℕ) (i j : ℕ) → j < length vs → i + length vs ≤ length ws → get_or (sets ws i vs) (i + j) 0 ≡ get_or vs j 0
stored_at [] ws i j h l = absurd (omega arith)
stored_at (a ∷ vs) ws i zero h l =
    let e : i + 0 ≡ i = omega arith in
    rw e (stored_before vs (set ws i a) (suc i) i (omega arith) ∙ get_or-set_same ws i a 0 (omega arith))
stored_at (a ∷ vs) ws i (suc j) h l =
    let e : i + suc j ≡ suc i + j = omega arith in
    rw e (stored_at vs (set ws i a) (suc i) j (omega arith) (rw (length-set ws i a) (omega arith)))
