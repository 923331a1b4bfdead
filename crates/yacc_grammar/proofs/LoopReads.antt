-- What holds of the elements that a loop has read.
use Rattle.std.proofs.Common.{◌≡◌, ℕ, ◌+◌, ◌<◌, ◌≤◌, List, All, length, get_or, take, subst, sym, ap, arith}
use Rattle.std.proofs.lemmas.List.{take_all}
use Rattle.std.proofs.lemmas.List.Elements.{All-more}

-- of one more
pub all_more : {X : Type 0} (P : X → Type 0) (xs ys : List X) (i : ℕ) (x : X) → ys ≡ xs → i < length ys → x ≡ get_or ys i x → All P (take i xs) → P x → All P (take (i + 1) xs)
all_more {X} P xs ys i x same h is before here =
    let Q : List X → Type 0 = λ zs. All P (take i zs) in
    let R : List X → Type 0 = λ zs. All P (take (i + 1) zs) in
    subst R same (All-more P ys i x h (subst Q (sym same) before) (subst P is here))

-- of all
pub all_read : {X : Type 0} (P : X → Type 0) (xs ys : List X) (i : ℕ) → ys ≡ xs → length ys ≤ i → All P (take i xs) → All P xs
all_read {X} P xs ys i same h before =
    let Q : List X → Type 0 = λ zs. All P zs in
    let L : List X → Type 0 = λ zs. length zs ≤ i in
    subst Q (take_all i xs (subst L same h)) before
