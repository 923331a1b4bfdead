-- Runs of conflicts that come out alike.
use Rattle.std.proofs.Common.{◌≡◌, ℕ, ◌+◌, ◌-◌, ◌<◌, ◌≤◌, List, ◌∷◌, ◌++◌, length, take, drop, get_or, sym, ◌∙◌, ap, subst, arith}
use Rattle.std.proofs.lemmas.List.{take-append-drop, length-take-le, drop_more, take_rest}
use Rattle.std.proofs.Math.Seq.{take-append-add}

pub take_split : {X : Type 0} (xs : List X) (i n : ℕ) → i ≤ length xs → take (i + n) xs ≡ take i xs ++ take n (drop i xs)
take_split xs i n h =
    let len = length-take-le i xs h in
    let whole = take-append-drop i xs in
    subst (λ m. take (m + n) xs ≡ take i xs ++ take n (drop i xs)) len
    (subst (λ l. take (length (take i xs) + n) l ≡ take i xs ++ take n (drop i xs)) whole (take-append-add (take i xs) (drop i xs) n))

-- what stands in front of an index, and a run from there on
pub take_run : {X : Type 0} (xs : List X) (i n : ℕ) (d : X) → i < length xs
    → take i xs ++ take n (get_or xs i d ∷ drop (i + 1) xs) ≡ take (i + n) xs
take_run xs i n d h = sym (take_split xs i n (omega arith) ∙ ap (λ l. take i xs ++ take n l) (drop_more xs i d h))

-- the same, where the list behind the index is a slice
pub take_run_of_slice : {X : Type 0} (xs : List X) (i n : ℕ) (d : X) → i < length xs
    → take i xs ++ take n (get_or xs i d ∷ take (length xs - (i + 1)) (drop (i + 1) xs)) ≡ take (i + n) xs
take_run_of_slice xs i n d h = ap (λ l. take i xs ++ take n (get_or xs i d ∷ l)) (take_rest xs (i + 1)) ∙ take_run xs i n d h
