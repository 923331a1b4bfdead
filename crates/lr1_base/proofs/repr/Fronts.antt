-- Two lists that begin alike have the same parts and words there.
use mathlib.Core.Path.{◌≡◌, sym, ap, ◌∙◌}
use mathlib.Core.List.{List, [], ◌∷◌}
use Prim.Native.Nat.{ℕ, zero, suc, ◌+◌, ◌≤◌, ◌<◌}
use native.Mathlib.Omega.{arith}
use lib.ListN.{get_or, take, drop}
use lib.Seq.{take-take, take-nil, get_or-take}

part_back : (a m : ℕ) (xs : List ℕ) → take m (drop a xs) ≡ drop a (take (a + m) xs)
part_back zero m xs = let z : m ≡ 0 + m = omega arith in ap (λ (k : ℕ). take k xs) z
part_back (suc a) m [] = take-nil m ∙ sym (ap (drop (suc a)) (take-nil (suc a + m)))
part_back (suc a) m (x ∷ xs) =
    let z : suc a + m ≡ suc (a + m) = omega arith in
    part_back a m xs ∙ sym (ap (λ (k : ℕ). drop (suc a) (take k (x ∷ xs))) z)

pub same_part : (n a m : ℕ) (xs ys : List ℕ) → take n xs ≡ take n ys → a + m ≤ n → take m (drop a xs) ≡ take m (drop a ys)
same_part n a m xs ys e h =
    part_back a m xs ∙ ap (drop a) (sym (take-take (a + m) n xs h) ∙ ap (take (a + m)) e ∙ take-take (a + m) n ys h) ∙ sym (part_back a m ys)

pub same_word : (n j : ℕ) (xs ys : List ℕ) → take n xs ≡ take n ys → j < n → get_or xs j 0 ≡ get_or ys j 0
same_word n j xs ys e h = sym (get_or-take n xs j 0 h) ∙ ap (λ (l : List ℕ). get_or l j 0) e ∙ get_or-take n ys j 0 h
