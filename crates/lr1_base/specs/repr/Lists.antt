-- Lists of numbers that the definitions count with.
use Rattle.std.specs.Prelude.{ℕ, zero, suc, Bool, true, false, List, [], ◌∷◌, ◌++◌, eqb}
use Rattle.std.proofs.Math.Option.{Option, none, some}

-- from, from + 1, .. : n numbers
unfoldable pub up_from : ℕ → ℕ → List ℕ
up_from from zero = []
up_from from (suc n) = from ∷ up_from (suc from) n

-- the numbers below n, ascending
unfoldable pub below : ℕ → List ℕ
below n = up_from 0 n

-- is the number in the list
unfoldable pub mem : ℕ → List ℕ → Bool
mem n [] = false
mem n (x ∷ xs) = elim (eqb n x) [ true ↦ true | false ↦ mem n xs ]

-- how often the number stands in the list
unfoldable pub occurrences : ℕ → List ℕ → ℕ
occurrences n [] = 0
occurrences n (x ∷ xs) = elim (eqb n x) [ true ↦ suc (occurrences n xs) | false ↦ occurrences n xs ]

-- those that pass the test, in order
unfoldable pub keep {ℓ} : {A : Type ℓ} → (A → Bool) → List A → List A
keep t [] = []
keep t (x ∷ xs) = elim (t x) [ true ↦ x ∷ keep t xs | false ↦ keep t xs ]

-- does one pass the test
unfoldable pub some? {ℓ} : {A : Type ℓ} → (A → Bool) → List A → Bool
some? t [] = false
some? t (x ∷ xs) = elim (t x) [ true ↦ true | false ↦ some? t xs ]

-- do all
unfoldable pub every? {ℓ} : {A : Type ℓ} → (A → Bool) → List A → Bool
every? t [] = true
every? t (x ∷ xs) = elim (t x) [ true ↦ every? t xs | false ↦ false ]

-- the first that passes
unfoldable pub first? {ℓ} : {A : Type ℓ} → (A → Bool) → List A → Option A
first? t [] = none
first? t (x ∷ xs) = elim (t x) [ true ↦ some x | false ↦ first? t xs ]

-- the lists of f, one after the other
unfoldable pub joined {ℓ κ} : {A : Type ℓ} {B : Type κ} → (A → List B) → List A → List B
joined f [] = []
joined f (x ∷ xs) = f x ++ joined f xs
