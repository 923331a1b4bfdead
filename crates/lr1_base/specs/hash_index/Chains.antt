-- An index by buckets over a list that only grows: a word for each bucket, which holds 0 or one more than the number of the latest element in it; then a word for each element, which holds the next older one of its bucket in the same way.
use Rattle.std.specs.Prelude.{◌≡◌, ℕ, zero, suc, ◌+◌, Bool, true, false, List, [], ◌∷◌, slice_index, slice_set}

-- of the first k elements those that pass a test, newest first
unfoldable pub newest : (ℕ → Bool) → ℕ → List ℕ
newest t zero = []
newest t (suc k) = elim (t k) [ true ↦ k ∷ newest t k | false ↦ newest t k ]

-- the elements that are linked from a word on, by the words of the elements from `links` on
unfoldable pub Linked : List ℕ → ℕ → ℕ → List ℕ → Type 0
Linked ix links h [] = h ≡ 0
Linked ix links h (k ∷ ks) = (h ≡ suc k) × Linked ix links (slice_index ix (links + k)) ks

-- element k put in front of the chain that begins at the word `head` and goes on by the words from `links` on
unfoldable pub chained : List ℕ → ℕ → ℕ → ℕ → List ℕ
chained ix links head k = slice_set (slice_set ix (links + k) (slice_index ix head)) head (k + 1)
