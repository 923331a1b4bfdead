-- "Reached as" as a relation by chains: what `as_symbol`, `as_item` and `as_edge` of specs/Refusals decide (`reached_is` of proofs/Reached).
use Rattle.std.specs.Prelude.{ℕ, ◌+◌, ◌<◌, Bool, true, ◌≡◌, List}
use Rattle.lr1_base.specs.repr.Lists.{below, mem, some?}
use Rattle.table.specs.Words.{word_at, loose_records, names, chain}

-- from the heads in word k of the n records from `first` on, by next indexes that keep the rule
pub data Reached (t : List ℕ) (first n k : ℕ) : ℕ → Type 0 where
  head : (i x : ℕ) → i < n → x ≡ word_at t (first + i) k → (x ≡ 0 → ⊥) → names (loose_records t) (first + i) x ≡ true → Reached t first n k x
  next : (r x : ℕ) → Reached t first n k r → x ≡ word_at t r 0 → (x ≡ 0 → ⊥) → names (loose_records t) r x ≡ true → Reached t first n k x

-- the same as a test: a chain of loose records that begins in word k of one of the n records from `first` on holds r
unfoldable pub reached_by : List ℕ → ℕ → ℕ → ℕ → ℕ → Bool
reached_by t first n k r = some? (λ i. mem r (chain t (loose_records t) (first + i) (word_at t (first + i) k))) (below n)
