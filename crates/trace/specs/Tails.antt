-- The tail of a chain of items, listed: those with a nonterminal at the cursor in slots, each once, and the slots of each nonterminal linked.
use Rattle.std.specs.Prelude.{◌≡◌, ℕ, zero, suc, ◌-◌, ◌<◌, ◌≤◌, Bool, true, false, List, [], ◌∷◌, ◌++◌, length, take, ◌≢◌, slice_index, slice_index_or}
use Rattle.lr1_base.specs.repr.Sizes.{nonterminal_limit}
use Rattle.lr1_base.specs.repr.Meaning.{Item}
use Rattle.table.specs.Decoded.{meaning, items_from}
use Rattle.table.specs.Index.{ItemIndex}
use Rattle.trace.specs.Traced.{Trace, can_shift, in_turn}
use Rattle.trace.specs.Shift.{epsilon_item, epsilon}

-- words of each list, and the first slot: those before it are nonterminals
abbrev pub tail_words : ℕ
tail_words = 2000

abbrev pub first_slot : ℕ
first_slot = nonterminal_limit

-- the items of j slots from slot k on
unfoldable pub along : List ℕ → List ℕ → ℕ → ℕ → List Item
along t rs zero k = []
along t rs (suc j) k = take 1 (items_from t (slice_index rs k)) ++ along t rs j (suc k)

-- whether the item of slot k can shift nonterminal n
abbrev pub Shifts : List ℕ → List ℕ → ℕ → ℕ → Bool → Type 0
Shifts t rs n k b = (i : Item) (is : List Item) → items_from t (slice_index rs k) ≡ i ∷ is → can_shift (meaning t) n i ≡ b

-- b: the first slot from `from` on whose item can shift nonterminal n, 0 where none before `count` can
pub record Leads (t rs : List ℕ) (n from count b : ℕ) : Type 0 where
  pub none : b ≡ 0 → (j : ℕ) → from ≤ j → j < count → Shifts t rs n j false
  pub between : (j : ℕ) → from ≤ j → j < b → Shifts t rs n j false
  pub some : (b ≢ 0) → (from ≤ b) × (b < count) × Shifts t rs n b true

-- the slots before `count` make the same turn as the tail, in every state
pub record Collected (t rs : List ℕ) (tail count : ℕ) : Type 0 where
  pub long : length rs ≡ tail_words
  pub few : count ≤ tail_words
  pub least : first_slot ≤ count
  pub on : (k : ℕ) → first_slot ≤ k → k < count → ItemIndex t (slice_index rs k) × (slice_index rs k ≢ 0)
  pub same : (f s n : ℕ) → n < length (meaning t).nonterminals → (st : Trace)
      → in_turn (epsilon_item (meaning t) n (λ m u. epsilon (meaning t) f s m u)) (along t rs (count - first_slot) first_slot) st
      ≡ in_turn (epsilon_item (meaning t) n (λ m u. epsilon (meaning t) f s m u)) (items_from t tail) st

-- the slots from `from` on linked, and each nonterminal to the first of them
pub record Linked (t rs ls : List ℕ) (count from : ℕ) : Type 0 where
  pub long : length ls ≡ tail_words
  pub heads : (n : ℕ) → n < length (meaning t).nonterminals → Leads t rs n from count (slice_index ls n)
  pub slots : (k : ℕ) → from ≤ k → k < count → (n : ℕ) → n < length (meaning t).nonterminals → Shifts t rs n k true → Leads t rs n (suc k) count (slice_index ls k)

-- no tail is listed, or one is
pub record Usable (t rs ls : List ℕ) : Type 0 where
  pub roomy : 1 < length rs
  pub count : ℕ
  pub ends : slice_index_or rs 0 0 ≡ 0
  pub collected : (slice_index rs 1 ≢ 0) → Collected t rs (slice_index rs 1) count
  pub linked : (slice_index rs 1 ≢ 0) → Linked t rs ls count first_slot

-- the lists of two tails: all of one length, each pair usable
pub record TwoTails (t rs ls us ms : List ℕ) : Type 0 where
  pub few : length rs ≤ tail_words
  pub links : length ls ≡ length rs
  pub others : length us ≡ length rs
  pub other_links : length ms ≡ length rs
  pub usable : Usable t rs ls
  pub other_usable : Usable t us ms

-- the place of a record of the chain
pub record Begins (rs ls : List ℕ) (n at slot record' : ℕ) : Type 0 where
  pub chain : (at ≡ slice_index rs 1 → at ≡ 0) → (slot ≡ 0) × (record' ≡ at)
  pub listed : (at ≢ 0) → at ≡ slice_index rs 1 → (slot ≡ slice_index ls n) × (record' ≡ slice_index rs slot)

-- the place after slot k, or after a record of the chain with the next one `next`
pub record Follows (rs ls : List ℕ) (n k next slot record' : ℕ) : Type 0 where
  pub chain : k ≡ 0 → Begins rs ls n next slot record'
  pub listed : (k ≢ 0) → (slot ≡ slice_index ls k) × (record' ≡ slice_index rs slot)
