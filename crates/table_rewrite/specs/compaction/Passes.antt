-- What the passes of `compact` hold and leave: marks, new numbers, records moved in place, heads that follow, the freed end.
use Rattle.std.specs.Prelude.{ℕ, ◌+◌, ◌≤◌, ◌<◌, true, false, ◌≡◌, List, length, get_or}
use Rattle.lr1_base.specs.repr.Sizes.{record_limit}
use Rattle.table.specs.Words.{word_at, state_area, production_area, loose}
use Rattle.table.specs.Quads.{quad_at}
use Rattle.table_rewrite.specs.compaction.Compaction.{reached, rank, moved, compact_quad}

-- word k of the records from `first` up to and without `past` holds heads of chains: 0, or a reached record
unfoldable pub Headed : List ℕ → ℕ → ℕ → ℕ → Type 0
Headed t first past k = (r : ℕ) → first ≤ r → r < past → (word_at t r k ≡ 0 → ⊥) → reached t (word_at t r k) ≡ true

-- a number for each record is 0 as long as the record is not known to be reached: the heads are marked beside what was, and nothing that is not reached
pub record HeadsMarked (t : List ℕ) (first past k : ℕ) (ms ms' : List ℕ) : Type 0 where
  pub long : length ms' ≡ length ms
  pub heads : (r : ℕ) → first ≤ r → r < past → (word_at t r k ≡ 0 → ⊥) → get_or ms' (word_at t r k) 0 ≡ 0 → ⊥
  pub stays : (x : ℕ) → (get_or ms x 0 ≡ 0 → ⊥) → get_or ms' x 0 ≡ 0 → ⊥
  pub sound : ((x : ℕ) → (get_or ms x 0 ≡ 0 → ⊥) → reached t x ≡ true) → (x : ℕ) → (get_or ms' x 0 ≡ 0 → ⊥) → reached t x ≡ true

-- all heads are marked, the next of each reached record before m too, and the reached records before m have their new numbers
pub record Numbering (t ms : List ℕ) (m : ℕ) : Type 0 where
  pub sound : (x : ℕ) → (get_or ms x 0 ≡ 0 → ⊥) → reached t x ≡ true
  pub items : (r : ℕ) → state_area t ≤ r → r < production_area t → (word_at t r 0 ≡ 0 → ⊥) → get_or ms (word_at t r 0) 0 ≡ 0 → ⊥
  pub others : (r : ℕ) → state_area t ≤ r → r < loose t → (word_at t r 1 ≡ 0 → ⊥) → get_or ms (word_at t r 1) 0 ≡ 0 → ⊥
  pub nexts : (x : ℕ) → x < m → reached t x ≡ true → (word_at t x 0 ≡ 0 → ⊥) → get_or ms (word_at t x 0) 0 ≡ 0 → ⊥
  pub done : (x : ℕ) → x < m → reached t x ≡ true → get_or ms x 0 ≡ moved t x

-- the new number of each reached record, 0 for all others
pub record Numbers (t ms : List ℕ) : Type 0 where
  pub long : length ms ≡ record_limit
  pub new : (x : ℕ) → reached t x ≡ true → get_or ms x 0 ≡ moved t x
  pub none : (x : ℕ) → reached t x ≡ false → get_or ms x 0 ≡ 0

-- reached record r, its next marked and itself numbered n
pub record Numbered (t ms ms' : List ℕ) (r n : ℕ) : Type 0 where
  pub long : length ms' ≡ length ms
  pub here : get_or ms' r 0 ≡ n
  pub next : (word_at t r 0 ≡ 0 → ⊥) → get_or ms' (word_at t r 0) 0 ≡ 0 → ⊥
  pub others : (x : ℕ) → (x ≡ r → ⊥) → (x ≡ word_at t r 0 → ⊥) → get_or ms' x 0 ≡ get_or ms x 0
  pub zero : get_or ms' 0 0 ≡ get_or ms 0 0

-- the records of t before m are dealt with: the reached ones stand at their new numbers; from m on all is as it was, and so are the areas
pub record Closing (t g : List ℕ) (m : ℕ) : Type 0 where
  pub long : length g ≡ length t
  pub areas : (r : ℕ) → r < loose t → quad_at g r ≡ quad_at t r
  pub done : (r : ℕ) → loose t ≤ r → r < loose t + rank t m → quad_at g r ≡ compact_quad t r
  pub rest : (r : ℕ) → m ≤ r → quad_at g r ≡ quad_at t r

-- word k of the records from `first` up to and without `past` is the new number of what it was; all else is as it was
pub record Followed (ms g g' : List ℕ) (first past k : ℕ) : Type 0 where
  pub long : length g' ≡ length g
  pub inside : (r : ℕ) → first ≤ r → r < past → word_at g' r k ≡ get_or ms (word_at g r k) 0
  pub word : (r j : ℕ) → j < 4 → (j ≡ k → ⊥) → word_at g' r j ≡ word_at g r j
  pub before : (r j : ℕ) → j < 4 → r < first → word_at g' r j ≡ word_at g r j
  pub behind : (r j : ℕ) → j < 4 → past ≤ r → word_at g' r j ≡ word_at g r j

-- zero from record n on
pub record Freed (g g' : List ℕ) (n : ℕ) : Type 0 where
  pub long : length g' ≡ length g
  pub before : (r : ℕ) → r < n → quad_at g' r ≡ quad_at g r
  pub behind : (r j : ℕ) → j < 4 → n ≤ r → word_at g' r j ≡ 0
