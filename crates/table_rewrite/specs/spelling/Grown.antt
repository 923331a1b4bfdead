-- What the parts of the writer read and leave: chains as the table's records hold them; g are the output's words before and g' after.
use Rattle.std.specs.Prelude.{ℕ, suc, ◌+◌, ◌-◌, ◌*◌, ◌≤◌, ◌<◌, min, true, ◌||◌, ◌≡◌, List, map, length, get_or}
use Rattle.lr1_base.specs.repr.Sizes.{record_limit}
use Rattle.lr1_base.specs.repr.Lists.{up_from}
use Rattle.lr1_base.specs.repr.Meaning.{Table}
use Rattle.table.specs.Quads.{Quad, no_quad}
use Rattle.table.specs.Words.{word_at, records, loose_records, chain}
use Rattle.table_rewrite.specs.spelling.Spelled.{symbols_at, items_place, edges_at, records_of, spell}
use Rattle.table_rewrite.specs.compaction.Compaction.{reached}

-- the records from `from` up to and without `past` are those of T's spelling, and the others as they were
pub record Grown (T : Table) (g g' : List ℕ) (from past : ℕ) : Type 0 where
  pub long : length g' ≡ length g
  pub order : from ≤ past
  pub before : (i : ℕ) → i < from * 4 → get_or g' i 0 ≡ get_or g i 0
  pub written : (i : ℕ) → from * 4 ≤ i → i < past * 4 → get_or g' i 0 ≡ get_or (spell T) i 0
  pub behind : (i : ℕ) → past * 4 ≤ i → get_or g' i 0 ≡ get_or g i 0

-- there is room for the whole spelling
pub record Room (T : Table) (g : List ℕ) : Type 0 where
  pub few : records_of T ≤ record_limit
  pub long : records_of T * 4 ≤ length g

-- the records xs stand in qs from record o on
pub record Stands (qs : List Quad) (o : ℕ) (xs : List Quad) : Type 0 where
  pub within : o + length xs ≤ length qs
  pub at : (i : ℕ) → i < length xs → get_or qs (o + i) no_quad ≡ get_or xs i no_quad

-- the records of a chain from index x on
unfoldable pub records_from : List ℕ → ℕ → List ℕ
records_from t x = chain t (loose_records t) 0 x

-- the table's record r with another next index
abbrev pub same_quad : List ℕ → ℕ → ℕ → Quad
same_quad t next r = record { next = next; one = word_at t r 1; two = word_at t r 2; three = word_at t r 3 }

pub record LooseIndex (t : List ℕ) (x : ℕ) : Type 0 where
  pub below : x < record_limit
  pub is : (x ≡ 0 → ⊥) → reached t x ≡ true

-- the chains whose heads stand in word k of the records from `first` up to and without `past`
unfoldable pub chains_of : List ℕ → ℕ → ℕ → ℕ → List (List ℕ)
chains_of t first past k = map (λ r. records_from t (word_at t r k)) (up_from first (past - first))

pub record Heads (t : List ℕ) (first past k : ℕ) : Type 0 where
  pub word : k < 4
  pub order : first ≤ past
  pub inside : past ≤ records t
  pub heads : (r : ℕ) → first ≤ r → r < past → LooseIndex t (word_at t r k)

-- where the regions of loose records begin and how many records there are, counted up to 8,193
pub record SizesOf (T : Table) (y i d r : ℕ) : Type 0 where
  pub symbols : y ≡ symbols_at T
  pub items : i ≡ min (items_place T) (suc record_limit)
  pub edges : d ≡ min (edges_at T) (suc record_limit)
  pub records : r ≡ min (records_of T) (suc record_limit)
