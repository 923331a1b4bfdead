-- Items with their tokens in words, five each: the place (17 * production + index), then the set in four words, the lowest first. A state's items stand one
-- behind the other, by place.
use Rattle.std.specs.Prelude.{◌≡◌, ℕ, ◌+◌, ◌*◌, ◌/◌, ◌%◌, ◌≤◌, Bool, true, false, not, ◌&&◌, Option, Some, None, List, [], ◌∷◌, ◌++◌, map, length, drop, ◌==◌, slice_index, slice_set}
use Rattle.lr1_base.specs.repr.Sizes.{index_limit}
use Rattle.lr1_base.specs.repr.Lists.{up_from, below, keep}
use Rattle.lr1_base.specs.repr.Meaning.{Symbol}
use Rattle.lr1_base.specs.repr.Listed.{listed}
use Rattle.lr1_base.specs.repr.Packed.{symbol_words}
use Rattle.lr1_states.specs.canonical.States.{begins}

pub record Entry : Type 0 where
  pub place : ℕ
  pub set : ℕ

abbrev pub no_entry : Entry
no_entry = record { place = 0; set = 0 }

-- item number m of the words
unfoldable pub set_at : List ℕ → ℕ → ℕ
set_at ws m = slice_index ws (m * 5 + 1) + 65536 * (slice_index ws (m * 5 + 2) + 65536 * (slice_index ws (m * 5 + 3) + 65536 * slice_index ws (m * 5 + 4)))

unfoldable pub entry_at : List ℕ → ℕ → Entry
entry_at ws m = record { place = slice_index ws (m * 5); set = set_at ws m }

-- n items from number m on
unfoldable pub entries : List ℕ → ℕ → ℕ → List Entry
entries ws m n = map (entry_at ws) (up_from m n)

-- the words of an item
unfoldable pub entry_words : ℕ → ℕ → List ℕ
entry_words x s = x ∷ s % 65536 ∷ s / 65536 % 65536 ∷ s / 65536 / 65536 % 65536 ∷ s / 65536 / 65536 / 65536 ∷ []

-- item number m put
unfoldable pub put_entry : List ℕ → ℕ → ℕ → ℕ → List ℕ
put_entry ws m x s =
    slice_set (slice_set (slice_set (slice_set (slice_set ws (m * 5) x) (m * 5 + 1) (s % 65536)) (m * 5 + 2) (s / 65536 % 65536)) (m * 5 + 3) (s / 65536 / 65536 % 65536)) (m * 5 + 4) (s / 65536 / 65536 / 65536)

-- the items of a state: the places that have a token, of a list of places and of all
abbrev pub held : List ℕ → List ℕ → List Entry
held S xs = map (λ x. record { place = x; set = slice_index S x }) (keep (λ x. not (slice_index S x == 0)) xs)

unfoldable pub packed : List ℕ → List Entry
packed S = held S (below (length S))

-- whether the symbols from a cursor on begin with this one, or none are left
unfoldable pub is_at : Option Symbol → List Symbol → Bool
is_at (Some X) xs = begins X xs
is_at None [] = true
is_at None (Y ∷ ys) = false

-- those with the cursor at a symbol, moved over it; with none, those with the cursor at their end
unfoldable pub moved_over : List ℕ → Option Symbol → List Entry → List Entry
moved_over g X [] = []
moved_over g X (e ∷ es) = elim (is_at X (drop (e.place % index_limit) (listed (symbol_words g (e.place / index_limit))))) [
  | true ↦ record { place = e.place + 1; set = e.set } ∷ moved_over g X es
  | false ↦ moved_over g X es
]

unfoldable pub same_entry : Entry → Entry → Bool
same_entry e d = e.place == d.place && e.set == d.set

-- whether the items past index 0 of a state are these: its kernel
unfoldable pub is_same_kernel : List Entry → List Entry → Bool
is_same_kernel [] [] = true
is_same_kernel [] (d ∷ ds) = false
is_same_kernel (e ∷ es) [] = elim (e.place % index_limit == 0) [ true ↦ is_same_kernel es [] | false ↦ false ]
is_same_kernel (e ∷ es) (d ∷ ds) = elim (e.place % index_limit == 0) [ true ↦ is_same_kernel es (d ∷ ds) | false ↦ same_entry e d && is_same_kernel es ds ]

-- one item more taken over a symbol, k and k' the kernel's words before and after
pub record Appended (g : List ℕ) (X : Option Symbol) (x s : ℕ) (k k' : List ℕ) (n r : ℕ) : Type 0 where
  pub long : length k' ≡ length k
  pub low : n ≤ r
  pub high : r ≤ n + 1
  pub is : entries k' 0 r ≡ entries k 0 n ++ moved_over g X (record { place = x; set = s } ∷ [])
