-- A table with its unused records taken back (docs/RULES.md, "Unused records"): the loose records that a chain reaches move down, in their present order, and indexes follow.
use Rattle.std.specs.Prelude.{ℕ, ◌+◌, ◌-◌, Bool, true, false, ◌||◌, List, map, length, get_or, eqb, ltb, leb}
use Rattle.lr1_base.specs.repr.Lists.{below, keep}
use Rattle.table.specs.Words.{word_at, records, state_area, loose}
use Rattle.table.specs.Refusals.{is_state, as_symbol, as_item, as_edge}
use Rattle.table.specs.Quads.{Quad, no_quad, words}

-- in a chain of symbols, items or edges; as several kinds it is still one record
unfoldable pub reached : List ℕ → ℕ → Bool
reached t r = as_symbol t r || (as_item t r || as_edge t r)

-- how many below n pass a test
unfoldable pub rank_of : (ℕ → Bool) → ℕ → ℕ
rank_of f n = length (keep f (below n))

-- how many reached records lie before r
unfoldable pub rank : List ℕ → ℕ → ℕ
rank t r = rank_of (reached t) r

-- the new number of a reached record; 0 stays 0
unfoldable pub moved : List ℕ → ℕ → ℕ
moved t x = elim (eqb x 0) [ true ↦ 0 | false ↦ loose t + rank t x ]

-- the reached records, ascending, and the number of records that are left
unfoldable pub kept : List ℕ → List ℕ
kept t = keep (reached t) (below (records t))

unfoldable pub count_of : List ℕ → ℕ
count_of t = loose t + rank t (records t)

-- record r of an area: a state's two heads and a production's first symbol follow, all else stays
unfoldable pub area_quad : List ℕ → ℕ → Quad
area_quad t r = record {
  next = elim (is_state t r) [ true ↦ moved t (word_at t r 0) | false ↦ word_at t r 0 ];
  one = elim (leb (state_area t) r) [ true ↦ moved t (word_at t r 1) | false ↦ word_at t r 1 ];
  two = word_at t r 2;
  three = word_at t r 3;
}

-- what was record q and is reached
unfoldable pub loose_quad : List ℕ → ℕ → Quad
loose_quad t q = record { next = moved t (word_at t q 0); one = word_at t q 1; two = word_at t q 2; three = word_at t q 3 }

-- record r afterwards; the freed end is 0
unfoldable pub compact_quad : List ℕ → ℕ → Quad
compact_quad t r = elim (ltb r (loose t)) [
  | true ↦ area_quad t r
  | false ↦ elim (ltb r (count_of t)) [ true ↦ loose_quad t (get_or (kept t) (r - loose t) 0) | false ↦ no_quad ]
]

-- the first n records afterwards; the whole slice, and its front of the records that are left
unfoldable pub compacted_to : ℕ → List ℕ → List ℕ
compacted_to n t = words (map (compact_quad t) (below n))

unfoldable pub compacted : List ℕ → List ℕ
compacted t = compacted_to (records t) t
