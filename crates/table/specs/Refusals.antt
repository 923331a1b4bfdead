-- Refusals 1 to 8 (docs/RULES.md, "Refusals"), one test for each row and record; `check_of` is what `check` answers.
use Rattle.std.specs.Prelude.{ℕ, ◌-◌, ◌%◌, Bool, true, false, ◌&&◌, ◌||◌, not, List, [], ◌∷◌, length, eqb, ltb, leb}
use Rattle.std.proofs.Math.Option.{none, some}
use Rattle.lr1_base.specs.repr.Listed.{symbol_is_fit}
use Rattle.lr1_base.specs.repr.Lists.{below, mem, occurrences, first?, some?, joined}
use Rattle.table.specs.Checked.{Checked, Accepted, Refused}
use Rattle.table.specs.Words.{word_at, records, nonterminals, terminals, states, productions, state_area, production_area, loose, loose_records, production_records, against}
use Rattle.table.specs.Decoded.{production_chain, symbol_chain, item_chain, edge_chain}

-- 1: words 0, not a multiple of 4, or above 32,768
unfoldable pub row1 : List ℕ → Bool
row1 t = eqb (length t) 0 || (not (eqb (length t % 4) 0) || ltb 32768 (length t))

-- 2: a count in record 0 outside its range, or areas longer than the table
unfoldable pub row2 : List ℕ → Bool
row2 t =
    eqb (nonterminals t) 0 || (ltb 32 (nonterminals t) || (ltb 63 (terminals t)
    || (eqb (states t) 0 || (ltb 128 (states t) || (ltb 128 (productions t) || ltb (records t) (loose t))))))

-- what a record is, by its place
unfoldable pub is_nonterminal : List ℕ → ℕ → Bool
is_nonterminal t r = leb 1 r && ltb r (state_area t)

unfoldable pub is_state : List ℕ → ℕ → Bool
is_state t r = leb (state_area t) r && ltb r (production_area t)

unfoldable pub is_production : List ℕ → ℕ → Bool
is_production t r = leb (production_area t) r && ltb r (loose t)

-- reached as a symbol, an item, an edge: a chain holds it
unfoldable pub as_symbol : List ℕ → ℕ → Bool
as_symbol t r = some? (λ p. mem r (symbol_chain t p)) (below (productions t))

unfoldable pub as_item : List ℕ → ℕ → Bool
as_item t r = some? (λ s. mem r (item_chain t s)) (below (states t))

unfoldable pub as_edge : List ℕ → ℕ → Bool
as_edge t r = some? (λ s. mem r (edge_chain t s)) (below (states t))

-- 3: a chain index against the rule, or past the last record; the record that holds it
unfoldable pub row3 : List ℕ → ℕ → Bool
row3 t r =
    (is_nonterminal t r && against (production_records t) r (word_at t r 0))
    || ((is_state t r && (against (loose_records t) r (word_at t r 0) || against (loose_records t) r (word_at t r 1)))
    || ((is_production t r && (against (production_records t) r (word_at t r 0) || against (loose_records t) r (word_at t r 1)))
    || ((as_symbol t r || (as_item t r || as_edge t r)) && against (loose_records t) r (word_at t r 0))))

-- 4: a production in no chain or in two
unfoldable pub row4 : List ℕ → ℕ → Bool
row4 t r = is_production t r && not (eqb (occurrences r (joined (production_chain t) (below (nonterminals t)))) 1)

-- 5: a production above 16 symbols
unfoldable pub row5 : List ℕ → ℕ → Bool
row5 t r = is_production t r && ltb 16 (length (symbol_chain t (r - production_area t)))

-- 6: symbol or edge: kind above 1, number out of range
unfoldable pub row6 : List ℕ → ℕ → Bool
row6 t r = (as_symbol t r || as_edge t r) && not (symbol_is_fit (nonterminals t) (terminals t) (word_at t r 1) (word_at t r 2))

-- 7: an item's production, or its index beyond the production's length; an edge's target
unfoldable pub row7 : List ℕ → ℕ → Bool
row7 t r =
    (as_item t r && (leb (productions t) (word_at t r 1) || ltb (length (symbol_chain t (word_at t r 1))) (word_at t r 2)))
    || (as_edge t r && leb (states t) (word_at t r 3))

-- 8: a spare word not 0
unfoldable pub used : List ℕ → ℕ → ℕ → Bool
used t r k = not (eqb (word_at t r k) 0)

unfoldable pub row8 : List ℕ → ℕ → Bool
row8 t r =
    (is_nonterminal t r && (used t r 1 || (used t r 2 || used t r 3)))
    || ((is_state t r && (used t r 2 || used t r 3))
    || ((as_symbol t r || as_item t r) && used t r 3))

-- does record r offend against the row
unfoldable pub offends : ℕ → List ℕ → ℕ → Bool
offends n t r = elim (eqb n 3) [
  | true ↦ row3 t r
  | false ↦ elim (eqb n 4) [
    | true ↦ row4 t r
    | false ↦ elim (eqb n 5) [
      | true ↦ row5 t r
      | false ↦ elim (eqb n 6) [ true ↦ row6 t r | false ↦ elim (eqb n 7) [ true ↦ row7 t r | false ↦ row8 t r ] ]
    ]
  ]
]

-- the first of the rows that has an offending record, and its least such record
unfoldable pub first_row : List ℕ → List ℕ → Checked
first_row t [] = Accepted
first_row t (n ∷ ns) = elim (first? (offends n t) (below (records t))) [ some r ↦ Refused n r | none ↦ first_row t ns ]

unfoldable pub check_of : List ℕ → Checked
check_of t = elim (row1 t) [
  | true ↦ Refused 1 0
  | false ↦ elim (row2 t) [ true ↦ Refused 2 0 | false ↦ first_row t (3 ∷ 4 ∷ 5 ∷ 6 ∷ 7 ∷ 8 ∷ []) ]
]
