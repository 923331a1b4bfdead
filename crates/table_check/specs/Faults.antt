-- The lowest row against which one record offends, as the check finds it: by what the record is.
use Rattle.std.specs.Prelude.{ℕ, ◌-◌, min, ◌≤◌, ◌<◌, ◌≡◌, Bool, true, false, ◌&&◌, ◌||◌, not, List, [], ◌∷◌, length, eqb, ltb, leb}
use Rattle.std.proofs.Math.Option.{none, some}
use Rattle.lr1_base.specs.repr.Sizes.{index_limit}
use Rattle.lr1_base.specs.repr.Lists.{below, occurrences, first?, joined}
use Rattle.lr1_base.specs.repr.Listed.{symbol_is_fit}
use Rattle.table.specs.Checked.{Checked, Accepted, Refused}
use Rattle.table.specs.Words.{word_at, nonterminals, terminals, states, productions, production_area, loose_records, production_records, against}
use Rattle.table.specs.Decoded.{or_zero, production_chain, symbol_chain}
use Rattle.table.specs.Refusals.{as_item, as_edge, used, offends}

unfoldable pub choose : Bool → ℕ → ℕ → ℕ
choose true x y = x
choose false x y = y

-- a loose record that is reached as a symbol (s), an item (i), an edge (e)
unfoldable pub index_bad : List ℕ → ℕ → Bool → Bool → Bool → Bool
index_bad t r s i e = (s || (i || e)) && against (loose_records t) r (word_at t r 0)

unfoldable pub symbol_bad : List ℕ → ℕ → Bool → Bool → Bool
symbol_bad t r s e = (s || e) && not (symbol_is_fit (nonterminals t) (terminals t) (word_at t r 1) (word_at t r 2))

-- a length counts as far as seventeen: where one is above sixteen, row 5 comes before row 7
unfoldable pub item_bad : List ℕ → ℕ → Bool
item_bad t r = leb (productions t) (word_at t r 1) || ltb (min index_limit (length (symbol_chain t (word_at t r 1)))) (word_at t r 2)

unfoldable pub range_bad : List ℕ → ℕ → Bool → Bool → Bool
range_bad t r i e = (i && item_bad t r) || (e && leb (states t) (word_at t r 3))

unfoldable pub spare_bad : List ℕ → ℕ → Bool → Bool → Bool
spare_bad t r s i = (s || i) && used t r 3

-- rows 3 to 8 of one record, with that length in row 7
unfoldable pub tried : List ℕ → ℕ → ℕ → Bool
tried t n r = elim (eqb n 7) [ true ↦ range_bad t r (as_item t r) (as_edge t r) | false ↦ offends n t r ]

-- the lowest row that is tried and met, or 0
unfoldable pub fault_at : List ℕ → ℕ → ℕ
fault_at t r = or_zero (first? (λ n. tried t n r) (3 ∷ 4 ∷ 5 ∷ 6 ∷ 7 ∷ 8 ∷ []))

-- the same, by what the record is
unfoldable pub fault_of_nonterminal : List ℕ → ℕ → ℕ
fault_of_nonterminal t r =
    choose (against (production_records t) r (word_at t r 0)) 3
    (choose (used t r 1) 8 (choose (used t r 2) 8 (choose (used t r 3) 8 0)))

unfoldable pub fault_of_state : List ℕ → ℕ → ℕ
fault_of_state t r =
    choose (against (loose_records t) r (word_at t r 0)) 3
    (choose (against (loose_records t) r (word_at t r 1)) 3
    (choose (used t r 2) 8 (choose (used t r 3) 8 0)))

unfoldable pub fault_of_production : List ℕ → ℕ → ℕ
fault_of_production t r =
    choose (against (production_records t) r (word_at t r 0)) 3
    (choose (against (loose_records t) r (word_at t r 1)) 3
    (choose (eqb (occurrences r (joined (production_chain t) (below (nonterminals t)))) 1)
    (choose (ltb 16 (length (symbol_chain t (r - production_area t)))) 5 0) 4))

unfoldable pub fault_of_loose : List ℕ → ℕ → Bool → Bool → Bool → ℕ
fault_of_loose t r s i e =
    choose (index_bad t r s i e) 3
    (choose (symbol_bad t r s e) 6
    (choose (range_bad t r i e) 7
    (choose (spare_bad t r s i) 8 0)))

-- the first row that one of the k records meets, and the least such record
unfoldable pub first_by : (ℕ → ℕ → Bool) → ℕ → List ℕ → Checked
first_by off k [] = Accepted
first_by off k (n ∷ ns) = elim (first? (off n) (below k)) [ some r ↦ Refused n r | none ↦ first_by off k ns ]

-- of the first r records: the lowest row that one meets by f, 0 for none, and the first record that meets it
pub record Best (f : ℕ → ℕ) (r row place : ℕ) : Type 0 where
  pub none : row ≡ 0 → (j : ℕ) → j < r → f j ≡ 0
  pub within : place ≤ r
  pub inside : (row ≡ 0 → ⊥) → place < r
  pub is : (row ≡ 0 → ⊥) → f place ≡ row
  pub least : (row ≡ 0 → ⊥) → (j : ℕ) → j < r → (f j ≡ 0 → ⊥) → row ≤ f j
  pub early : (row ≡ 0 → ⊥) → (j : ℕ) → j < place → (f j ≡ 0 → ⊥) → row < f j
