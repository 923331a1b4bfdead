-- What the packed productions of a table say of each production, and how many symbols they have.
use mathlib.Core.Path.{◌≡◌, refl, sym, ap, ◌∙◌}
use mathlib.Core.List.{List, [], ◌∷◌, map}
use Prim.Native.Nat.{ℕ, zero, suc, ◌+◌, ◌*◌, ◌≤◌, ◌<◌}
use native.Mathlib.Omega.{arith}
use lib.ListN.{length, get_or}
use Rattle.lr1_base.specs.repr.Sizes.{production_place, symbol_limit}
use Rattle.lr1_base.specs.repr.Meaning.{Symbol, Production, Table, no_production, production_at}
use Rattle.lr1_base.specs.repr.Listed.{listed}
use Rattle.lr1_base.specs.repr.Packed.{Packed, symbol_words, production_in, productions_in}
use Rattle.lr1_base.specs.repr.Lists.{up_from, below}
use Rattle.std.specs.List.{range_with_len, sum_by}
use Rattle.std.proofs.lemmas.List.Sums.{sum_by-cons}
use native.Mathlib.Numerals.{add-one}
use Rattle.lr1_base.proofs.repr.Lists.{get_d_map-below}
use Rattle.lr1_base.proofs.repr.Parts.{symbols_long}
use Rattle.table_rewrite.specs.spelling.Spelled.{place_of, size_of}
use Rattle.table_rewrite.specs.grammar_records.Target.{PackedAs}
use Rattle.lr1_base.proofs.repr.Packed.{productions_long}

-- production p of the packed ones
pub record Row (g : List ℕ) (p : ℕ) (q : Production) : Type 0 where
  pub owner : get_or g (production_place p) 0 ≡ q.nonterminal
  pub symbols : q.symbols ≡ listed (symbol_words g p)
  pub many : get_or g (production_place p + 1) 0 ≡ length q.symbols
  pub short : get_or g (production_place p + 1) 0 ≤ symbol_limit
  pub start : get_or g (production_place p + 2) 0 ≡ q.start
  pub end : get_or g (production_place p + 3) 0 ≡ q.end

row_in : (g : List ℕ) (n p : ℕ) → Packed g n → p < n → Row g p (production_in g p)
unfolding production_in
row_in g n p P h = record { owner = refl; symbols = refl; many = sym (symbols_long g n p P h); short = P.short p h; start = refl; end = refl }

pub row_at : (g : List ℕ) (n p : ℕ) → Packed g n → p < n → Row g p (get_or (productions_in g n) p no_production)
unfolding productions_in
row_at g n p P h = rw (get_d_map-below (production_in g) n p no_production h) (row_in g n p P h)

pub row_of : (U : Table) (g : List ℕ) (n p : ℕ) → PackedAs U g n → p < n → Row g p (production_at U p)
row_of U g n p P h = rw P.same at (row_at g n p P.packed h)

pub many_of : (U : Table) (g : List ℕ) (n : ℕ) → PackedAs U g n → length U.productions ≡ n
many_of U g n P = sym (ap length P.same) ∙ productions_long g n

pub packed-inside : (U : Table) (g : List ℕ) (n p : ℕ) → PackedAs U g n → p < n → p < length U.productions
packed-inside U g n p P h = let m = many_of U g n P in omega arith

-- behind the last chain
pub place_end {ℓ} : {A : Type ℓ} (o : ℕ) (xss : List (List A)) → place_of o xss (length xss) ≡ o + size_of xss
unfolding place_of size_of
place_end o [] = omega arith
place_end o (xs ∷ xss) = place_end (o + length xs) xss ∙ omega arith

-- the symbols counted
abbrev lists_in : List ℕ → ℕ → ℕ → List (List Symbol)
lists_in g a n = map (λ (q : Production). q.symbols) (map (production_in g) (up_from a n))

sum_lists : (g : List ℕ) (a n : ℕ) → sum_by (λ p. length (listed (symbol_words g p))) (range_with_len a n) ≡ size_of (lists_in g a n)
unfolding up_from size_of production_in
sum_lists g a zero = refl
sum_lists g a (suc n) =
    let more : sum_by (λ p. length (listed (symbol_words g p))) (range_with_len (suc a) n) ≡ size_of (lists_in g (suc a) n) = sum_lists g (suc a) n in
    rw (add-one a, sum_by-cons (λ p. length (listed (symbol_words g p))) a (range_with_len (suc a) n)) (omega arith)

sum_few : (h : ℕ → ℕ) (a n top : ℕ) → ((p : ℕ) → a ≤ p → p < a + n → h p ≤ top) → sum_by h (range_with_len a n) ≤ n * top
sum_few h a zero top f = omega arith
sum_few h a (suc n) top f =
    let more = sum_few h (a + 1) n top (λ p l u. f p (omega arith) (omega arith)) in
    let here = f a (omega arith) (omega arith) in
    let e : suc n * top ≡ n * top + top = omega arith in
    omega (arith, sum_by-cons h a (range_with_len (a + 1) n))

module _ (g : List ℕ) (n : ℕ) (P : Packed g n) where
  pub symbols_sum : sum_by (λ p. length (listed (symbol_words g p))) (range_with_len 0 n) ≡ size_of (map (λ (q : Production). q.symbols) (productions_in g n))
  unfolding productions_in below
  symbols_sum = sum_lists g 0 n

  pub symbols_few : sum_by (λ p. length (listed (symbol_words g p))) (range_with_len 0 n) ≤ n * symbol_limit
  symbols_few = sum_few (λ p. length (listed (symbol_words g p))) 0 n symbol_limit (λ p l u. omega (arith, symbols_long g n p P (omega arith), P.short p (omega arith)))
