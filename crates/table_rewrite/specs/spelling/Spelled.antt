-- The single spelling of a table (docs/RULES.md, "One spelling"): what a table means, written as words. Records are made first, by regions, and then written out.
use Rattle.std.specs.Prelude.{ℕ, zero, suc, ◌+◌, ◌-◌, ◌<◌, Bool, ◌≡◌, List, [], ◌∷◌, ◌++◌, map, length, get_or, eqb}
use Rattle.std.proofs.Math.Option.{Option, none, some}
use Rattle.lr1_base.specs.repr.Lists.{up_from, below, keep, first?}
use Rattle.table.specs.Quads.{Quad, words}
use Rattle.lr1_base.specs.repr.Meaning.{Symbol, nonterminal, terminal, Item, Edge, Table, production_at, state_at}

-- chains of loose records, each consecutive

-- the index of a chain that is laid at record o: 0 if it is empty
unfoldable pub head_of {ℓ} : {A : Type ℓ} → ℕ → List A → ℕ
head_of o [] = 0
head_of o (x ∷ xs) = o

-- one chain, laid from record o on; `f next x` is the record of x
unfoldable pub chain_from {ℓ} : {A : Type ℓ} → (ℕ → A → Quad) → ℕ → List A → List Quad
chain_from f o [] = []
chain_from f o (x ∷ xs) = f (head_of (suc o) xs) x ∷ chain_from f (suc o) xs

-- chains one behind the other, the first at record o
unfoldable pub chains_from {ℓ} : {A : Type ℓ} → (ℕ → A → Quad) → ℕ → List (List A) → List Quad
chains_from f o [] = []
chains_from f o (xs ∷ xss) = chain_from f o xs ++ chains_from f (o + length xs) xss

-- where chain number i of them begins, and how many records all have
unfoldable pub place_of {ℓ} : {A : Type ℓ} → ℕ → List (List A) → ℕ → ℕ
place_of o [] i = o
place_of o (xs ∷ xss) zero = o
place_of o (xs ∷ xss) (suc i) = place_of (o + length xs) xss i

unfoldable pub size_of {ℓ} : {A : Type ℓ} → List (List A) → ℕ
size_of [] = 0
size_of (xs ∷ xss) = length xs + size_of xss

-- the record of a symbol, of an item, of an edge
unfoldable pub kind_of : Symbol → ℕ
kind_of (nonterminal n) = 0
kind_of (terminal n) = 1

unfoldable pub number_of : Symbol → ℕ
number_of (nonterminal n) = n
number_of (terminal n) = n

abbrev pub symbol_quad : ℕ → Symbol → Quad
symbol_quad next s = record { next = next; one = kind_of s; two = number_of s; three = 0 }

abbrev pub item_quad : ℕ → Item → Quad
item_quad next i = record { next = next; one = i.production; two = i.index; three = 0 }

abbrev pub edge_quad : ℕ → Edge → Quad
edge_quad next e = record { next = next; one = kind_of e.symbol; two = number_of e.symbol; three = e.target }

-- the chains of a table
abbrev pub symbol_lists : Table → List (List Symbol)
symbol_lists T = map (λ p. p.symbols) T.productions

abbrev pub item_lists : Table → List (List Item)
item_lists T = map (λ s. s.items) T.states

abbrev pub edge_lists : Table → List (List Edge)
edge_lists T = map (λ s. s.edges) T.states

-- where the areas and regions begin
unfoldable pub states_at : Table → ℕ
states_at T = 1 + length T.nonterminals

unfoldable pub productions_at : Table → ℕ
productions_at T = states_at T + length T.states

unfoldable pub symbols_at : Table → ℕ
symbols_at T = productions_at T + length T.productions

unfoldable pub items_place : Table → ℕ
items_place T = symbols_at T + size_of (symbol_lists T)

unfoldable pub edges_at : Table → ℕ
edges_at T = items_place T + size_of (item_lists T)

-- all records
unfoldable pub records_of : Table → ℕ
records_of T = edges_at T + size_of (edge_lists T)

-- the lowest production from p on whose nonterminal is n, as a record, or 0
unfoldable pub owns : Table → ℕ → ℕ → Bool
owns T n p = eqb (production_at T p).nonterminal n

unfoldable pub record_or : ℕ → Option ℕ → ℕ
record_or o none = 0
record_or o (some p) = o + p

unfoldable pub next_owned_from : Table → ℕ → ℕ → ℕ
next_owned_from T n p = record_or (productions_at T) (first? (owns T n) (up_from p (length T.productions - p)))

-- the records by place
unfoldable pub nonterminal_quad : Table → ℕ → Quad
nonterminal_quad T n = record { next = next_owned_from T n 0; one = 0; two = 0; three = 0 }

unfoldable pub state_quad : Table → ℕ → Quad
state_quad T s = record {
  next = head_of (place_of (items_place T) (item_lists T) s) (state_at T s).items;
  one = head_of (place_of (edges_at T) (edge_lists T) s) (state_at T s).edges;
  two = 0;
  three = 0;
}

unfoldable pub production_quad : Table → ℕ → Quad
production_quad T p = record {
  next = next_owned_from T (production_at T p).nonterminal (suc p);
  one = head_of (place_of (symbols_at T) (symbol_lists T) p) (production_at T p).symbols;
  two = (production_at T p).start;
  three = (production_at T p).end;
}

unfoldable pub count_quad : Table → Quad
count_quad T = record { next = length T.nonterminals; one = T.terminals; two = length T.states; three = length T.productions }

-- the regions, and all records
unfoldable pub nonterminal_quads : Table → List Quad
nonterminal_quads T = map (nonterminal_quad T) (below (length T.nonterminals))

unfoldable pub state_quads : Table → List Quad
state_quads T = map (state_quad T) (below (length T.states))

unfoldable pub production_quads : Table → List Quad
production_quads T = map (production_quad T) (below (length T.productions))

unfoldable pub symbol_quads : Table → List Quad
symbol_quads T = chains_from symbol_quad (symbols_at T) (symbol_lists T)

unfoldable pub item_quads : Table → List Quad
item_quads T = chains_from item_quad (items_place T) (item_lists T)

unfoldable pub edge_quads : Table → List Quad
edge_quads T = chains_from edge_quad (edges_at T) (edge_lists T)

unfoldable pub quads : Table → List Quad
quads T = (count_quad T ∷ []) ++ (nonterminal_quads T ++ (state_quads T ++ (production_quads T ++ (symbol_quads T ++ (item_quads T ++ edge_quads T)))))

unfoldable pub spell : Table → List ℕ
spell T = words (quads T)

-- a nonterminal's list is its productions, ascending
pub record Ordered (T : Table) : Type 0 where
  pub lists : (n : ℕ) → n < length T.nonterminals → get_or T.nonterminals n [] ≡ keep (owns T n) (below (length T.productions))

-- "The same counts, productions, spans, items in order and edges in order" (docs/RULES.md, "One spelling"); the numbers of states and productions are their lists' lengths.
-- A production holds its nonterminal, symbols and span, a state its items and edges
pub record SameTable (T U : Table) : Type 0 where
  pub nonterminals : length T.nonterminals ≡ length U.nonterminals
  pub terminals : T.terminals ≡ U.terminals
  pub productions : T.productions ≡ U.productions
  pub states : T.states ≡ U.states
