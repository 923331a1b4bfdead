-- One decoding of the words into their meaning.
use Rattle.std.specs.Prelude.{ℕ, ◌+◌, ◌-◌, List, map}
use Rattle.std.proofs.Math.Option.{Option, none, some}
use Rattle.lr1_base.specs.repr.Lists.{below, mem, first?}
use Rattle.lr1_base.specs.repr.Meaning.{Symbol, Production, Item, Edge, State, Table}
use Rattle.lr1_base.specs.repr.Listed.{symbol_of_kind}
use Rattle.table.specs.Words.{word_at, nonterminals, terminals, states, productions, state_area, production_area, loose_records, production_records, chain}

-- the records of a nonterminal's productions, of a production's symbols, of a state's items and edges
unfoldable pub production_chain : List ℕ → ℕ → List ℕ
production_chain t n = chain t (production_records t) (1 + n) (word_at t (1 + n) 0)

unfoldable pub symbol_chain : List ℕ → ℕ → List ℕ
symbol_chain t p = chain t (loose_records t) (production_area t + p) (word_at t (production_area t + p) 1)

unfoldable pub item_chain : List ℕ → ℕ → List ℕ
item_chain t s = chain t (loose_records t) (state_area t + s) (word_at t (state_area t + s) 0)

unfoldable pub edge_chain : List ℕ → ℕ → List ℕ
edge_chain t s = chain t (loose_records t) (state_area t + s) (word_at t (state_area t + s) 1)

-- what one loose record means
unfoldable pub symbol_at : List ℕ → ℕ → Symbol
symbol_at t r = symbol_of_kind (word_at t r 1) (word_at t r 2)

unfoldable pub item_at : List ℕ → ℕ → Item
item_at t r = record { production = word_at t r 1; index = word_at t r 2 }

unfoldable pub edge_at : List ℕ → ℕ → Edge
edge_at t r = record { symbol = symbol_of_kind (word_at t r 1) (word_at t r 2); target = word_at t r 3 }

-- the nonterminal in whose chain production p stands
unfoldable pub or_zero : Option ℕ → ℕ
or_zero none = 0
or_zero (some n) = n

unfoldable pub owner_of : List ℕ → ℕ → ℕ
owner_of t p = or_zero (first? (λ n. mem (production_area t + p) (production_chain t n)) (below (nonterminals t)))

unfoldable pub production_of : List ℕ → ℕ → Production
production_of t p = record {
  nonterminal = owner_of t p;
  symbols = map (symbol_at t) (symbol_chain t p);
  start = word_at t (production_area t + p) 2;
  end = word_at t (production_area t + p) 3;
}

unfoldable pub state_of : List ℕ → ℕ → State
state_of t s = record { items = map (item_at t) (item_chain t s); edges = map (edge_at t) (edge_chain t s) }

unfoldable pub productions_of : List ℕ → ℕ → List ℕ
productions_of t n = map (λ r. r - production_area t) (production_chain t n)

unfoldable pub meaning : List ℕ → Table
meaning t = record {
  terminals = terminals t;
  nonterminals = map (productions_of t) (below (nonterminals t));
  productions = map (production_of t) (below (productions t));
  states = map (state_of t) (below (states t));
}

-- the items, edges and productions from an index on: what is left of a chain
unfoldable pub items_from : List ℕ → ℕ → List Item
items_from t x = map (item_at t) (chain t (loose_records t) 0 x)

unfoldable pub edges_from : List ℕ → ℕ → List Edge
edges_from t x = map (edge_at t) (chain t (loose_records t) 0 x)

unfoldable pub productions_from : List ℕ → ℕ → List ℕ
productions_from t x = map (λ r. r - production_area t) (chain t (production_records t) 0 x)
