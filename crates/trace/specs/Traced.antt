-- What tracing carries along (docs/RULES.md, "Tracing"; lr1/trace): the edges in the order added, and the pairs of a state and a nonterminal that are entered.
use Rattle.std.specs.Prelude.{ℕ, ◌+◌, ◌*◌, Bool, List, [], ◌∷◌}
use Rattle.lr1_base.specs.repr.Meaning.{Symbol, Item, Table, production_at}
use Rattle.lr1_base.specs.item.Items.{shifts_nonterminal, symbol_sets}
use Rattle.trace_graph.specs.Graph.{Node, TraceEdge, empty_graph, add}

pub record Trace : Type 0 where
  pub edges : List TraceEdge
  pub seen : List ℕ

-- nothing traced yet
unfoldable pub untraced : Trace
untraced = record { edges = empty_graph; seen = [] }

unfoldable pub pair : ℕ → ℕ → ℕ
pair s n = s * 32 + n

unfoldable pub enter : ℕ → ℕ → Trace → Trace
enter s n st = record { edges = st.edges; seen = pair s n ∷ st.seen }

unfoldable pub add_to : Table → Node → Node → Item → Trace → Trace
add_to T from to label st = record { edges = add T.productions (record { source = from; target = to; label = label }) st.edges; seen = st.seen }

-- the nonterminal of an item's production, and its symbols
unfoldable pub owner_of : Table → Item → ℕ
owner_of T i = (production_at T i.production).nonterminal

unfoldable pub symbols_of : Table → Item → List Symbol
symbols_of T i = (production_at T i.production).symbols

unfoldable pub can_shift : Table → ℕ → Item → Bool
can_shift T n i = shifts_nonterminal (symbols_of T i) i.index n

unfoldable pub prefix_of : Table → Item → List Symbol
prefix_of T i = (symbol_sets (symbols_of T i) i.index).prefix

unfoldable pub suffix_of : Table → Item → List Symbol
suffix_of T i = (symbol_sets (symbols_of T i) i.index).suffix

-- one step for each, in order
unfoldable pub in_turn {ℓ} : {A : Type ℓ} → (A → Trace → Trace) → List A → Trace → Trace
in_turn f [] st = st
in_turn f (x ∷ xs) st = in_turn f xs (f x st)

-- the pairs of a state and a nonterminal, and one more: fuel for what enters each pair once (`epsilon-pairs` and `reduce_pairs` of proofs/Fuel)
abbrev pub pairs : ℕ
pairs = 4097
