-- The table that is written, as a meaning: the grammar that was lent, with the states found; and the words of its conflicts.
use Rattle.std.specs.Prelude.{ℕ, List, [], ◌∷◌, map, length, get_or}
use Rattle.lr1_base.specs.repr.Lists.{below, joined}
use Rattle.lr1_base.specs.repr.Meaning.{Edge, State, Table}
use Rattle.lr1_states.specs.canonical.Canonical.{Clash}
use Rattle.lr1_states.specs.canonical.States.{written, clashes}

-- a state: the pairs (production, index) that occur, once each, and its edges as tried
unfoldable pub built_state : List (List ℕ) → List (List Edge) → ℕ → State
built_state Rs es k = record { items = written (get_or Rs k []); edges = get_or es k [] }

-- productions out of reach and useless nonterminals stay
unfoldable pub built_table : Table → List (List ℕ) → List (List Edge) → Table
built_table T Rs es = record {
  terminals = T.terminals;
  nonterminals = T.nonterminals;
  productions = T.productions;
  states = map (built_state Rs es) (below (length Rs));
}

-- five words each: state, production, action, its terminal or production, token
unfoldable pub clash_words : ℕ → Clash → List ℕ
clash_words k c = k ∷ c.production ∷ c.action ∷ c.other ∷ c.token ∷ []

unfoldable pub conflict_words : Table → List (List ℕ) → List ℕ
conflict_words T Rs = joined (λ k. joined (clash_words k) (clashes T (get_or Rs k []))) (below (length Rs))
