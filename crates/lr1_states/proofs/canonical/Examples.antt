-- The states computed, and held against an independent model of the rule (docs/RULES.md, "Building states"). Each state is given as its pairs with their tokens, by production, then
-- index: `at production index set`.
use mathlib.Core.Bool.{not}
use mathlib.Core.Path.{◌≡◌, refl}
use mathlib.Core.List.{List, [], ◌∷◌, map}
use Prim.Native.Nat.{ℕ, ◌/◌, ◌%◌}
use lib.Dec.{eqb}
use lib.ListN.{length, get_or}
use Rattle.lr1_base.specs.repr.Sizes.{index_limit}
use Rattle.lr1_base.specs.words.Same.{same_words}
use Rattle.lr1_base.specs.repr.Lists.{up_from, below, keep, every?, joined}
use Rattle.lr1_base.specs.repr.Meaning.{Symbol, nonterminal, terminal, is_same_symbol, Edge, Table}
use Rattle.lr1_base.specs.lookahead.Tokens.{has, single, union, without, meet, members}
use Rattle.first.specs.First.{join, first_of, marked_at_end, grown, round, settle, sets_of_first}
use Rattle.first.specs.Rust.{rust_first0}
use Rattle.lr1_states.specs.canonical.Canonical.{Clash}
use Rattle.lr1_states.specs.canonical.States
use Rattle.lr1_states.specs.canonical.States.{Collected, built, halted, build, collect, take, tried, add, place, nothing?, start_state, goto, moved, moved_to, begins, closure, moves, move_to, gives_of, clashes, clashes_of, reduces, shifts}

abbrev at : ℕ → ℕ → ℕ → List ℕ
at p i s = p ∷ i ∷ s ∷ []

abbrev edge : Symbol → ℕ → Edge
edge x k = record { symbol = x; target = k }

abbrev word : ℕ → ℕ → ℕ → ℕ → Clash
word p a o t = record { production = p; action = a; other = o; token = t }

abbrev shown : List ℕ → List (List ℕ)
shown S = map (λ x. at (x / index_limit) (x % index_limit) (get_or S x 0)) (keep (λ x. not (eqb (get_or S x 0) 0)) (below (length S)))

abbrev states_of : Collected → List (List (List ℕ))
states_of (built Rs es) = map shown Rs
states_of (halted Rs) = []

abbrev edges_of : Collected → List (List Edge)
edges_of (built Rs es) = es
edges_of (halted Rs) = []

abbrev clashes_all : Table → Collected → List (List Clash)
clashes_all T (built Rs es) = map (clashes T) Rs
clashes_all T (halted Rs) = []

-- Z → E, E → E + E, E → n; the terminals are + and n. State 4 has the one conflict, + shifted or E → E + E reduced
abbrev pub table_sum : Table
table_sum = record {
  terminals = 2;
  nonterminals = (0 ∷ []) ∷ (1 ∷ 2 ∷ []) ∷ [];
  productions = record { nonterminal = 0; symbols = nonterminal 1 ∷ []; start = 0; end = 0 }
      ∷ record { nonterminal = 1; symbols = nonterminal 1 ∷ terminal 0 ∷ nonterminal 1 ∷ []; start = 0; end = 0 }
      ∷ record { nonterminal = 1; symbols = terminal 1 ∷ []; start = 0; end = 0 }
      ∷ [];
  states = [];
}

pub sum-states : states_of (build table_sum 0)
    ≡ (at 0 0 4 ∷ at 1 0 5 ∷ at 2 0 5 ∷ [])
    ∷ (at 0 1 4 ∷ at 1 1 5 ∷ [])
    ∷ (at 2 1 5 ∷ [])
    ∷ (at 1 0 5 ∷ at 1 2 5 ∷ at 2 0 5 ∷ [])
    ∷ (at 1 1 5 ∷ at 1 3 5 ∷ [])
    ∷ []
unfolding build collect take tried add place nothing? start_state goto moved moved_to begins closure moves move_to gives_of States.grown States.round States.settle every? joined below up_from is_same_symbol rust_first0 marked_at_end first_of sets_of_first settle same_words round grown join has single union without keep clashes clashes_of reduces shifts meet members
sum-states = refl

pub sum_edges : edges_of (build table_sum 0)
    ≡ (edge (nonterminal 1) 1 ∷ edge (terminal 1) 2 ∷ [])
    ∷ (edge (terminal 0) 3 ∷ [])
    ∷ []
    ∷ (edge (nonterminal 1) 4 ∷ edge (terminal 1) 2 ∷ [])
    ∷ (edge (terminal 0) 3 ∷ [])
    ∷ []
unfolding build collect take tried add place nothing? start_state goto moved moved_to begins closure moves move_to gives_of States.grown States.round States.settle every? joined below up_from is_same_symbol rust_first0 marked_at_end first_of sets_of_first settle same_words round grown join has single union without keep clashes clashes_of reduces shifts meet members
sum_edges = refl

pub sum_conflicts : clashes_all table_sum (build table_sum 0)
    ≡ []
    ∷ []
    ∷ []
    ∷ []
    ∷ (word 1 0 0 0 ∷ [])
    ∷ []
unfolding build collect take tried add place nothing? start_state goto moved moved_to begins closure moves move_to gives_of States.grown States.round States.settle every? joined below up_from is_same_symbol rust_first0 marked_at_end first_of sets_of_first settle same_words round grown join has single union without keep clashes clashes_of reduces shifts meet members
sum_conflicts = refl

-- Z → S, S → C C, C → c C, C → d (Aho, Sethi, Ullman, example 4.42): ten states, none merged
abbrev pub table_lazy : Table
table_lazy = record {
  terminals = 2;
  nonterminals = (0 ∷ []) ∷ (1 ∷ []) ∷ (2 ∷ 3 ∷ []) ∷ [];
  productions = record { nonterminal = 0; symbols = nonterminal 1 ∷ []; start = 0; end = 0 }
      ∷ record { nonterminal = 1; symbols = nonterminal 2 ∷ nonterminal 2 ∷ []; start = 0; end = 0 }
      ∷ record { nonterminal = 2; symbols = terminal 0 ∷ nonterminal 2 ∷ []; start = 0; end = 0 }
      ∷ record { nonterminal = 2; symbols = terminal 1 ∷ []; start = 0; end = 0 }
      ∷ [];
  states = [];
}

pub lazy_states : states_of (build table_lazy 0)
    ≡ (at 0 0 4 ∷ at 1 0 4 ∷ at 2 0 3 ∷ at 3 0 3 ∷ [])
    ∷ (at 0 1 4 ∷ [])
    ∷ (at 1 1 4 ∷ at 2 0 4 ∷ at 3 0 4 ∷ [])
    ∷ (at 2 0 3 ∷ at 2 1 3 ∷ at 3 0 3 ∷ [])
    ∷ (at 3 1 3 ∷ [])
    ∷ (at 1 2 4 ∷ [])
    ∷ (at 2 0 4 ∷ at 2 1 4 ∷ at 3 0 4 ∷ [])
    ∷ (at 3 1 4 ∷ [])
    ∷ (at 2 2 3 ∷ [])
    ∷ (at 2 2 4 ∷ [])
    ∷ []
unfolding build collect take tried add place nothing? start_state goto moved moved_to begins closure moves move_to gives_of States.grown States.round States.settle every? joined below up_from is_same_symbol rust_first0 marked_at_end first_of sets_of_first settle same_words round grown join has single union without keep clashes clashes_of reduces shifts meet members
lazy_states = refl

pub lazy_edges : edges_of (build table_lazy 0)
    ≡ (edge (nonterminal 1) 1 ∷ edge (nonterminal 2) 2 ∷ edge (terminal 0) 3 ∷ edge (terminal 1) 4 ∷ [])
    ∷ []
    ∷ (edge (nonterminal 2) 5 ∷ edge (terminal 0) 6 ∷ edge (terminal 1) 7 ∷ [])
    ∷ (edge (nonterminal 2) 8 ∷ edge (terminal 0) 3 ∷ edge (terminal 1) 4 ∷ [])
    ∷ []
    ∷ []
    ∷ (edge (nonterminal 2) 9 ∷ edge (terminal 0) 6 ∷ edge (terminal 1) 7 ∷ [])
    ∷ []
    ∷ []
    ∷ []
    ∷ []
unfolding build collect take tried add place nothing? start_state goto moved moved_to begins closure moves move_to gives_of States.grown States.round States.settle every? joined below up_from is_same_symbol rust_first0 marked_at_end first_of sets_of_first settle same_words round grown join has single union without keep clashes clashes_of reduces shifts meet members
lazy_edges = refl

pub lazy_conflicts : clashes_all table_lazy (build table_lazy 0)
    ≡ []
    ∷ []
    ∷ []
    ∷ []
    ∷ []
    ∷ []
    ∷ []
    ∷ []
    ∷ []
    ∷ []
    ∷ []
unfolding build collect take tried add place nothing? start_state goto moved moved_to begins closure moves move_to gives_of States.grown States.round States.settle every? joined below up_from is_same_symbol rust_first0 marked_at_end first_of sets_of_first settle same_words round grown join has single union without keep clashes clashes_of reduces shifts meet members
lazy_conflicts = refl

-- Z → S, S → S, S → a: reductions against one another
abbrev pub table_loop : Table
table_loop = record {
  terminals = 1;
  nonterminals = (0 ∷ []) ∷ (1 ∷ 2 ∷ []) ∷ [];
  productions = record { nonterminal = 0; symbols = nonterminal 1 ∷ []; start = 0; end = 0 }
      ∷ record { nonterminal = 1; symbols = nonterminal 1 ∷ []; start = 0; end = 0 }
      ∷ record { nonterminal = 1; symbols = terminal 0 ∷ []; start = 0; end = 0 }
      ∷ [];
  states = [];
}

pub loop_states : states_of (build table_loop 0)
    ≡ (at 0 0 2 ∷ at 1 0 2 ∷ at 2 0 2 ∷ [])
    ∷ (at 0 1 2 ∷ at 1 1 2 ∷ [])
    ∷ (at 2 1 2 ∷ [])
    ∷ []
unfolding build collect take tried add place nothing? start_state goto moved moved_to begins closure moves move_to gives_of States.grown States.round States.settle every? joined below up_from is_same_symbol rust_first0 marked_at_end first_of sets_of_first settle same_words round grown join has single union without keep clashes clashes_of reduces shifts meet members
loop_states = refl

pub loop_edges : edges_of (build table_loop 0)
    ≡ (edge (nonterminal 1) 1 ∷ edge (terminal 0) 2 ∷ [])
    ∷ []
    ∷ []
    ∷ []
unfolding build collect take tried add place nothing? start_state goto moved moved_to begins closure moves move_to gives_of States.grown States.round States.settle every? joined below up_from is_same_symbol rust_first0 marked_at_end first_of sets_of_first settle same_words round grown join has single union without keep clashes clashes_of reduces shifts meet members
loop_edges = refl

pub loop_conflicts : clashes_all table_loop (build table_loop 0)
    ≡ []
    ∷ (word 0 1 1 1 ∷ [])
    ∷ []
    ∷ []
unfolding build collect take tried add place nothing? start_state goto moved moved_to begins closure moves move_to gives_of States.grown States.round States.settle every? joined below up_from is_same_symbol rust_first0 marked_at_end first_of sets_of_first settle same_words round grown join has single union without keep clashes clashes_of reduces shifts meet members
loop_conflicts = refl

-- Z → S, S → A S b, S → c, A → nothing: reductions of an empty production
abbrev pub table_gone : Table
table_gone = record {
  terminals = 2;
  nonterminals = (0 ∷ []) ∷ (1 ∷ 2 ∷ []) ∷ (3 ∷ []) ∷ [];
  productions = record { nonterminal = 0; symbols = nonterminal 1 ∷ []; start = 0; end = 0 }
      ∷ record { nonterminal = 1; symbols = nonterminal 2 ∷ nonterminal 1 ∷ terminal 0 ∷ []; start = 0; end = 0 }
      ∷ record { nonterminal = 1; symbols = terminal 1 ∷ []; start = 0; end = 0 }
      ∷ record { nonterminal = 2; symbols = []; start = 0; end = 0 }
      ∷ [];
  states = [];
}

pub gone_states : states_of (build table_gone 0)
    ≡ (at 0 0 4 ∷ at 1 0 4 ∷ at 2 0 4 ∷ at 3 0 2 ∷ [])
    ∷ (at 0 1 4 ∷ [])
    ∷ (at 1 0 1 ∷ at 1 1 4 ∷ at 2 0 1 ∷ at 3 0 2 ∷ [])
    ∷ (at 2 1 4 ∷ [])
    ∷ (at 1 2 4 ∷ [])
    ∷ (at 1 0 1 ∷ at 1 1 1 ∷ at 2 0 1 ∷ at 3 0 2 ∷ [])
    ∷ (at 2 1 1 ∷ [])
    ∷ (at 1 3 4 ∷ [])
    ∷ (at 1 2 1 ∷ [])
    ∷ (at 1 3 1 ∷ [])
    ∷ []
unfolding build collect take tried add place nothing? start_state goto moved moved_to begins closure moves move_to gives_of States.grown States.round States.settle every? joined below up_from is_same_symbol rust_first0 marked_at_end first_of sets_of_first settle same_words round grown join has single union without keep clashes clashes_of reduces shifts meet members
gone_states = refl

pub gone_edges : edges_of (build table_gone 0)
    ≡ (edge (nonterminal 1) 1 ∷ edge (nonterminal 2) 2 ∷ edge (terminal 1) 3 ∷ [])
    ∷ []
    ∷ (edge (nonterminal 1) 4 ∷ edge (nonterminal 2) 5 ∷ edge (terminal 1) 6 ∷ [])
    ∷ []
    ∷ (edge (terminal 0) 7 ∷ [])
    ∷ (edge (nonterminal 1) 8 ∷ edge (nonterminal 2) 5 ∷ edge (terminal 1) 6 ∷ [])
    ∷ []
    ∷ []
    ∷ (edge (terminal 0) 9 ∷ [])
    ∷ []
    ∷ []
unfolding build collect take tried add place nothing? start_state goto moved moved_to begins closure moves move_to gives_of States.grown States.round States.settle every? joined below up_from is_same_symbol rust_first0 marked_at_end first_of sets_of_first settle same_words round grown join has single union without keep clashes clashes_of reduces shifts meet members
gone_edges = refl

pub gone_conflicts : clashes_all table_gone (build table_gone 0)
    ≡ (word 3 0 1 1 ∷ [])
    ∷ []
    ∷ (word 3 0 1 1 ∷ [])
    ∷ []
    ∷ []
    ∷ (word 3 0 1 1 ∷ [])
    ∷ []
    ∷ []
    ∷ []
    ∷ []
    ∷ []
unfolding build collect take tried add place nothing? start_state goto moved moved_to begins closure moves move_to gives_of States.grown States.round States.settle every? joined below up_from is_same_symbol rust_first0 marked_at_end first_of sets_of_first settle same_words round grown join has single union without keep clashes clashes_of reduces shifts meet members
gone_conflicts = refl

-- S → A X, A → a, and X has no production: FIRST(X end) is empty, so A → . a is no item of state 0 and no edge leaves it on a
abbrev pub table_dead : Table
table_dead = record {
  terminals = 1;
  nonterminals = (0 ∷ []) ∷ (1 ∷ []) ∷ [] ∷ [];
  productions = record { nonterminal = 0; symbols = nonterminal 1 ∷ nonterminal 2 ∷ []; start = 0; end = 0 }
      ∷ record { nonterminal = 1; symbols = terminal 0 ∷ []; start = 0; end = 0 }
      ∷ [];
  states = [];
}

pub dead-states : states_of (build table_dead 0)
    ≡ (at 0 0 2 ∷ [])
    ∷ (at 0 1 2 ∷ [])
    ∷ (at 0 2 2 ∷ [])
    ∷ []
unfolding build collect take tried add place nothing? start_state goto moved moved_to begins closure moves move_to gives_of States.grown States.round States.settle every? joined below up_from is_same_symbol rust_first0 marked_at_end first_of sets_of_first settle same_words round grown join has single union without keep clashes clashes_of reduces shifts meet members
dead-states = refl

pub dead_edges : edges_of (build table_dead 0)
    ≡ (edge (nonterminal 1) 1 ∷ [])
    ∷ (edge (nonterminal 2) 2 ∷ [])
    ∷ []
    ∷ []
unfolding build collect take tried add place nothing? start_state goto moved moved_to begins closure moves move_to gives_of States.grown States.round States.settle every? joined below up_from is_same_symbol rust_first0 marked_at_end first_of sets_of_first settle same_words round grown join has single union without keep clashes clashes_of reduces shifts meet members
dead_edges = refl

pub dead_conflicts : clashes_all table_dead (build table_dead 0)
    ≡ []
    ∷ []
    ∷ []
    ∷ []
unfolding build collect take tried add place nothing? start_state goto moved moved_to begins closure moves move_to gives_of States.grown States.round States.settle every? joined below up_from is_same_symbol rust_first0 marked_at_end first_of sets_of_first settle same_words round grown join has single union without keep clashes clashes_of reduces shifts meet members
dead_conflicts = refl
