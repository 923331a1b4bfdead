-- The closure as code computes it: what is given stays, and beside it stands one set for each of 32 nonterminals, the tokens of all its index-0 items. The rounds
-- are those of specs/canonical/States, over other moves.
use Rattle.std.specs.Prelude.{ℕ, suc, ◌+◌, ◌*◌, ◌/◌, ◌%◌, ◌^◌, true, false, List, [], ◌∷◌, ◌++◌, map, length, get_or, replicate, eqb}
use Rattle.lr1_base.specs.repr.Sizes.{index_limit}
use Rattle.lr1_base.specs.repr.Lists.{below, joined}
use Rattle.lr1_base.specs.repr.Meaning.{Symbol, nonterminal, terminal, Table, production_at}
use Rattle.lr1_base.specs.lookahead.Tokens.{union}
use Rattle.first.specs.Rust.{rust_first0}
use Rattle.lr1_states.specs.canonical.States.{places, from, Move, settle}

-- the set of nonterminal n stands at places + n
unfoldable pub ahead_of : Table → ℕ → List Symbol → List Move
ahead_of T x [] = []
ahead_of T x (terminal t ∷ β) = []
ahead_of T x (nonterminal n ∷ β) = record { source = x; front = rust_first0 T β; target = places T + n } ∷ []

-- from each item given, and from each production's first item, whose tokens are those of its nonterminal
unfoldable pub ahead_moves : Table → List Move
ahead_moves T =
    joined (λ x. ahead_of T x (from T x)) (below (places T))
    ++ joined (λ p. ahead_of T (places T + (production_at T p).nonterminal) (production_at T p).symbols) (below (length T.productions))

unfoldable pub aheads : Table → List ℕ → List ℕ
aheads T S = settle (suc ((places T + 32) * 2 ^ 64)) T.terminals (S ++ replicate 32 0) (ahead_moves T)

-- the state: index-0 items with their nonterminal's tokens besides
unfoldable pub spread_at : Table → List ℕ → ℕ → ℕ
spread_at T L x = elim (eqb (x % index_limit) 0) [ true ↦ union (get_or L x 0) (get_or L (places T + (production_at T (x / index_limit)).nonterminal) 0) | false ↦ get_or L x 0 ]

unfoldable pub spread : Table → List ℕ → List ℕ
spread T L = map (spread_at T L) (below (places T))
