-- The sets of the nonterminals alone, while a state is closed: what is given stays as it is, so the rounds of specs/canonical/Aheads change these 32 sets only.
use Rattle.std.specs.Prelude.{◌≡◌, ℕ, ◌*◌, ◌^◌, ◌<◌, List, [], ◌∷◌, length, slice_index, slice_set}
use Rattle.lr1_base.specs.repr.Sizes.{index_limit, item_limit, production_room}
use Rattle.lr1_base.specs.repr.Lists.{below}
use Rattle.lr1_base.specs.repr.Meaning.{Symbol, nonterminal, terminal, Table, production_at}
use Rattle.lr1_base.specs.lookahead.Tokens.{union}
use Rattle.first.specs.Rust.{rust_first0}
use Rattle.lr1_states.specs.canonical.States.{places, from, gives_of}

-- an item with the tokens s and the symbols ys from its cursor on: FIRST(β s) goes to the nonterminal at the cursor
unfoldable pub feed : Table → List ℕ → List Symbol → ℕ → List ℕ
feed T A [] s = A
feed T A (terminal t ∷ β) s = A
feed T A (nonterminal n ∷ β) s = slice_set A n (union (slice_index A n) (gives_of T.terminals (rust_first0 T β) s))

-- by the items given, S, each x of the list in turn
unfoldable pub fed_by_items : Table → List ℕ → List ℕ → List ℕ → List ℕ
fed_by_items T S A [] = A
fed_by_items T S A (x ∷ xs) = fed_by_items T S (feed T A (from T x) (slice_index S x)) xs

-- by the first item of each production p, whose tokens are its nonterminal's
unfoldable pub fed_by_firsts : Table → List ℕ → List ℕ → List ℕ
fed_by_firsts T A [] = A
fed_by_firsts T A (p ∷ ps) = fed_by_firsts T (feed T A (production_at T p).symbols (slice_index A (production_at T p).nonterminal)) ps

-- one round
unfoldable pub fed : Table → List ℕ → List ℕ → List ℕ
fed T S A = fed_by_firsts T (fed_by_items T S A (below (places T))) (below (length T.productions))

-- a state while it is worked on: room for 128 productions, each place a word of 64 bits
pub record Flat (K : List ℕ) : Type 0 where
  pub long : length K ≡ item_limit
  pub fits : (x : ℕ) → slice_index K x < 2 ^ 64

-- the first item of each production p of the list gets its nonterminal's tokens besides
unfoldable pub spread_in : List ℕ → List ℕ → List ℕ → List ℕ → List ℕ
spread_in g A K [] = K
spread_in g A K (p ∷ ps) = spread_in g A (slice_set K (p * index_limit) (union (slice_index K (p * index_limit)) (slice_index A (slice_index g (p * production_room))))) ps
