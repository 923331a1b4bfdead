-- The state walk (docs/RULES.md, "Walking back"; lr1/state_graph.rs).
use Rattle.std.specs.Prelude.{ℕ, suc, ◌+◌, ◌<◌, Bool, ◌&&◌, length, get_or}
use mathlib.Core.List.{List, [], ◌∷◌, Memᴰ}
use Rattle.lr1_base.specs.repr.Lists.{below, mem, keep, some?}
use Rattle.lr1_base.specs.repr.Meaning.{Symbol, is_same_symbol, Edge, Table, state_at}

-- a path of edges from a state that spells the symbols and ends at a state
pub data Path (T : Table) : ℕ → List Symbol → ℕ → Type 0 where
  stay : {s : ℕ} → Path T s [] s
  go : {p s : ℕ} {xs : List Symbol} (e : Edge) → Memᴰ e (state_at T p).edges → Path T e.target xs s → Path T p (e.symbol ∷ xs) s

-- the state has an edge by x into one of the states ss
unfoldable pub leads : Table → Symbol → List ℕ → ℕ → Bool
leads T x ss p = some? (λ e. is_same_symbol x e.symbol && mem e.target ss) (state_at T p).edges

-- `predecessors`: the states that have one, ascending
unfoldable pub predecessors : Table → Symbol → List ℕ → List ℕ
predecessors T x ss = keep (leads T x ss) (below (length T.states))

-- back from a set of states over the symbols, the last first
unfoldable pub walked_back : Table → List ℕ → List Symbol → List ℕ
walked_back T ss [] = ss
walked_back T ss (x ∷ xs) = predecessors T x (walked_back T ss xs)

-- `trace_back`: the states from which a path spells the symbols and ends at state s, ascending, once each (`trace_exact` and `trace_ascending` of proofs/Exact)
unfoldable pub traced_back : Table → ℕ → List Symbol → List ℕ
traced_back T s xs = walked_back T (s ∷ []) xs

-- a number above all of these
unfoldable pub above : List ℕ → ℕ
above [] = 0
above (n ∷ ns) = suc n + above ns

-- numbers merged: ascending, once each
unfoldable pub merged : List ℕ → List ℕ
merged ns = keep (λ n. mem n ns) (below (above ns))

-- ascending, so once each
abbrev pub Ascending : List ℕ → Type 0
Ascending ss = (i j : ℕ) → i < j → j < length ss → get_or ss i 0 < get_or ss j 0
