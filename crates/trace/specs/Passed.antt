-- A state whose items lead to nothing new: a shift trace has the same edges without it (`left_out` of proofs/Passed). D: nonterminals that were entered from another state.
use Rattle.std.specs.Prelude.{◌≡◌, ℕ, ◌<◌, Bool, true, false, List, length, nat_lt}
use Rattle.lr1_base.specs.repr.Lists.{some?}
use Rattle.lr1_base.specs.repr.Meaning.{Item, Table, All}
use Rattle.trace_graph.specs.Graph.{TraceEdge, is_same_edge}
use Rattle.trace.specs.Traced.{owner_of, can_shift}
use Rattle.trace.specs.Edges.{epsilon_edge}

-- where the item can shift one of them its edge is there, and at its beginning its own nonterminal is one of them
pub record ItemPassed (T : Table) (D : ℕ → Bool) (es : List TraceEdge) (i : Item) : Type 0 where
  pub edge : (n : ℕ) → n < length T.nonterminals → D n ≡ true → can_shift T n i ≡ true → some? (is_same_edge T.productions (epsilon_edge T.productions i n)) es ≡ true
  pub owner : (n : ℕ) → n < length T.nonterminals → D n ≡ true → can_shift T n i ≡ true → nat_lt 0 i.index ≡ false → D (owner_of T i) ≡ true

-- so it is of all items, of a set that has nonterminal n
pub record Passed (T : Table) (n : ℕ) (es : List TraceEdge) (is : List Item) : Type 0 where
  pub from : ℕ → Bool
  pub has : from n ≡ true
  pub items : All (ItemPassed T from es) is
