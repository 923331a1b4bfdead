-- An item that was traced on from a state: its own edge is there, and the pairs that it leads to are entered. Traced on from there again it changes nothing (`met_still` of proofs/Repeated).
use Rattle.std.specs.Prelude.{◌≡◌, ℕ, true}
use Rattle.lr1_base.specs.repr.Lists.{mem, some?}
use Rattle.lr1_base.specs.repr.Meaning.{Item, Table}
use Rattle.state_graph.specs.Walk.{traced_back}
use Rattle.trace_graph.specs.Graph.{at_nonterminal, at_item, is_same_edge}
use Rattle.trace.specs.Traced.{Trace, pair, owner_of, prefix_of}

pub record ItemMet (T : Table) (s : ℕ) (i : Item) (st : Trace) : Type 0 where
  pub edge : some? (is_same_edge T.productions (record { source = at_nonterminal (owner_of T i); target = at_item i; label = i })) st.edges ≡ true
  pub followed : (p : ℕ) → mem p (traced_back T s (prefix_of T i)) ≡ true → mem (pair p (owner_of T i)) st.seen ≡ true
