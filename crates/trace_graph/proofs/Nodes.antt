-- Nodes by value (specs/Nodes) and words: the words of a node that words make are those words.
use Rattle.std.proofs.Common.{◌≡◌, ℕ, zero, suc, refl}
use Rattle.lr1_base.specs.declared.repr.NonterminalString.{NonterminalString}
use Rattle.lr1_base.specs.declared.repr.ProductionIndex.{ProductionIndex}
use Rattle.trace_graph.specs.declared.TraceGraphNode.{TraceGraphNode}
use Rattle.trace_graph.specs.declared.TraceGraphNode.TheVariants.{Nonterminal, Item, Other}
use Rattle.trace_graph.specs.Graph.{at_nonterminal, at_item}
use Rattle.trace_graph.specs.Words.{node_of}
use Rattle.trace_graph.specs.Values.{node_is}
use Rattle.trace_graph.specs.Nodes.{graph_node, node_value}

pub node_words_lem : (k n i : ℕ) → node_value (graph_node k n i) ≡ record { kind = k; number = n; index = i }
unfolding graph_node node_value
node_words_lem zero n zero = refl
node_words_lem zero n (suc i) = refl
node_words_lem (suc zero) n i = refl
node_words_lem (suc (suc k)) n i = refl

-- the definition's nodes are these
pub nonterminal_is : (n : NonterminalString) → node_is (node_value (Nonterminal n)) ≡ at_nonterminal n.0
unfolding node_is node_value node_of
nonterminal_is n = refl

pub item_is : (p : ProductionIndex) (i : ℕ) → node_is (node_value (Item p i)) ≡ at_item (record { production = p.0; index = i })
unfolding node_is node_value node_of
item_is p i = refl

-- one law for each way through `of`
pub made-nonterminal : (k n i : ℕ) → k ≡ 0 → i ≡ 0 → Nonterminal (record { 0 = n }) ≡ graph_node k n i
unfolding graph_node
made-nonterminal k n i e f = rw (e, f)

pub made_indexed : (k n i : ℕ) → k ≡ 0 → (i ≡ 0 → ⊥) → Other k n i ≡ graph_node k n i
unfolding graph_node
made_indexed k n zero e f = absurd (f refl)
made_indexed k n (suc i) e f = rw e

pub made-item : (k n i : ℕ) → k ≡ 1 → Item (record { 0 = n }) i ≡ graph_node k n i
unfolding graph_node
made-item k n i e = rw e

pub made_other : (k n i : ℕ) → (k ≡ 0 → ⊥) → (k ≡ 1 → ⊥) → Other k n i ≡ graph_node k n i
unfolding graph_node
made_other zero n i e f = absurd (e refl)
made_other (suc zero) n i e f = absurd (f refl)
made_other (suc (suc k)) n i e f = refl

-- and through `words`
module _ (v : TraceGraphNode) where
  pub words-nonterminal : (n : NonterminalString) → v ≡ Nonterminal n → record { kind = 0; number = n.0; index = 0 } ≡ node_value v
  unfolding node_value
  words-nonterminal n e = rw e

  pub words-item : (p : ProductionIndex) (i : ℕ) → v ≡ Item p i → record { kind = 1; number = p.0; index = i } ≡ node_value v
  unfolding node_value
  words-item p i e = rw e

  pub words-other : (k n i : ℕ) → v ≡ Other k n i → record { kind = k; number = n; index = i } ≡ node_value v
  unfolding node_value
  words-other k n i e = rw e
