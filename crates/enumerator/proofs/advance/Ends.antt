-- Whether an item is an end of an edge (refusal 15), as the code looks for it.
use Prim.Native.Nat.{ℕ, zero, suc, ◌+◌}
use native.Mathlib.Numerals.{add-one}
use mathlib.Core.Path.{◌≡◌, refl, sym, ap, ◌∙◌}
use mathlib.Core.Bool.{Bool, true, false, ◌&&◌, ◌||◌}
use mathlib.Core.List.{List, map}
use lib.ListN.{get_or}
use lib.Dec.{eqb}
use borrow.Author.Tests.{eq-eqb, ne_eqb}
use Rattle.std.specs.List.{list_any, range_with_len}
use Rattle.lr1_base.specs.repr.Sizes.{edge_place}
use Rattle.lr1_base.specs.repr.Lists.{some?, below, up_from}
use Rattle.lr1_base.proofs.repr.Tests.{some?-cons}
use Rattle.trace_graph.specs.declared.Node.{Node as NodeValue}
use Rattle.trace_graph.specs.Graph.{Node, at_item, same_item, is_same_node, TraceEdge, is_node_of}
use Rattle.trace_graph.specs.Words.{node_at, edge_at, edges_in}
use Rattle.trace_graph.specs.Values.{node_is}
use Rattle.enumerator.proofs.trials.Stepping.{value_nonterminal}
use Rattle.enumerator.proofs.graph_view.Owner.{kind_item}
use Rattle.enumerator.specs.advance.Context.{ends_at}

-- `is_item`
module _ (v : NodeValue) (x : Node) (q : node_is v ≡ x) (p i : ℕ) where
  abbrev alike : Node → Bool
  alike y = is_same_node (at_item (record { production = p; index = i })) y

  pub item-other : v.kind ≡ 0 → false ≡ alike x
  unfolding is_same_node
  item-other z = ap alike (sym (value_nonterminal v z) ∙ q)

  module _ (nz : v.kind ≡ 0 → ⊥) where
    item_is : alike x ≡ (eqb p v.number && eqb i v.index)
    unfolding is_same_node same_item
    item_is = ap alike (sym q ∙ kind_item v nz)

    pub item-number : (p ≡ v.number → ⊥) → false ≡ alike x
    item-number n = sym (item_is ∙ rw (ne_eqb p v.number n))

    pub item_index : p ≡ v.number → eqb i v.index ≡ alike x
    item_index e = sym (item_is ∙ rw (eq-eqb p v.number e))

-- `is_end`
module _ (v : Node) (g : List ℕ) (k : ℕ) (r : Bool) (er : r ≡ is_same_node v (node_at g (edge_place k))) where
  source_is : is_same_node v (edge_at g k).source ≡ r
  unfolding edge_at
  source_is = sym er

  pub ends-source : r ≡ true → true ≡ ends_at v (edge_at g k)
  unfolding ends_at
  ends-source t = sym (rw (source_is ∙ t, ends_at))

  pub ends_target : r ≡ false → (u : Bool) → u ≡ is_same_node v (node_at g (edge_place k + 3)) → u ≡ ends_at v (edge_at g k)
  unfolding ends_at edge_at
  ends_target f u eu = eu ∙ sym (rw (source_is ∙ f, ends_at))

-- `is_node`
any_map : (t : TraceEdge → Bool) (f : ℕ → TraceEdge) (n a : ℕ) → list_any (λ k. t (f k)) (range_with_len a n) ≡ some? t (map f (up_from a n))
unfolding some? up_from
any_map t f zero a = refl
any_map t f (suc n) a =
    ap (λ (b : Bool). t (f a) || b) (ap (λ (k : ℕ). list_any (λ j. t (f j)) (range_with_len k n)) (add-one a) ∙ any_map t f n (suc a)) ∙ sym (some?-cons t (f a) (map f (up_from (suc a) n)))

pub node_any : (g : List ℕ) (v : Node) → list_any (λ k. ends_at v (edge_at g k)) (range_with_len 0 (get_or g 0 0)) ≡ is_node_of v (edges_in g)
unfolding is_node_of ends_at edges_in below
node_any g v = any_map (ends_at v) (edge_at g) (get_or g 0 0) 0
