-- The nonterminal of a node, as `node_owner` reads it.
use Prim.Native.Nat.{ℕ, zero, suc, ◌≤◌, ◌<◌}
use native.Mathlib.Omega.{arith}
use mathlib.Core.Path.{◌≡◌, refl, sym, ap, ◌∙◌}
use mathlib.Core.Bool.{true}
use mathlib.Core.List.{List}
use lib.ListN.{length, get_or}
use Rattle.lr1_base.specs.repr.Sizes.{production_place}
use Rattle.lr1_base.specs.repr.Meaning.{Production, no_production, Item}
use Rattle.lr1_base.specs.repr.Packed.{production_in, productions_in, Packed}
use Rattle.lr1_base.proofs.repr.Lists.{get_d_map-below}
use Rattle.trace_graph.specs.declared.Node.{Node as NodeValue}
use Rattle.trace_graph.specs.Graph.{at_item}
use Rattle.trace_graph.specs.Words.{node_of}
use Rattle.trace_graph.specs.Fits.{item_is_fit}
use Rattle.trace_graph.specs.Index.{InRange}
use Rattle.trace_graph.specs.Values.{node_is, node_value_fits}
use Rattle.trace_graph.proofs.Fits.{value_range, item-below}
use Rattle.enumerator.specs.trials.Lister.{owner_of_node}
use Rattle.enumerator.proofs.trials.Stepping.{value_nonterminal}
use Rattle.enumerator.proofs.trials.Holding.{nonterminal_range}

pub kind_item : (v : NodeValue) → (v.kind ≡ 0 → ⊥) → node_is v ≡ at_item (record { production = v.number; index = v.index })
unfolding node_is node_of
kind_item v ne = go v.kind refl
  where
    go : (k : ℕ) → v.kind ≡ k → node_of v.kind v.number v.index ≡ at_item (record { production = v.number; index = v.index })
    go zero q = absurd (ne q)
    go (suc k) q = rw q

range_item : (n : ℕ) (ps : List Production) (i : Item) → InRange n ps (at_item i) → item_is_fit ps i.production i.index ≡ true
unfolding InRange
range_item n ps i h = h

pub owner_nonterminal : (n : ℕ) (ps : List Production) (v : NodeValue) → n ≤ 32 → node_value_fits n ps v ≡ true → v.kind ≡ 0
    → (v.number ≡ owner_of_node ps (node_is v)) × (v.number < 32)
unfolding owner_of_node
owner_nonterminal n ps v few f z =
    let e = value_nonterminal v z in
    let r = nonterminal_range n ps v.number (rw e at (value_range n ps v f)) in
    (sym (ap (owner_of_node ps) e), omega arith)

module _ (g : List ℕ) (m : ℕ) (P : Packed g m) (n : ℕ) (v : NodeValue) (f : node_value_fits n (productions_in g m) v ≡ true) (ne : v.kind ≡ 0 → ⊥) where
  pub owner_below : v.number < m
  owner_below =
      item-below g m P v.number v.index
      (range_item n (productions_in g m) (record { production = v.number; index = v.index }) (rw (kind_item v ne) at (value_range n (productions_in g m) v f)))

  pub owner_place : production_place v.number < length g
  owner_place = let h = owner_below in omega (arith, P.few, P.long)

  owner_word : (get_or (productions_in g m) v.number no_production).nonterminal ≡ get_or g (production_place v.number) 0
  unfolding productions_in production_in
  owner_word = ap (λ (q : Production). q.nonterminal) (get_d_map-below (production_in g) m v.number no_production owner_below)

  pub owner_item : (x : ℕ) → x ≡ get_or g (production_place v.number) 0 → (x ≡ owner_of_node (productions_in g m) (node_is v)) × (x < 32)
  unfolding owner_of_node
  owner_item x e =
      let h = P.owner v.number owner_below in
      (e ∙ sym (ap (owner_of_node (productions_in g m)) (kind_item v ne) ∙ owner_word), omega arith)
