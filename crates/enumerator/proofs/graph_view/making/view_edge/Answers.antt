use Prim.Native.Nat.{ℕ, ◌+◌}
use native.Mathlib.Omega.{arith}
use mathlib.Core.Path.{ap, ◌∙◌}
use lib.ListN.{get_or, set}
use Rattle.enumerator.proofs.graph_view.Made.{source_small, target_small, source-put, slot-put}
use Rattle.enumerator.proofs.graph_view.Labelling.{labelling_source, labelling_small, owner_put, code_put}
use Rattle.enumerator.proofs.graph_view.making.view_edge.Goals as goal

pub node_owner-requires : goal.node_owner-requires
node_owner-requires c = record { by_index = labelling_source c.args.grammar.packed c.requires.edge_ranged c.read_edge-edge.ensures.1 }

pub place-requires : goal.place-requires
place-requires c = let s = labelling_small c.args.grammar.packed c.requires.edge_ranged c.read_edge-edge.ensures.1 in (s.0, omega (arith, s.1))

pub source-requires : goal.source-requires
source-requires c = source_small c.requires.edge_ranged c.read_edge-edge.ensures.1

pub slot-requires : goal.slot-requires
slot-requires c = target_small c.requires.edge_ranged c.read_edge-edge.ensures.1

pub returns : goal.returns
returns c = let A = c.args in
    let L = A.lists.now in
    let E = c.requires.edge_ranged in
    let q = c.read_edge-edge.ensures.1 in
    let o = slot-put E q (record { production = A.start.production; index = A.start.index }) c.slot.ensures.0 in record { owners = c.put.ensures.owners ∙ ap (λ (x : ℕ). set L.owners A.k x) (owner_put c.args.grammar.packed E q c.node_owner.ensures.0); codes = ap (λ (x : ℕ). set A.codes.now A.k x) (c.place.ensures.is ∙ code_put c.args.grammar.packed E q); sources = c.put.ensures.sources ∙ ap (λ (x : ℕ). set L.sources A.k x) (source-put E q c.source.ensures.0); older = c.put.ensures.older ∙ ap (λ (x : ℕ). set L.older A.k (get_or L.latest x 0)) o; latest = c.put.ensures.latest ∙ ap (λ (x : ℕ). set L.latest x (A.k + 1)) o }
