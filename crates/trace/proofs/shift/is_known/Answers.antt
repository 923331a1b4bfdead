use Rattle.std.proofs.Common.{eqb, refl, ap, ◌∙◌}
use Rattle.lr1_base.specs.repr.Lists.{some?}
use Rattle.lr1_base.specs.repr.Meaning.{Item}
use Rattle.table.specs.Decoded.{meaning}
use Rattle.table.proofs.Decoding.{fits}
use Rattle.trace_graph.specs.Graph.{TraceEdge, is_same_edge}
use Rattle.trace.proofs.Adding.{epsilon_way, way_traced, code_way}
use Rattle.trace.proofs.Passing.{edge_small}
use Rattle.trace.proofs.shift.is_known.Goals as goal

pub contains-requires : goal.contains-requires
contains-requires c = edge_small c.args.tracer.working _ c.requires

pub returns : goal.returns
returns c = λ n l can ws es C.
    let T = meaning c.args.tracer.table.words.now in
    let F = fits c.args.tracer.table.words.now c.args.tracer.working.accepted in
    let i : Item = record { production = c.args.item.production; index = c.args.item.index } in
    c.contains.ensures T F c.args.tracer.working.least c.requires.production ws es _ C (way_traced T F i n l c.requires can _) (code_way T F i n l c.requires can (eqb c.args.item.index 0) _ c.kind_on-kind.ensures refl)
    ∙ ap (λ (e : TraceEdge). some? (is_same_edge T.productions e) es) (epsilon_way T i n)
