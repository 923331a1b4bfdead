use Rattle.std.proofs.Common.{arith}
use Rattle.table_rewrite.proofs.spelling.Reading.{item_index, edge_index}
use Rattle.table_rewrite.proofs.spelling.Areas.{inside_is, head_small, spelled, states-start, states-room, states_heads, states_items, states_edges, states-step, states_end}
use Rattle.table_rewrite.proofs.spelling.Spelling.write_states.Goals as goal

pub loop-s-init : goal.loop-s-init
loop-s-init c = states-start _ _ _ _ c.requires.items c.requires.edges c.requires.room

pub first_item-requires : goal.first_item-requires
first_item-requires c = let S = spelled _ _ c.args.self.table.accepted c.args.self.of in omega (arith, c.loop-s-test.true, S.counts.states)

pub count_chain-many_items-requires : goal.count_chain-many_items-requires
count_chain-many_items-requires c = record { loose_index = (item_index _ _ c.first_item.ensures.on, omega arith) }

pub first_edge-requires : goal.first_edge-requires
first_edge-requires c = let S = spelled _ _ c.args.self.table.accepted c.args.self.of in omega (arith, c.loop-s-test.true, S.counts.states)

pub count_chain-many_edges-requires : goal.count_chain-many_edges-requires
count_chain-many_edges-requires c = record { loose_index = (edge_index _ _ c.first_edge.ensures.on, omega arith) }

pub put-requires : goal.put-requires
put-requires c = let S = spelled _ _ c.args.self.table.accepted c.args.self.of in
    let W = c.loop-s.invariant in
    let h = inside_is _ _ _ c.loop-s-test.true S.counts.states in
    let s = states_heads _ _ _ _ _ _ h W in
    record { r_lt_record_limit = states-room _ _ _ _ _ _ h W _ S.states; a_bound = (head_small _ _ _ s.0 c.head_of-item_head.ensures, (head_small _ _ _ s.1 c.head_of-edge_head.ensures, (omega arith, omega arith))) }

pub overflow_add-i : goal.overflow_add-i
overflow_add-i c = let S = spelled _ _ c.args.self.table.accepted c.args.self.of in
    omega (arith, (states_heads _ _ _ _ _ _ (omega (arith, c.loop-s-test.true, S.counts.states)) c.loop-s.invariant).0, c.count_chain-many_items.ensures)

pub overflow_add-d : goal.overflow_add-d
overflow_add-d c = let S = spelled _ _ c.args.self.table.accepted c.args.self.of in
    omega (arith, (states_heads _ _ _ _ _ _ (omega (arith, c.loop-s-test.true, S.counts.states)) c.loop-s.invariant).1, c.count_chain-many_edges.ensures)

pub loop-s-preserved : goal.loop-s-preserved
loop-s-preserved c = let S = spelled _ _ c.args.self.table.accepted c.args.self.of in
    let W = c.loop-s.invariant in
    let h = inside_is _ _ _ c.loop-s-test.true S.counts.states in
    states-step _ _ _ _ _ _ h W _ _ _ _ _ _ S.states (states_items _ _ _ _ _ _ h W _ _ c.first_item.ensures.items c.count_chain-many_items.ensures)
    (states_edges _ _ _ _ _ _ h W _ _ c.first_edge.ensures.edges c.count_chain-many_edges.ensures) c.head_of-item_head.ensures c.head_of-edge_head.ensures c.put.ensures

pub shape_of-out : goal.shape_of-out
shape_of-out c = c.loop-s.invariant.grown.long

pub returns : goal.returns
returns c = let S = spelled _ _ c.args.self.table.accepted c.args.self.of in
    states_end _ _ _ _ _ _ (omega (arith, c.loop-s-test.false, S.counts.states)) c.loop-s.invariant
