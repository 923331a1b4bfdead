use mathlib.Core.Path.{◌≡◌}
use Prim.Native.Nat.{◌+◌}
use native.Mathlib.Omega.{arith}
use Rattle.table_rewrite.specs.spelling.Spelled.{states_at}
use Rattle.table_rewrite.proofs.spelling.Grown.{grown-none}
use Rattle.table_rewrite.proofs.spelling.Areas.{inside_is, head_small}
use Rattle.lr1_tables.proofs.state_records.Laws.{rows_few, rows_count, state_items, state_edges, state_room, state_put, states_end}
use Rattle.lr1_tables.proofs.state_records.write_states.Goals as goal

pub loop-s-init : goal.loop-s-init
loop-s-init c = (omega (arith, c.requires.1.0, rows_few c.requires.0 (λ s. s.items) _ c.requires.1.1.1.1.1.0), λ U es ea ei ee B D R. let z : states_at U + 0 ≡ states_at U = omega arith in rw z (grown-none U _ _))

pub span-item-requires : goal.span-item-requires
span-item-requires c = omega (arith, c.loop-s-test.true, c.loop-s.invariant.0)

pub overflow_sub-item_past : goal.overflow_sub-item_past
overflow_sub-item_past c = let P = c.requires in omega (arith, rows_count P.0 (λ s. s.items) _ P.1.1.1.1.1.0 _ (inside_is _ _ _ c.loop-s-test.true P.1.0), c.span-item.ensures)

pub overflow_add-items : goal.overflow_add-items
overflow_add-items c = let P = c.requires in omega (arith, state_items P.0 _ P.1.1.1.1.1.1.1 _ (inside_is _ _ _ c.loop-s-test.true P.1.0) _ P.1.1.1.1.1.0 _ P.1.1.1.0, c.span-item.ensures)

pub overflow_sub-rows : goal.overflow_sub-rows
overflow_sub-rows c = let P = c.requires in omega (arith, rows_count P.0 (λ s. s.edges) _ P.1.1.1.1.1.1.0 _ (inside_is _ _ _ c.loop-s-test.true P.1.0))

pub overflow_add-ends : goal.overflow_add-ends
overflow_add-ends c = let P = c.requires in omega (arith, state_edges P.0 _ P.1.1.1.1.1.1.1 _ (inside_is _ _ _ c.loop-s-test.true P.1.0) _ P.1.1.1.1.1.1.0 _ P.1.1.1.1.0)

pub overflow_add-at : goal.overflow_add-at
overflow_add-at c = let P = c.requires in omega (arith, (state_room P.0 _ P.1.1.1.1.1.1.1 _ (inside_is _ _ _ c.loop-s-test.true P.1.0) _ c.loop-s.out P.1.1.0 c.loop-s.auto.out).0)

pub put-requires : goal.put-requires
put-requires c = let P = c.requires in
    let R = P.1.1.1.1.1.1.1 in
    let h = inside_is _ _ _ c.loop-s-test.true P.1.0 in record { r_lt_record_limit = state_room P.0 _ R _ h _ c.loop-s.out P.1.1.0 c.loop-s.auto.out; a_bound = (head_small _ _ _ (state_items P.0 _ R _ h _ P.1.1.1.1.1.0 _ P.1.1.1.0) (rw (c.span-item.ensures.0, c.span-item.ensures.1) at c.head_of-item_head.ensures), (head_small _ _ _ (state_edges P.0 _ R _ h _ P.1.1.1.1.1.1.0 _ P.1.1.1.1.0) c.head_of-edge_head.ensures, (omega arith, omega arith))) }

pub loop-s-preserved : goal.loop-s-preserved
loop-s-preserved c = let W = c.loop-s.invariant in (
  W.0,
  λ U es ea ei ee B D R. state_put U _ R _ (inside_is _ _ _ c.loop-s-test.true es) _ _ _ _ _ _ _ _ _ B D ea ei ee c.loop-s.auto.out (rw (c.span-item.ensures.0, c.span-item.ensures.1) at c.head_of-item_head.ensures) c.head_of-edge_head.ensures c.put.ensures (W.1 U es ea ei ee B D R),
)

pub returns : goal.returns
returns c = λ U es ea ei ee B D R. rw (states_end U c.loop-s.s (omega (arith, c.loop-s.auto.s-end, c.loop-s-test.false))) at (c.loop-s.invariant.1 U es ea ei ee B D R)
