use mathlib.Core.Path.{◌≡◌, refl}
use native.Mathlib.Omega.{arith}
use Rattle.table_rewrite.proofs.spelling.Grown.{grown-none}
use Rattle.table_rewrite.proofs.spelling.Writing.{follower_small}
use Rattle.lr1_tables.proofs.state_records.Laws.{no_edge, chain-below, chain-room, chain-put, edges_long, edge_quad_lem, target_small}
use Rattle.lr1_tables.proofs.state_records.write_state_edges.Goals as goal

pub loop-m-init : goal.loop-m-init
loop-m-init c = λ U S R. grown-none U _ _

pub offset_bounds-edges-m : goal.offset_bounds-edges-m
offset_bounds-edges-m c = omega (arith, chain-below _ _ _ _ _ _ (edges_long _ _ _) c.loop-m.auto.m c.loop-m-test.true _ c.requires.stands)

pub bounds-edges-m : goal.bounds-edges-m
bounds-edges-m c = omega (arith, chain-below _ _ _ _ _ _ (edges_long _ _ _) c.loop-m.auto.m c.loop-m-test.true _ c.requires.stands)

pub overflow_sub-past-in-loop-m : goal.overflow_sub-past-in-loop-m
overflow_sub-past-in-loop-m c = omega (arith, c.loop-m-test.true)

pub overflow_add-at : goal.overflow_add-at
overflow_add-at c = omega (arith, chain-below _ _ _ _ _ _ (edges_long _ _ _) c.loop-m.auto.m c.loop-m-test.true _ c.requires.stands)

pub next_of-next-requires : goal.next_of-next-requires
next_of-next-requires c = chain-below _ _ _ _ _ _ (edges_long _ _ _) c.loop-m.auto.m c.loop-m-test.true _ c.requires.stands

pub overflow_add-at-in-loop-m : goal.overflow_add-at-in-loop-m
overflow_add-at-in-loop-m c = omega (arith, chain-below _ _ _ _ _ _ (edges_long _ _ _) c.loop-m.auto.m c.loop-m-test.true _ c.requires.stands)

pub put-requires : goal.put-requires
put-requires c = let h = chain-room _ _ _ _ _ _ (edges_long _ _ _) c.loop-m.auto.m c.loop-m-test.true _ c.requires.stands c.loop-m.out c.loop-m.auto.out in
    record { r_lt_record_limit = h; a_bound = (follower_small _ _ _ h.0 c.next_of-next.ensures, (omega (arith, c.words-kind.ensures.1), (omega (arith, c.words-kind.type_inv), omega (arith, target_small _ _ _ c.of-edge.ensures)))) }

pub loop-m-preserved : goal.loop-m-preserved
loop-m-preserved c = let I = c.loop-m.invariant in
    let k = c.loop-m-test.true in
    λ U S R. chain-put _ _ _ _ _ _ (edges_long _ _ _) c.loop-m.auto.m k _ U S _ c.next_of-next.ensures R _ _ _ _ _ no_edge c.loop-m.auto.out (edge_quad_lem _ _ _ _ _ _ _ _ _ _ _ c.loop-m.auto.m k refl c.of-edge.ensures c.words-kind.ensures.0 c.words-kind.ensures.1) c.put.ensures (I U S R)

pub returns : goal.returns
returns c = λ U S R. let z : c.loop-m.m ≡ c.args.past = omega (arith, c.loop-m.auto.m-end c.requires.from_le_past, c.loop-m-test.false) in rw z at (c.loop-m.invariant U S R)
