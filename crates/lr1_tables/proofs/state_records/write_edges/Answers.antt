use mathlib.Core.Path.{◌≡◌}
use Prim.Native.Nat.{◌+◌}
use native.Mathlib.Omega.{arith}
use lib.ListN.{get_or}
use Rattle.table_rewrite.specs.spelling.Spelled.{edges_at}
use Rattle.table_rewrite.proofs.spelling.Grown.{grown-none, grown-join}
use Rattle.table_rewrite.proofs.spelling.Writing.{room_same}
use Rattle.table_rewrite.proofs.spelling.Areas.{inside_is}
use Rattle.lr1_tables.proofs.state_records.Laws.{rows_few, rows_count, edges_here, edges_more, edges_end}
use Rattle.lr1_tables.proofs.state_records.write_edges.Goals as goal

pub loop-k-init : goal.loop-k-init
loop-k-init c = (omega (arith, c.requires.1.0, rows_few c.requires.0 (λ s. s.edges) _ c.requires.1.1.1.0.begins), λ U es ei I R. let z : edges_at U ≡ edges_at U + get_or c.args.edges.now.rows 0 0 = omega (arith, I.begins.front) in rw (← z) (grown-none U _ _))

pub span-from-requires : goal.span-from-requires
span-from-requires c = omega (arith, c.loop-k-test.true, c.loop-k.invariant.0)

pub write_state_edges-requires : goal.write_state_edges-requires
write_state_edges-requires c = let P = c.requires in
    let I = P.1.1.1.0 in
    let h = inside_is _ _ _ c.loop-k-test.true P.1.0 in rw (c.span-from.ensures.0, c.span-from.ensures.1) record { from_le_past = omega (arith, rows_count P.0 (λ s. s.edges) _ I.begins _ h); stands = (P.0, (edges_here P.0 _ _ I _ _ h P.1.1.0, room_same _ _ _ c.loop-k.auto.out P.1.1.1.1)) }

pub loop-k-preserved : goal.loop-k-preserved
loop-k-preserved c = let P = c.requires in
    let W = c.loop-k.invariant in
    let k = c.loop-k-test.true in
    let e = rw (c.span-from.ensures.0, c.span-from.ensures.1) at c.write_state_edges.ensures in (
      W.0,
      λ U es ei I R. grown-join U _ _ _ _ _ _ (W.1 U es ei I R) (edges_more U _ _ I _ _ (inside_is _ _ _ k es) ei _ _ _ c.loop-k.auto.out R e),
    )

pub returns : goal.returns
returns c = λ U es ei I R. rw (edges_end U _ _ c.loop-k.k I (omega (arith, c.loop-k.auto.k-end, c.loop-k-test.false))) at (c.loop-k.invariant.1 U es ei I R)
