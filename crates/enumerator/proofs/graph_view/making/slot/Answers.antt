use Rattle.enumerator.proofs.graph_view.Made.{slot-nonterminal, slot-start, slot-other, slot-place}
use native.Mathlib.Omega.{arith}
use Rattle.enumerator.proofs.graph_view.making.slot.Goals as goal
use Rattle.enumerator.proofs.graph_view.making.slot.Goals.{else-node-start-via-then-node-start+else-node-start-2, else-node-start-via-else-node-start}

pub returns-then-node-eq0 : goal.returns-then-node-eq0
returns-then-node-eq0 c = (slot-nonterminal c.args.node c.args.start.production c.args.start.index c.if-node-eq0.true, omega (arith, c.requires c.if-node-eq0.true))

pub returns-then-node-start-2 : goal.returns-then-node-start-2
returns-then-node-start-2 c = (slot-start c.args.node c.args.start.production c.args.start.index c.if-node-eq0.false c.if-node-start.true c.if-node-start-2.true, omega arith)

pub returns-else-node-start : goal.returns-else-node-start
returns-else-node-start c = let N = c.args.node in
    let p = c.args.start.production in
    let i = c.args.start.index in (
      elim c.else-node-start.branch [
        | else-node-start-via-then-node-start+else-node-start-2 w ↦ slot-place N p i c.if-node-eq0.false w.if-node-start.true w.if-node-start-2.false
        | else-node-start-via-else-node-start w ↦ slot-other N p i c.if-node-eq0.false w.if-node-start.false
      ],
      omega arith,
    )
