use Rattle.std.proofs.Common.{arith}
use Rattle.table_check.proofs.Bumped.{left-start, left-more, left-held}
use Rattle.table_check.proofs.held.hold.Goals as goal

pub loop-n-init : goal.loop-n-init
loop-n-init c = left-start _ _ _

pub hold_chain-requires : goal.hold_chain-requires
hold_chain-requires c = let A = c.args.s.of in record { n_bound = omega (arith, c.loop-n-test.true) }

pub loop-n-preserved : goal.loop-n-preserved
loop-n-preserved c = left-more _ _ _ _ _ _ c.loop-n-test.true c.hold_chain.ensures c.loop-n.invariant

pub returns : goal.returns
returns c = let A = c.args.s.of in
    left-held _ _ _ _ _ A.nonterminals (omega arith) (omega arith) c.requires.held_value c.loop-n.invariant
