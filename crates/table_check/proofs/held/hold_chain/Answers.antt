use Rattle.std.proofs.Common.{refl, arith}
use Rattle.table_check.proofs.Steps.{hold_begin, hold_here, hold_more, hold_end}
use Rattle.table_check.proofs.held.hold_chain.Goals as goal

pub chain-r-items-requires : goal.chain-r-items-requires
chain-r-items-requires c = let A = c.args.s.of in record {
  word = (omega (arith, c.requires.n_bound), omega arith);
  inside = omega (arith, c.productions.ensures.within, A.room);
}

pub loop-r-init : goal.loop-r-init
loop-r-init c =
    let p = c.productions.ensures in
    rw (c.into_iter-r-iterator.ensures.into_iter_gives, c.chain-r-items.ensures) (hold_begin _ _ c.args.s.of _ p.records p.within.0 p.within.1 _ _ _ refl refl _ (omega arith))

pub overflow_sub-p : goal.overflow_sub-p
overflow_sub-p c = (hold_here (rw c.in-Some.ensures.steps at c.loop-r.invariant)).0

pub bounds-held-p : goal.bounds-held-p
bounds-held-p c =
    let A = c.args.s.of in
    let h = hold_here (rw c.in-Some.ensures.steps at c.loop-r.invariant) in
    omega (arith, h, c.loop-r.invariant.long, A.loose_is, A.few_productions)

pub bounds-held-p-in-loop-r : goal.bounds-held-p-in-loop-r
bounds-held-p-in-loop-r c =
    let A = c.args.s.of in
    let h = hold_here (rw c.in-Some.ensures.steps at c.loop-r.invariant) in
    omega (arith, h, c.loop-r.invariant.long, A.loose_is, A.few_productions)

pub loop-r-preserved : goal.loop-r-preserved
loop-r-preserved c = hold_more _ (omega (arith, c.min.ensures)) (rw c.in-Some.ensures.steps at c.loop-r.invariant)

pub returns : goal.returns
returns c = hold_end (rw c.in-None.ensures.steps.0 at c.loop-r.invariant)
