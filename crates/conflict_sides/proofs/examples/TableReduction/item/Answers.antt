use Rattle.conflict_sides.proofs.examples.Both.{end_fits, reduce_is}
use Rattle.conflict_sides.proofs.examples.Reduces.{item-made}
use native.Mathlib.Omega.{arith}
use Rattle.conflict_sides.proofs.examples.TableReduction.item.Goals as goal

pub length-requires : goal.length-requires
length-requires c =
    let h = c.args.self.within.1 in
    let m = c.args.self.given.reads.many in
    omega arith

pub invariant_of-result : goal.invariant_of-result
invariant_of-result c =
    let W = c.args.self.within in
    let h = W.1 in
    let m = c.args.self.given.reads.many in
    record { fits = end_fits _ _ _ _ _ _ _ c.args.self.given.reads c.args.self.state _ _ (item-made _ _ _ _ _ (omega arith) c.length.ensures.is) W.0 h }

pub returns-clause-side : goal.returns-clause-side
returns-clause-side c =
    let W = c.args.self.within in
    let h = W.1 in
    let m = c.args.self.given.reads.many in
    reduce_is _ _ _ _ _ _ _ c.args.self.given.reads c.args.self.state _ _ (item-made _ _ _ _ _ (omega arith) c.length.ensures.is) _ _ W.2 c.from.ensures.0
