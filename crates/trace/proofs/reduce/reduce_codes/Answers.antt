use Rattle.std.proofs.Common.{rules, refl, ap}
use Rattle.trace.proofs.edge_codes.Answered.{on_ok, on_err}
use Rattle.trace.proofs.edge_codes.Lent.{coded_lent}
use Rattle.table.specs.Decoded.{meaning}
use Rattle.trace.proofs.Begin.{held_none}
use Rattle.trace.proofs.Whole.{begun, reduce_coded, reduce_exceeds}
use Rattle.trace.proofs.reduce.reduce_codes.Goals as goal

pub reduce_item-requires : goal.reduce_item-requires
reduce_item-requires c = record { room = refl; table = ap meaning c.new-walk.ensures; within = c.requires.within }

pub returns : goal.returns
returns c = let T = meaning c.args.over.tracer.table.words.now in
    let R = begun T _ _ _ _ (held_none T _ _ _ (c.clear.ensures.none T) refl) c.new-stamps.ensures in record { coded = on_ok c.reduce_item.result c.reduce_item.ensures.reduces (λ r. (_, coded_lent (search rules) (reduce_coded T _ _ _ _ _ _ R _ _ _ _ r))); full = on_err c.reduce_item.result c.reduce_item.ensures.reduce_exceeds (λ r. reduce_exceeds T _ _ _ _ _ _ R r) }
