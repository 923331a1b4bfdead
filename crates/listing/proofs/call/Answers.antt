use Rattle.listing.proofs.Turns.{made_is}
use Rattle.listing.proofs.call.Goals as goal

pub returns : goal.returns
returns c = made_is c.args.table.now c.args.graph.now c.args.listing.now c.args.scratch.now _ _ _ _ c.args.part.now c.requires c.min-n.ensures c.min-m.ensures _ _ _ _ c.advance-answer.ensures _ c.answer_number.ensures _ c.write_record.ensures
