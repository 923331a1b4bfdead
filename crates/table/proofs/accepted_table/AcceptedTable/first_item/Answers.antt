use native.Mathlib.Omega.{arith}
use Rattle.table.proofs.Indexes.{state_asked, first_item_is}
use Rattle.table.proofs.accepted_table.AcceptedTable.first_item.Goals as goal

pub word-requires : goal.word-requires
word-requires c = state_asked _ c.args.self.accepted _ _ _ c.state_record.ensures c.requires (omega arith)

pub returns : goal.returns
returns c = let r = first_item_is _ c.args.self.accepted _ _ _ c.state_record.ensures c.requires c.word.ensures.0 in record { items = r.0; on = r.1 }
