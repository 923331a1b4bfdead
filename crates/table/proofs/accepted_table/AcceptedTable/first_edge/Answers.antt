use native.Mathlib.Omega.{arith}
use Rattle.table.proofs.Indexes.{state_asked, first_edge_is}
use Rattle.table.proofs.accepted_table.AcceptedTable.first_edge.Goals as goal

pub word-requires : goal.word-requires
word-requires c = state_asked _ c.args.self.accepted _ _ _ c.state_record.ensures c.requires (omega arith)

pub returns : goal.returns
returns c = let r = first_edge_is _ c.args.self.accepted _ _ _ c.state_record.ensures c.requires c.word.ensures.0 in record { edges = r.0; on = r.1 }
