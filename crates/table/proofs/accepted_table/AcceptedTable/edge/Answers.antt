use native.Mathlib.Omega.{arith}
use Rattle.table.proofs.Accepted.{accepts}
use Rattle.table.proofs.Indexes.{edge_asked, edge_read_lem}
use Rattle.table.proofs.accepted_table.AcceptedTable.edge.Goals as goal

pub word-requires : goal.word-requires
word-requires c = edge_asked _ c.args.self.accepted _ _ c.requires.some c.requires.on (omega arith)

pub word-requires-2 : goal.word-requires-2
word-requires-2 c = edge_asked _ c.args.self.accepted _ _ c.requires.some c.requires.on (omega arith)

pub word-requires-3 : goal.word-requires-3
word-requires-3 c = edge_asked _ c.args.self.accepted _ _ c.requires.some c.requires.on (omega arith)

pub word-requires-4 : goal.word-requires-4
word-requires-4 c = edge_asked _ c.args.self.accepted _ _ c.requires.some c.requires.on (omega arith)

pub returns : goal.returns
returns c = edge_read_lem _ (accepts _ c.args.self.accepted) _ _ _ _ _ c.requires.some c.requires.on c.word.ensures.0 c.word-2.ensures.0 c.word-3.ensures.0 c.word-4.ensures.0
