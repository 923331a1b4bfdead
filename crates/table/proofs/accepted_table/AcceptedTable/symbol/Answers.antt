use Rattle.table.proofs.Written.{symbol-asked, symbol-read}
use native.Mathlib.Omega.{arith}
use Rattle.table.proofs.accepted_table.AcceptedTable.symbol.Goals as goal

pub word-requires : goal.word-requires
word-requires c = symbol-asked _ c.args.self.accepted _ _ c.requires.0 c.requires.1 (omega arith)

pub word-requires-2 : goal.word-requires-2
word-requires-2 c = symbol-asked _ c.args.self.accepted _ _ c.requires.0 c.requires.1 (omega arith)

pub word-requires-3 : goal.word-requires-3
word-requires-3 c = symbol-asked _ c.args.self.accepted _ _ c.requires.0 c.requires.1 (omega arith)

pub returns : goal.returns
returns c = symbol-read _ c.args.self.accepted _ _ _ _ c.requires.0 c.requires.1 c.word.ensures.0 c.word-2.ensures.0 c.word-3.ensures.0
