use mathlib.Core.Path.{refl}
use native.Mathlib.Omega.{arith}
use Rattle.table.proofs.Accepted.{accepts}
use Rattle.table.proofs.Indexes.{item-asked, item-read}
use Rattle.table.proofs.accepted_table.AcceptedTable.item.Goals as goal

pub word-requires : goal.word-requires
word-requires c = item-asked _ c.args.self.accepted _ _ c.requires.some c.requires.on (omega arith)

pub word-requires-2 : goal.word-requires-2
word-requires-2 c = item-asked _ c.args.self.accepted _ _ c.requires.some c.requires.on (omega arith)

pub word-requires-3 : goal.word-requires-3
word-requires-3 c = item-asked _ c.args.self.accepted _ _ c.requires.some c.requires.on (omega arith)

pub returns : goal.returns
returns c = record { read = item-read _ (accepts _ c.args.self.accepted) _ _ _ _ c.requires.some c.requires.on c.word.ensures.0 c.word-2.ensures.0 c.word-3.ensures.0; at = refl }
