use Rattle.table.proofs.Written.{production_place-asked, first-symbol_is}
use native.Mathlib.Omega.{arith}
use Rattle.table.proofs.accepted_table.AcceptedTable.first_symbol.Goals as goal

pub word-requires : goal.word-requires
word-requires c = production_place-asked _ c.args.self.accepted _ _ _ c.production_record.ensures c.requires (omega arith)

pub returns : goal.returns
returns c = first-symbol_is _ c.args.self.accepted _ _ _ c.production_record.ensures c.requires c.word.ensures.0
