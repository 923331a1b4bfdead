use native.Mathlib.Omega.{arith}
use Rattle.table.proofs.Indexes.{nonterminal-asked, first_production_is}
use Rattle.table.proofs.accepted_table.AcceptedTable.first_production.Goals as goal

pub overflow_add-nonterminal : goal.overflow_add-nonterminal
overflow_add-nonterminal c = omega (arith, (nonterminal-asked _ c.args.self.accepted _ 0 c.requires (omega arith)).0)

pub word-requires : goal.word-requires
word-requires c = nonterminal-asked _ c.args.self.accepted _ _ c.requires (omega arith)

pub returns : goal.returns
returns c = let r = first_production_is _ c.args.self.accepted _ _ c.requires c.word.ensures.0 in record { productions = r.0; on = r.1 }
