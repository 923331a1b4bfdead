use Rattle.table_rewrite.proofs.spelling.Areas.{Productions}
use Rattle.table_rewrite.proofs.spelling.Spelling.write_productions.Given as goal

abbrev pub invariant-loop-p : goal.invariant-loop-p
invariant-loop-p l = Productions l.self.table.words.now l.initial.out l.out l.p l.y
