use Rattle.table_rewrite.proofs.spelling.Areas.{States}
use Rattle.table_rewrite.proofs.spelling.Spelling.write_states.Given as goal

abbrev pub invariant-loop-s : goal.invariant-loop-s
invariant-loop-s l = States l.self.table.words.now l.initial.out l.out l.s l.i l.d
