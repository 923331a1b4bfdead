use Rattle.table_rewrite.proofs.spelling.Areas.{Nonterminals}
use Rattle.table_rewrite.proofs.spelling.Spelling.write_nonterminals.Given as goal

abbrev pub invariant-loop-n : goal.invariant-loop-n
invariant-loop-n l = Nonterminals l.self.table.words.now l.initial.out l.out l.n
