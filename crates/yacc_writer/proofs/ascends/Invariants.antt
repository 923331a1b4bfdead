use mathlib.Core.Path.{◌≡◌}
use lib.ListN.{length}
use Rattle.table.specs.Decoded.{meaning}
use Rattle.yacc_writer.proofs.Turns.{Ascends}
use Rattle.yacc_writer.proofs.ascends.Given as goal

abbrev pub invariant-loop-n : goal.invariant-loop-n
invariant-loop-n l = Ascends (meaning l.table.words.now).nonterminals l.least l.n × (l.nonterminals ≡ length (meaning l.table.words.now).nonterminals)
