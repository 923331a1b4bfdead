use mathlib.Core.Path.{◌≡◌}
use Rattle.table.proofs.Written.{Owning}
use Rattle.table.proofs.accepted_table.AcceptedTable.read_owner.Given as goal

abbrev pub invariant-loop-read : goal.invariant-loop-read
invariant-loop-read l = (l.read-iterator.table.words.now ≡ l.self.words.now) × Owning l.self.words.now l.initial.grammar l.grammar l.nonterminal l.read-iterator.at
