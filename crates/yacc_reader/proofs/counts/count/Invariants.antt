use Prim.Native.Nat.{◌-◌, ◌≤◌}
use mathlib.Core.Path.{◌≡◌}
use lib.ListN.{length}
use Rattle.yacc_syntax.specs.text.Places.{placed_from}
use Rattle.yacc_syntax.specs.recognizer.Accepted.{mode_of}
use Rattle.yacc_reader.specs.events.Said.{of_said}
use Rattle.yacc_reader.specs.counts.Counted.{no_counts, counts_in, Within}
use Rattle.yacc_reader.proofs.counts.Laws.{tally_all}
use Rattle.yacc_reader.proofs.counts.count.Given as goal

abbrev pub invariant-loop-lexeme : goal.invariant-loop-lexeme
invariant-loop-lexeme l = (l.at ≤ length l.text) × Within l.tally l.at × (of_said no_counts (tally_all l.tally) (mode_of l.mode) (placed_from l.text l.at) ≡ counts_in l.text)

abbrev pub decreases-loop-lexeme : goal.decreases-loop-lexeme
decreases-loop-lexeme l = length l.text - l.at
