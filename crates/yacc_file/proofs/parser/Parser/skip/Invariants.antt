use Rattle.std.proofs.Common.{◌≡◌, ◌≤◌}
use Rattle.yacc_file.proofs.parser.Parser.skip.Given as goal

abbrev pub invariant-loop-word : goal.invariant-loop-word
invariant-loop-word l = record {
  left : l.self.left ≤ l.fn.self.left;
  file : l.self.file ≡ l.fn.self.file;
}

abbrev pub decreases-loop-word : goal.decreases-loop-word
decreases-loop-word l = l.self.left
