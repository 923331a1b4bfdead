use Rattle.std.proofs.Common.{◌≡◌, ◌≤◌}
use Rattle.yacc_file.proofs.parser.Parser.declarations.Given as goal

abbrev pub invariant-loop-word : goal.invariant-loop-word
invariant-loop-word l = record {
  left : l.self.left ≤ l.fn.self.left;
  names : l.self.file.names ≡ l.fn.self.file.names;
}

abbrev pub decreases-loop-word : goal.decreases-loop-word
decreases-loop-word l = l.self.left
