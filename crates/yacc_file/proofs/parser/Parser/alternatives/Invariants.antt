use Rattle.std.proofs.Common.{◌≡◌, ◌≤◌, All}
use Rattle.indexmap.specs.IndexSet.{index_set_len}
use Rattle.yacc_file.specs.Syntax.{AlternativeFits}
use Rattle.yacc_file.proofs.parser.Parser.alternatives.Given as goal

abbrev pub invariant-loop-bar : goal.invariant-loop-bar
invariant-loop-bar l = record {
  left : l.self.left ≤ l.fn.self.left;
  file : l.self.file ≡ l.fn.self.file;
  alternatives : All (AlternativeFits (index_set_len l.fn.self.file.names)) l.alternatives.items;
}

abbrev pub decreases-loop-bar : goal.decreases-loop-bar
decreases-loop-bar l = l.self.left
