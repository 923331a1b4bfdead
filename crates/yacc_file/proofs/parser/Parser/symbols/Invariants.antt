use Rattle.std.proofs.Common.{◌≡◌, ◌≤◌, All}
use Rattle.indexmap.specs.IndexSet.{index_set_len}
use Rattle.yacc_file.specs.Words.{NameFits}
use Rattle.yacc_file.proofs.parser.Parser.symbols.Given as goal

abbrev pub invariant-loop-word : goal.invariant-loop-word
invariant-loop-word l = record {
  left : l.self.left ≤ l.fn.self.left;
  file : l.self.file ≡ l.fn.self.file;
  fit : All (NameFits (index_set_len l.self.file.names)) l.symbols.items;
}

abbrev pub decreases-loop-word : goal.decreases-loop-word
decreases-loop-word l = l.self.left
