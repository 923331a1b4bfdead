use Rattle.std.proofs.Common.{◌≡◌}
use Rattle.std.specs.Option.{ForSome}
use Rattle.indexmap.specs.IndexSet.{index_set_len}
use Rattle.yacc_file.specs.Words.{NameFits}
use Rattle.yacc_file.proofs.parser.Parser.rules.Given as goal

abbrev pub invariant-loop-word : goal.invariant-loop-word
invariant-loop-word l = record {
  names : l.self.file.names ≡ l.fn.self.file.names;
  left : ForSome l.left (NameFits (index_set_len l.self.file.names));
}

abbrev pub decreases-loop-word : goal.decreases-loop-word
decreases-loop-word l = l.self.left
