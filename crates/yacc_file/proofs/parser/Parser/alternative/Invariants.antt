use Rattle.std.proofs.Common.{◌≡◌, ◌≤◌, All}
use Rattle.std.specs.Option.{ForSome}
use Rattle.indexmap.specs.IndexSet.{index_set_len}
use Rattle.yacc_file.specs.Words.{NameFits}
use Rattle.yacc_file.specs.Syntax.{ItemFits}
use Rattle.yacc_file.proofs.parser.Parser.alternative.Given as goal

abbrev pub invariant-loop-word : goal.invariant-loop-word
invariant-loop-word l = record {
  left : l.self.left ≤ l.fn.self.left;
  file : l.self.file ≡ l.fn.self.file;
  items : All (ItemFits (index_set_len l.fn.self.file.names)) l.items.items;
  precedence : ForSome l.precedence (NameFits (index_set_len l.fn.self.file.names));
  pending : ForSome l.pending (NameFits (index_set_len l.fn.self.file.names));
}

abbrev pub decreases-loop-word : goal.decreases-loop-word
decreases-loop-word l = l.self.left
