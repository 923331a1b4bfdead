use Rattle.std.proofs.Common.{◌≡◌, ◌-◌, ◌<◌, length}
use Rattle.indexmap.specs.IndexSet.{index_set_len}
use Rattle.yacc_file.specs.Words.{AreInOrder}
use Rattle.yacc_file.proofs.word.read_words.Given as goal

abbrev pub invariant-loop-token : goal.invariant-loop-token
invariant-loop-token l = record {
  text : l.lexer.text.now ≡ l.text;
  names : 0 < index_set_len l.words.names;
  order : AreInOrder 0 l.lexer.at l.words.words.items;
}

abbrev pub decreases-loop-token : goal.decreases-loop-token
decreases-loop-token l = length l.lexer.text.now - l.lexer.at
