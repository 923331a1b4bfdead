use Rattle.std.proofs.Common.{◌≡◌}
use Rattle.yacc_syntax.specs.recognizer.Accepted.{mode_of}
use Rattle.yacc_reader.specs.symbol_table.Words.{SameRoom, SameWords}
use Rattle.yacc_reader.proofs.symbol_table.Laws.{Turn}
use Rattle.yacc_reader.proofs.symbol_table.Words.enter_text.Given as goal

abbrev pub invariant-loop-token : goal.invariant-loop-token
invariant-loop-token l = (l.token-iterator.text.now ≡ l.text) × SameRoom l.initial.self l.self × SameWords l.initial.self l.self × Turn l.text l.self.starts.now l.self.pasts.now l.self.ix.now l.self.lefts.now l.self.tokens.now l.ids (mode_of l.token-iterator.mode) l.token-iterator.at
