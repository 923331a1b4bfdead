use Rattle.std.proofs.Common.{◌≡◌}
use Rattle.yacc_reader.proofs.words_end.Given as goal

abbrev pub invariant-loop-token : goal.invariant-loop-token
invariant-loop-token l = (l.token-iterator.text.now ≡ l.text) × (l.end ≡ l.token-iterator.at)
