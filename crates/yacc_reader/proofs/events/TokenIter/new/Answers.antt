use Rattle.std.proofs.Common.{arith, ◌∙◌}
use Rattle.yacc_syntax.proofs.recognizer.Laws.{judged-whole}
use Rattle.yacc_reader.proofs.events.TokenIter.new.Goals as goal

pub invariant_of-result : goal.invariant_of-result
invariant_of-result c = record { inside = omega arith; accepted = judged-whole c.args.text.now ∙ c.requires }
