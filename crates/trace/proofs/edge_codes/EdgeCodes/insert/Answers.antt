use Rattle.std.proofs.Common.{◌∙◌}
use Rattle.trace.proofs.edge_codes.Answered.{on_ok, on_err}
use Rattle.trace.proofs.edge_codes.KindLaws.{word_is, key_is}
use Rattle.trace.proofs.edge_codes.EdgeCodes.insert.Goals as goal

pub returns : goal.returns
returns c = record {
  coded = on_ok c.insert_code.result c.insert_code.ensures.coded (λ r T F L h es e C t I. r T F es e C t (c.word.ensures.0 ∙ word_is c.args.edge e I) (c.key.ensures.1 T.productions L h ∙ key_is c.args.edge e I T F t));
  full = on_err c.insert_code.result c.insert_code.ensures.full (λ r T F L h es e C t I. r T F es e C t (c.word.ensures.0 ∙ word_is c.args.edge e I) (c.key.ensures.1 T.productions L h ∙ key_is c.args.edge e I T F t));
  same = c.insert_code.ensures.same;
}
