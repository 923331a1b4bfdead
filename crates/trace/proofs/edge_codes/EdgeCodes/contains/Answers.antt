use Rattle.std.proofs.Common.{sym, ◌∙◌}
use Rattle.trace.proofs.edge_codes.Coding.{there}
use Rattle.trace.proofs.edge_codes.KindLaws.{word_is, key_is}
use Rattle.trace.proofs.edge_codes.EdgeCodes.contains.Goals as goal

pub returns : goal.returns
returns c = λ T fits L h ws es e C t I. c.has.ensures ∙ sym (there T fits _ _ es e C t _ c.key.result (word_is c.args.edge e I) (c.key.ensures.1 T.productions L h ∙ key_is c.args.edge e I T fits t) c.key.ensures.0)
