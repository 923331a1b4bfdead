use Rattle.first.proofs.Walk.{answer_is}
use Rattle.first.proofs.FirstSets.first0.Goals as goal

pub returns : goal.returns
returns c = answer_is _ _ _ _ _ _ c.end_marked-tokens.ensures c.take_eof-nullable.ensures.is c.take_eof-nullable.ensures.changed
