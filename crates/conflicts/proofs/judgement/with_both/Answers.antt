use Rattle.conflicts.proofs.judgement.Ways.{both_is}
use Rattle.conflicts.proofs.judgement.with_both.Goals as goal

pub returns : goal.returns
returns c = both_is c.args.class c.args.x c.args.y
