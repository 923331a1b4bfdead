use Rattle.lr1_base.proofs.lookahead.Words.{met}
use Rattle.lr1_base.proofs.lookahead.TokenSet.intersection.Goals as goal

pub returns : goal.returns
returns c = met c.args.self.0 c.args.set.0
