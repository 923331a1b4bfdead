use Rattle.lr1_base.proofs.lookahead.Words.{disjoint}
use Rattle.lr1_base.proofs.lookahead.TokenSet.is_disjoint.Goals as goal

pub returns : goal.returns
returns c = disjoint c.args.self.0 c.args.other.0
