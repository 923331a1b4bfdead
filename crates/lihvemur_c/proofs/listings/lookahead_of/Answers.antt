use Rattle.std.proofs.Common.{◌∙◌}
use Rattle.lihvemur_c.proofs.Listed.{ahead_is}
use Rattle.lihvemur_c.proofs.listings.lookahead_of.Goals as goal

pub returns : goal.returns
returns c = c.then_some.ensures ∙ ahead_is _ _
