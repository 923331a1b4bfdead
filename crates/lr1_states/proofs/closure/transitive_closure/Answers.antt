use Rattle.std.proofs.Common.{◌∙◌}
use Rattle.lr1_states.proofs.closure.Rest.{spread_long, spread-closed}
use Rattle.lr1_states.proofs.closure.transitive_closure.Goals as goal

pub returns : goal.returns
returns c = (spread_long _ _ _ _ _ c.spread.ensures c.requires.flat.long, λ T G. c.spread.ensures ∙ spread-closed T _ _ _ _ G _ _ c.requires.flat (c.aheads_of-aheads.ensures T G))
