use Rattle.std.proofs.Common.{◌≡◌}
use Rattle.lr1_base.specs.repr.Lists.{below}
use Rattle.lr1_states.specs.closure.Fed.{spread_in}
use Rattle.lr1_states.proofs.closure.spread.Given as goal

abbrev pub invariant-loop-production : goal.invariant-loop-production
invariant-loop-production l = l.state ≡ spread_in l.grammar.words.now l.aheads l.initial.state (below l.production)
