use Rattle.std.proofs.Common.{◌≡◌}
use Rattle.lr1_base.specs.repr.Lists.{below}
use Rattle.lr1_base.specs.repr.Meaning.{Table}
use Rattle.lr1_states.specs.closure.Grammar.{OfTable}
use Rattle.lr1_states.specs.closure.Fed.{fed_by_firsts}
use Rattle.lr1_states.proofs.closure.feed_firsts.Given as goal

abbrev pub invariant-loop-production : goal.invariant-loop-production
invariant-loop-production l = (T : Table) → OfTable T l.grammar.words.now l.grammar.productions l.sets.terminals l.sets.map → l.aheads ≡ fed_by_firsts T l.initial.aheads (below l.production)
