use Rattle.std.proofs.Common.{◌≡◌}
use Rattle.lr1_base.specs.repr.Lists.{below}
use Rattle.lr1_base.specs.repr.Meaning.{Table}
use Rattle.lr1_states.specs.closure.Grammar.{OfTable}
use Rattle.lr1_states.specs.closure.Fed.{fed_by_items}
use Rattle.lr1_states.proofs.closure.feed_items.Given as goal

abbrev pub invariant-loop-place : goal.invariant-loop-place
invariant-loop-place l = (T : Table) → OfTable T l.grammar.words.now l.grammar.productions l.sets.terminals l.sets.map → l.aheads ≡ fed_by_items T l.kernel l.initial.aheads (below l.place)
