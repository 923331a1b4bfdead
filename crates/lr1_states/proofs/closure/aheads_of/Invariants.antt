use Rattle.std.proofs.Common.{◌+◌, ◌*◌, ◌++◌, take}
use Rattle.lr1_base.specs.repr.Sizes.{index_limit}
use Rattle.lr1_base.specs.repr.Meaning.{Table}
use Rattle.lr1_states.specs.closure.Grammar.{OfTable}
use Rattle.lr1_states.proofs.closure.Rest.{left, Turn}
use Rattle.lr1_states.proofs.closure.aheads_of.Given as goal

abbrev pub invariant-loop-changed : goal.invariant-loop-changed
invariant-loop-changed l = (T : Table) → OfTable T l.grammar.words.now l.grammar.productions l.sets.terminals l.sets.map → Turn T (take (index_limit * l.grammar.productions) l.kernel) l.aheads l.changed

abbrev pub decreases-loop-changed : goal.decreases-loop-changed
decreases-loop-changed l = left (index_limit * l.grammar.productions + 32) l.changed (take (index_limit * l.grammar.productions) l.kernel ++ l.aheads)
