use Rattle.lr1_tables.specs.state_conflicts.Clashed.{pairs_in}
use Rattle.lr1_base.proofs.words.Put.{Turn}
use Rattle.lr1_states.specs.canonical.Built.{clash_words}
use Rattle.lr1_base.specs.repr.Lists.{up_from, joined}
use Rattle.std.specs.Prelude.{◌+◌, ◌-◌}
use Rattle.lr1_tables.proofs.conflict_words.write_pairs.Given as goal

abbrev pub invariant-loop-other : goal.invariant-loop-other
invariant-loop-other l = Turn l.at (joined (clash_words l.state) (pairs_in l.actions.reductions l.production (up_from (l.production + 1) (l.actions.productions - (l.production + 1))))) l.initial.list l.place (joined (clash_words l.state) (pairs_in l.actions.reductions l.production (up_from l.other (l.actions.productions - l.other)))) l.list
