use Rattle.lr1_tables.specs.state_conflicts.Clashed.{clashes_in}
use Rattle.lr1_base.proofs.words.Put.{Turn}
use Rattle.lr1_states.specs.canonical.Built.{clash_words}
use Rattle.lr1_base.specs.repr.Lists.{up_from, below, joined}
use Rattle.std.specs.Prelude.{◌-◌}
use Rattle.lr1_tables.proofs.conflict_words.write_actions.Given as goal

abbrev pub invariant-loop-production : goal.invariant-loop-production
invariant-loop-production l = Turn l.at (joined (clash_words l.state) (joined (clashes_in l.actions.reductions l.actions.shifts.0 l.actions.productions) (below l.actions.productions))) l.initial.list l.place (joined (clash_words l.state) (joined (clashes_in l.actions.reductions l.actions.shifts.0 l.actions.productions) (up_from l.production (l.actions.productions - l.production)))) l.list
