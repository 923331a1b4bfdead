use Rattle.lihvemur_c.proofs.Numbered.{walk-states, walk_refused}
use Rattle.lihvemur_c.proofs.lihvemur_trace_back_joined.Goals as goal

pub returns-in-Some : goal.returns-in-Some
returns-in-Some c = walk-states _ _ _ _ _ c.told-number.ensures _ c.trace_back_joined.ensures _ c.in-Some.is

pub returns-in_default : goal.returns-in_default
returns-in_default c = walk_refused _ _ _ _ _ c.told-number.ensures _ c.trace_back_joined.ensures c.in_default.is
