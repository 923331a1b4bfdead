use Rattle.lihvemur_c.proofs.Numbered.{trace_handed}
use Rattle.lihvemur_c.proofs.lihvemur_backtrace_shift.Goals as goal

pub returns : goal.returns
returns c = trace_handed _ _ _ _ _ _ c.hand_out.ensures _ _ c.backtrace_shift-answer.ensures
