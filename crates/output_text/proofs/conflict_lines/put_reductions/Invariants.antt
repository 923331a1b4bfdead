use Rattle.output_text.proofs.conflict_lines.Texts.{Parts, reduction_of}
use Rattle.output_text.proofs.conflict_lines.put_reductions.Given as goal

abbrev pub invariant-loop-start : goal.invariant-loop-start
invariant-loop-start l = Parts reduction_of 63 l.initial.out l.at l.reductions l.out l.place l.start-index
