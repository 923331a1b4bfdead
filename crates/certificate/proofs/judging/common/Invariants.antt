use Rattle.std.proofs.Common.{◌≡◌, take}
use Rattle.certificate.proofs.judging.common.Given as goal

abbrev pub invariant-loop-i : goal.invariant-loop-i
invariant-loop-i l = take l.i l.first ≡ take l.i l.second
