use Rattle.std.proofs.Common.{◌≡◌, take}
use Rattle.conflict_report.specs.Groups.{settled_of}
use Rattle.conflict_report.proofs.report.settled.Given as goal

abbrev pub invariant-loop-resolved : goal.invariant-loop-resolved
invariant-loop-resolved l = l.list.items ≡ settled_of (take l.resolved-index l.conflicts)
