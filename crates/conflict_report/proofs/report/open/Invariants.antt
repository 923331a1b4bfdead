use Rattle.std.proofs.Common.{◌≡◌, take}
use Rattle.conflict_report.specs.Groups.{open_of}
use Rattle.conflict_report.proofs.report.open.Given as goal

abbrev pub invariant-loop-resolved : goal.invariant-loop-resolved
invariant-loop-resolved l = l.list.items ≡ open_of (take l.resolved-index l.conflicts)
