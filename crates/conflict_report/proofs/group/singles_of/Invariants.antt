use Rattle.std.proofs.Common.{◌≡◌, take}
use Rattle.std.specs.List.{flat_map}
use Rattle.conflict_report.specs.Groups.{conflicts_at}
use Rattle.conflict_report.proofs.group.singles_of.Given as goal

abbrev pub invariant-loop-resolved : goal.invariant-loop-resolved
invariant-loop-resolved l = flat_map conflicts_at l.groups.items ≡ take l.resolved-index l.conflicts
