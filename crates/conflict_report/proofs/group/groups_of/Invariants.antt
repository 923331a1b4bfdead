use Rattle.std.proofs.Common.{◌≡◌, ◌-◌, ◌≤◌, length, take}
use Rattle.std.specs.List.{flat_map}
use Rattle.conflict_report.specs.Groups.{conflicts_at}
use Rattle.conflict_report.proofs.group.groups_of.Given as goal

abbrev pub invariant-loop-at : goal.invariant-loop-at
invariant-loop-at l = record {
  within : l.at ≤ length l.conflicts;
  front : flat_map conflicts_at l.groups.items ≡ take l.at l.conflicts;
}

abbrev pub decreases-loop-at : goal.decreases-loop-at
decreases-loop-at l = length l.conflicts - l.at
