use Rattle.std.proofs.Common.{◌≡◌, ◌+◌, ◌∷◌, take, vec_len}
use Rattle.conflict_report.specs.Groups.{conflicts_at}
use Rattle.conflict_report.proofs.group.group_of.Given as goal

abbrev pub invariant-loop-resolved : goal.invariant-loop-resolved
invariant-loop-resolved l = record {
  count : vec_len l.spots ≡ l.resolved-index + 1;
  front : conflicts_at (record {
    production = l.first.conflict.production;
    other = l.first.conflict.other;
    resolution = l.first.resolution;
    spots = l.spots;
  })
      ≡ take (l.resolved-index + 1) (l.first ∷ l.behind);
}
