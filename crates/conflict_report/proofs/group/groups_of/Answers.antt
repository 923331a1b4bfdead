use Rattle.std.proofs.Common.{◌+◌, ◌++◌, [], take, arith, ap, sym, ◌∙◌}
use Rattle.std.specs.List.{flat_map}
use Rattle.std.proofs.lemmas.List.{flat_map_more, length-drop}
use Rattle.automaton.specs.declared.resolution.Resolved.{Resolved}
use Rattle.conflict_report.specs.Groups.{conflicts_at}
use Rattle.conflict_report.proofs.Runs.{take_run_of_slice}
use Rattle.conflict_report.proofs.group.groups_of.Goals as goal

pub loop-at-preserved : goal.loop-at-preserved
loop-at-preserved c =
    let xs = c.args.conflicts.now in
    let at = c.loop-at.at in
    record {
      within = omega (arith, length-drop {A = Resolved}, c.in_ok-group.ensures.within);
      front = ap (flat_map conflicts_at) c.in_ok-push.ensures.items
          ∙ sym (flat_map_more conflicts_at [] c.loop-at.groups.items c.in_ok-group.group)
          ∙ ap (λ l. l ++ conflicts_at c.in_ok-group.group) c.loop-at.invariant.front
          ∙ ap (λ l. take at xs ++ l) c.in_ok-group.ensures.front
          ∙ take_run_of_slice xs at _ _ c.loop-at-test.true
          ∙ ap (λ n. take (at + n) xs) (sym c.len-at.ensures);
    }
