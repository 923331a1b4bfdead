use Rattle.std.proofs.Common.{◌≡◌, map, ap, sym, subst, ◌∙◌, IsPermutation}
use Rattle.std.specs.List.{flat_map}
use Rattle.std.proofs.lemmas.Result.{IfOk-weaker}
use Rattle.std.proofs.lemmas.List.Folds.{flat_map-map}
use Rattle.conflict_report.specs.declared.entry.Entry.{Entry}
use Rattle.conflict_report.specs.declared.group.Group.{Group}
use Rattle.conflict_report.specs.Groups.{conflicts_at}
use Rattle.conflict_report.specs.Entries.{Shows}
use Rattle.conflict_report.proofs.report.told.Goals as goal

pub returns-clause-shows : goal.returns-clause-shows
returns-clause-shows c =
    let group_in : Entry → Group = λ e. e.group in
    let groups = c.in_ok-groups.groups.items in
    IfOk-weaker c.entries_of.result (λ v. map group_in v.items ≡ groups) (λ v. Shows c.args.conflicts.now v.items)
    (λ v is. subst (IsPermutation c.args.conflicts.now)
    (ap (flat_map conflicts_at) (sym is) ∙ flat_map-map conflicts_at group_in v.items) c.in_ok-groups.ensures)
    c.entries_of.ensures.groups
