use Rattle.std.proofs.Common.{◌++◌, ◌∷◌, [], map, ap, sym, subst, ◌∙◌, All}
use Rattle.std.proofs.lemmas.List.{map-append}
use Rattle.std.proofs.lemmas.List.Elements.{All-push}
use Rattle.conflict_report.specs.declared.entry.Entry.{Entry}
use Rattle.conflict_report.specs.declared.group.Group.{Group}
use Rattle.conflict_report.specs.Entries.{IsWholeEntry}
use Rattle.conflict_report.proofs.report.entries_of.Goals as goal

pub loop-group-preserved : goal.loop-group-preserved
loop-group-preserved c =
    let entries = c.loop-group.entries.items in
    let entry = c.in_ok-entry_of.field-0 in
    let pushed = c.in_ok-push.ensures.items in
    let group_in : Entry → Group = λ e. e.group in
    record {
      groups = ap (map group_in) pushed ∙ map-append group_in entries (entry ∷ [])
          ∙ ap (λ l. l ++ entry.group ∷ []) c.loop-group.invariant.groups
          ∙ ap (λ g. c.loop-group.yielded ++ g ∷ []) c.in_ok-entry_of.ensures.group;
      whole = subst (All IsWholeEntry) (sym pushed)
          (All-push IsWholeEntry entries entry c.loop-group.invariant.whole c.in_ok-entry_of.ensures.whole);
    }
