use Rattle.std.proofs.Common.{◌≡◌, map, All}
use Rattle.conflict_report.specs.declared.entry.Entry.{Entry}
use Rattle.conflict_report.specs.Entries.{IsWholeEntry}
use Rattle.conflict_report.proofs.report.entries_of.Given as goal

abbrev pub invariant-loop-group : goal.invariant-loop-group
invariant-loop-group l = record {
  groups : map (λ (e : Entry). e.group) l.entries.items ≡ l.yielded;
  whole : All IsWholeEntry l.entries.items;
}
