use Rattle.std.proofs.Common.{ap, ◌∙◌, arith, add-one}
use Rattle.conflicts.specs.class_words.Entries.{entries_in}
use Rattle.conflicts.proofs.class_words.Laws.{entry_written, entries-more}
use Rattle.conflicts.proofs.class_words.EntryList.push.Goals as goal

pub returns-clause-words : goal.returns-clause-words
returns-clause-words c = entry_written _ _ _ _ _ _ c.number_class.ensures c.write_words.ensures

pub returns-clause-entries : goal.returns-clause-entries
returns-clause-entries c = ap (entries_in _) (add-one c.args.self.now.count) ∙ entries-more _ _ _ _ _ (omega arith) (omega (arith, c.requires)) (entry_written _ _ _ _ _ _ c.number_class.ensures c.write_words.ensures)
