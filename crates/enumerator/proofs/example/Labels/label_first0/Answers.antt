use borrow.Author.Tests.{not-true}
use Rattle.enumerator.proofs.example.Asked.{label_other, label_cursor, label_first}
use Rattle.enumerator.proofs.example.Labels.label_first0.Goals as goal

pub returns-then-label-gt0 : goal.returns-then-label-gt0
returns-then-label-gt0 c = label_other _ _ _ _ _ c.requires c.if-label-gt0.true _ c.suffix.ensures _ c.first0.ensures

pub returns-then-not-own : goal.returns-then-not-own
returns-then-not-own c = label_cursor _ _ _ _ _ c.requires c.if-label-gt0.false _ c.cursor.ensures _ c.first0-own.ensures (not-true _ c.if-not-own.true)

pub returns : goal.returns
returns c = label_first _ _ _ _ _ c.requires c.if-label-gt0.false _ c.cursor.ensures _ c.first0-own.ensures _ c.suffix-2.ensures _ _ c.first0-after.ensures c.join.ensures
