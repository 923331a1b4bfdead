use Rattle.table.specs.Decoded.{meaning}
use Rattle.conflict_sides.specs.shift_items.Left.{items_wanted}
use Rattle.conflict_sides.specs.outline.Lent.{SameWords}
use Rattle.conflict_sides.proofs.examples.Shifts.{Turn}
use Rattle.conflict_sides.proofs.examples.shift_examples.Given as goal

abbrev pub invariant-loop-item : goal.invariant-loop-item
invariant-loop-item l = (Turn (meaning l.given.table.words.now) l.state l.case.conflict.token l.side.kept.now l.side.prints.now l.gathered.examples l.gathered.trials (items_wanted l.item-iterator.grammar.words.now l.item-iterator.marks.now l.item-iterator.token l.item-iterator.order.now l.item-iterator.grammar.productions l.item-iterator.at)) × SameWords l.initial.side l.side
