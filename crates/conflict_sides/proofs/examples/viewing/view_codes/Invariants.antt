use Rattle.conflict_sides.proofs.examples.Views.{Making}
use Rattle.conflict_sides.proofs.examples.viewing.view_codes.Given as goal

abbrev pub invariant-loop-k : goal.invariant-loop-k
invariant-loop-k l = Making l.grammar l.words (record { production = l.item.production; index = l.item.index }) l.lists.owners l.lists.sources l.lists.older l.lists.latest l.k
