use Rattle.std.proofs.Common.{refl}
use Rattle.automaton.proofs.Walks.{each_moves_of}
use Rattle.automaton.proofs.validator.visit.Goals as goal

pub list_clashes-requires-clause-covers : goal.list_clashes-requires-clause-covers
list_clashes-requires-clause-covers c = rw (c.as_slice-2.ensures.value, ← c.kernel.ensures) c.in_ok-entries.ensures.covers

pub returns-clause-moves : goal.returns-clause-moves
returns-clause-moves c good =
    each_moves_of c.args.grammar.now c.args.automaton.now c.args.state c.close.new.table c.in_ok-entries.entries.items
    (rw c.kernel.ensures at c.in_ok-entries.ensures.covers) (rw c.as_slice.ensures.value at (c.if-not-all_move.ensures refl))
