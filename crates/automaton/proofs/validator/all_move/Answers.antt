use Rattle.std.proofs.Common.{◌≤◌, refl, arith, length}
use Rattle.std.proofs.lemmas.List.{take_all}
use Rattle.std.proofs.lemmas.List.Elements.{All-more}
use Rattle.automaton.specs.States.{MovesEntry}
use Rattle.automaton.proofs.validator.all_move.Goals as goal

pub loop-entry-preserved : goal.loop-entry-preserved
loop-entry-preserved c =
    All-more (MovesEntry c.args.grammar.now c.args.automaton.now c.args.state c.args.table.now) c.args.entries.now c.loop-entry.entry-index _ (omega arith)
    c.loop-entry.invariant (c.if-not-moves.ensures refl)

pub returns : goal.returns
returns c good = let enough : length c.args.entries.now ≤ c.loop-entry.entry-index = omega arith in rw take_all at c.loop-entry.invariant
