use Rattle.std.proofs.Common.{refl, inl, inr, arith, below_more}
use Rattle.std.proofs.lemmas.Bool.{cases_lt}
use Rattle.automaton.specs.Clashes.{ListsState}
use Rattle.automaton.specs.States.{EachMoves}
use Rattle.automaton.proofs.Walks.{each_item}
use Rattle.automaton.proofs.Clashed.{state_kept, state_past}
use Rattle.automaton.proofs.Missed.{nothing_missed}
use Rattle.automaton.proofs.validator.validated_clashes.Goals as goal

pub loop-state-preserved : goal.loop-state-preserved
loop-state-preserved c =
    let inv = c.loop-state.invariant in
    let g = c.args.grammar.now in
    let a = c.args.automaton.now in
    let v = c.in_ok-good.ensures in
    record {
      moves = below_more (EachMoves g a) c.loop-state.state inv.moves (v.moves c.if-not-good.false);
      lists = below_more (ListsState g a c.visit.new.clashes.items) c.loop-state.state (λ s l. state_kept v.keeps g a s (inv.lists s l)) (v.lists c.if-not-good.false);
    }

pub returns : goal.returns
returns c =
    let g = c.args.grammar.now in
    let a = c.args.automaton.now in
    let inv = c.loop-state.invariant in
    record {
      nothing_missed = nothing_missed g a c.loop-state.clashes.items (each_item g a (c.if-not-starts.ensures refl) (λ s l. inv.moves s (omega arith)))
          (λ s. elim (cases_lt s c.loop-state.state) [ inl l ↦ inv.lists s l | inr past ↦ state_past g a c.loop-state.clashes.items s (λ l. omega arith) ]);
    }
