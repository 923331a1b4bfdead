use Rattle.std.proofs.Common.{sym, ◌∙◌, arith, List}
use Rattle.std.proofs.lemmas.List.{at_drop_all}
use Rattle.automaton.specs.declared.automaton.Transition.{Transition}
use Rattle.automaton.specs.Targets.{target_in}
use Rattle.automaton.proofs.Scans.{target_found, target_next}
use Rattle.automaton.proofs.automaton.target.Goals as goal

pub returns-then-is_same : goal.returns-then-is_same
returns-then-is_same c =
    sym (target_found c.args.transitions.now c.loop-transition.transition-index _ c.args.symbol (omega arith) (sym c.if-is_same.ensures)) ∙ c.loop-transition.invariant

pub loop-transition-preserved : goal.loop-transition-preserved
loop-transition-preserved c =
    sym (target_next c.args.transitions.now c.loop-transition.transition-index _ c.args.symbol (omega arith) (sym c.if-is_same.ensures)) ∙ c.loop-transition.invariant

pub returns : goal.returns
returns c =
    let ts = c.args.transitions.now in
    sym (at_drop_all (λ (l : List Transition). target_in l c.args.symbol) ts c.loop-transition.transition-index (omega arith)) ∙ c.loop-transition.invariant
