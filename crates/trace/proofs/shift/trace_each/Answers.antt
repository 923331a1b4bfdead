use Rattle.std.proofs.lemmas.Result.{err_from_is_err_and}
use Rattle.std.proofs.Common.{length, refl, ap, ◌∙◌}
use Rattle.table.proofs.Decoding.{fits}
use Rattle.trace.proofs.edge_codes.Lent.{same_then}
use Rattle.trace.proofs.States.{Passed, rounds-start, rounds-done, rounds-inside, rounds-more, rounds-full, rounds-passed}
use Rattle.trace.proofs.shift.trace_each.Goals as goal

pub loop-state-init : goal.loop-state-init
loop-state-init g c = rw (c.into_iter-state-iterator.ensures.into_iter_gives, c.iter-state-items.ensures) (rounds-start _ _ _ _ _ _ _ c.requires.within.0 c.requires.entered, c.requires.two_tails, (refl, refl))

pub first_item-first-requires : goal.first_item-first-requires
first_item-first-requires g c = rounds-inside _ _ _ _ _ _ _ _ _ _ _ _ c.loop-state.invariant.0 c.in-Some.state.0 c.next.new.self.0 c.in-Some.ensures.steps

pub passes_over-requires : goal.passes_over-requires
passes_over-requires g c =
    let P : Passed _ _ _ c.in-Some-traced.known = rw c.in-Some-traced.is at c.loop-state.invariant.0.passed in
    record { room = c.loop-state.auto.entered ∙ ap length c.requires.entered; within = (P.state, rounds-inside _ _ _ _ _ _ _ _ _ _ _ _ c.loop-state.invariant.0 c.in-Some.state.0 c.next.new.self.0 c.in-Some.ensures.steps, c.requires.within.1); clear = (P.last, P.earlier) }

pub ahead-requires : goal.ahead-requires
ahead-requires g c = c.first_item-first.ensures.on

pub loop-state-preserved-then-passes_over : goal.loop-state-preserved-then-passes_over
loop-state-preserved-then-passes_over g c = (rounds-passed _ _ _ _ _ _ _ _ _ _ _ _ c.loop-state.invariant.0 c.in-Some.state.0 c.next.new.self.0 c.in-Some.ensures.steps (fits _ c.args.tracer.working.accepted) c.requires.within.1 _ c.in-Some-traced.is (c.passes_over.ensures.nonterminal_value c.if-passes_over.true) (c.passes_over.ensures.clear_2 c.if-passes_over.true) _ c.first_item-first.ensures.items _ c.ahead.ensures _ c.with.ensures, c.loop-state.invariant.1, c.loop-state.invariant.2)

pub list_tail-requires : goal.list_tail-requires
list_tail-requires g c = record { on = ((_, c.args.tracer.working), c.first_item-first.ensures.on); two_tails = c.loop-state.invariant.1 }

pub trace_epsilon-requires : goal.trace_epsilon-requires
trace_epsilon-requires g c = record { room = c.loop-state.auto.entered ∙ ap length c.requires.entered; within = (rounds-inside _ _ _ _ _ _ _ _ _ _ _ _ c.loop-state.invariant.0 c.in-Some.state.0 c.next.new.self.0 c.in-Some.ensures.steps, c.requires.within.1); usable = c.list_tail.ensures.usable }

pub returns-in_err-trace_epsilon : goal.returns-in_err-trace_epsilon
returns-in_err-trace_epsilon g c = let p = err_from_is_err_and c.from_residual.result c.from_residual.ensures.1 in rw p.1 (record { coded = tt; full = rounds-full _ _ _ _ _ _ _ _ _ _ _ _ c.loop-state.invariant.0 c.in-Some.state.0 c.next.new.self.0 c.in-Some.ensures.steps c.in_err-trace_epsilon.ensures.exceeds; same = same_then c.loop-state.invariant.2 c.trace_epsilon.ensures.same })

pub loop-state-preserved : goal.loop-state-preserved
loop-state-preserved g c = rw c.of.ensures (rounds-more _ _ _ _ _ _ _ _ _ _ _ _ c.loop-state.invariant.0 c.in-Some.state.0 c.next.new.self.0 c.in-Some.ensures.steps (fits _ c.args.tracer.working.accepted) _ _ _ c.in_ok-trace_epsilon.ensures.steps, c.list_tail.ensures, same_then c.loop-state.invariant.2 c.trace_epsilon.ensures.same)

pub returns : goal.returns
returns g c = record { coded = rounds-done _ _ _ _ _ _ _ _ _ _ _ _ c.loop-state.invariant.0 c.in-None.ensures.steps.0; full = tt; same = c.loop-state.invariant.2 }
