use Rattle.std.proofs.lemmas.Result.{err_from_is_err_and}
use Rattle.std.proofs.Common.{◌<◌, sym, refl, ap, ◌∙◌, le_refl, arith}
use Rattle.lr1_base.proofs.repr.Lists.{mem-cons_here, mem-cons_there}
use Rattle.table.specs.Decoded.{meaning, items_from}
use Rattle.table.proofs.Decoding.{fits}
use Rattle.state_graph.specs.declared.StateSet.{StateSet}
use Rattle.state_graph.specs.declared.StateSetIter.{StateSetIter}
use Rattle.state_graph.specs.States.{states_in}
use Rattle.trace.proofs.Fuel.{owner_lt}
use Rattle.trace.proofs.Steps.{from_state_adds, on_item_adds}
use Rattle.trace.proofs.edge_codes.Keys.{label_small}
use Rattle.trace.proofs.edge_codes.Lent.{same_then}
use Rattle.trace.proofs.Turns.{pair_small, items_none, work_many, work_owner, work_shift}
use Rattle.trace.proofs.Passing.{edge_small}
use Rattle.trace.proofs.Begin.{found_in_lem}
use Rattle.trace.proofs.ReduceSteps.{left-start, left-done, left-next, left_over, item-full, item-goes, item-stops, stamp_goes, skip_goes, edge_stops, off_goes, known_goes, on_goes, on_stops, state_known, state_fewer, state_goes, state_stops}
use Rattle.trace.proofs.reduce.+trace_item_trace_from_state.Goals.{trace_from_state-then-not-on-via-then-not-on, trace_from_state-then-not-on-via-else-not-on+then-at-state}
use Rattle.trace.proofs.reduce.+trace_item_trace_from_state.Goals as goal

pub trace_item-to_item-requires : goal.trace_item-to_item-requires
trace_item-to_item-requires t c = edge_small c.args.over.now.tracer.working _ c.requires.within.1

pub trace_item-returns-in_err-to_item : goal.trace_item-returns-in_err-to_item
trace_item-returns-in_err-to_item t c = let p = err_from_is_err_and c.from_residual.result c.from_residual.ensures.1 in rw p.1 (record { reduces = tt; reduce_exceeds = item-full (meaning c.args.over.now.tracer.table.words.now) c.args.state (record { production = c.args.item.production; index = c.args.item.index }) c.args.edges.now.words.now c.args.edges.now.flags.now c.args.entered.now c.args.stamps.now.words (c.in_err-to_item.ensures.full _ (fits c.args.over.now.tracer.table.words.now c.args.over.now.tracer.working.accepted) c.args.over.now.tracer.working.least c.requires.within.1); same = c.to_item.ensures.same; entered_bound = (le_refl _, refl) })

pub trace_item-owner-owner-requires : goal.trace_item-owner-owner-requires
trace_item-owner-owner-requires t c = let n = work_many _ _ _ _ c.args.over.now.tracer.working in omega (arith, c.requires.within.1.production)

pub trace_item-begins-states-requires : goal.trace_item-begins-states-requires
trace_item-begins-states-requires t c = record { table = c.requires.table; within = c.requires.within }

pub trace_item-loop-from-init : goal.trace_item-loop-from-init
trace_item-loop-from-init t c = rw (c.into_iter-from-iterator.ensures.into_iter_gives, c.iter-from-items.ensures) (found_in_lem c.args.over.now.tracer.working c.requires.within.0 c.requires.within.1 _ c.begins-states.ensures.found, left-start (meaning c.args.over.now.tracer.table.words.now) _ _ _ _ _ _ _ refl, refl, (refl, refl))

pub trace_item-trace_from_state-requires : goal.trace_item-trace_from_state-requires
trace_item-trace_from_state-requires t c = let n = work_many _ _ _ _ c.args.over.now.tracer.working in let pi : c.args.item.production < c.args.over.now.tracer.grammar.productions = omega (arith, c.requires.within.1.production) in (omega (arith, c.loop-from.invariant.1.fewer), (omega (arith, c.requires.room), (ap meaning (c.loop-from.invariant.2 ∙ c.begins-states.ensures.table_after) ∙ c.requires.table, (c.loop-from.invariant.0 c.in-Some.from.0 (rw c.in-Some.ensures.steps (mem-cons_here c.in-Some.from.0 _)), rw (c.owner-owner.ensures ∙ work_owner _ _ _ _ c.args.over.now.tracer.working c.args.item.production c.args.item.index pi) (owner_lt (meaning c.args.over.now.tracer.table.words.now) (fits c.args.over.now.tracer.table.words.now c.args.over.now.tracer.working.accepted) (record { production = c.args.item.production; index = c.args.item.index }))))))

pub trace_item-returns-in_err-trace_from_state : goal.trace_item-returns-in_err-trace_from_state
trace_item-returns-in_err-trace_from_state t c = let n = work_many _ _ _ _ c.args.over.now.tracer.working in let pi : c.args.item.production < c.args.over.now.tracer.grammar.productions = omega (arith, c.requires.within.1.production) in let p = err_from_is_err_and c.from_residual-in_err-trace_from_state.result c.from_residual-in_err-trace_from_state.ensures.1 in rw p.1 (record { reduces = tt; reduce_exceeds = item-stops (meaning c.args.over.now.tracer.table.words.now) c.args.state (record { production = c.args.item.production; index = c.args.item.index }) c.args.edges.now.words.now c.args.edges.now.flags.now c.args.entered.now c.args.stamps.now.words _ _ (c.in_ok-to_item.ensures.coded _ (fits c.args.over.now.tracer.table.words.now c.args.over.now.tracer.working.accepted) c.args.over.now.tracer.working.least c.requires.within.1) _ (c.owner-owner.ensures ∙ work_owner _ _ _ _ c.args.over.now.tracer.working c.args.item.production c.args.item.index pi) _ (ap (λ (s : StateSet). states_in s.low s.high) (ap (λ (i : StateSetIter). i.0) c.into_iter-from-iterator.ensures.into_iter_gives ∙ c.iter-from-items.ensures) ∙ c.begins-states.ensures.found) (left_over (meaning c.args.over.now.tracer.table.words.now) _ _ _ _ _ _ _ _ _ _ _ c.loop-from.invariant.1 _ _ c.in-Some.ensures.steps (from_state_adds (meaning c.args.over.now.tracer.table.words.now) _) c.in_err-trace_from_state.ensures.reduce_exceeds); same = same_then (same_then c.to_item.ensures.same c.loop-from.invariant.3) c.trace_from_state.ensures.same; entered_bound = (omega (arith, c.trace_from_state.ensures.entered_bound.0, c.loop-from.invariant.1.fewer), c.trace_from_state.ensures.entered_bound.1 ∙ c.loop-from.invariant.2 ∙ c.begins-states.ensures.table_after) })

pub trace_item-loop-from-preserved : goal.trace_item-loop-from-preserved
trace_item-loop-from-preserved t c = (λ k hk. c.loop-from.invariant.0 k (rw c.in-Some.ensures.steps (mem-cons_there k c.in-Some.from.0 _ hk)), left-next (meaning c.args.over.now.tracer.table.words.now) _ _ _ _ _ _ _ _ _ _ _ c.loop-from.invariant.1 _ _ c.in-Some.ensures.steps _ _ _ _ c.in_ok-trace_from_state.ensures.reduces c.trace_from_state.ensures.entered_bound.0, c.trace_from_state.ensures.entered_bound.1 ∙ c.loop-from.invariant.2, same_then c.loop-from.invariant.3 c.trace_from_state.ensures.same)

pub trace_item-returns : goal.trace_item-returns
trace_item-returns t c = let n = work_many _ _ _ _ c.args.over.now.tracer.working in let pi : c.args.item.production < c.args.over.now.tracer.grammar.productions = omega (arith, c.requires.within.1.production) in record { reduces = item-goes (meaning c.args.over.now.tracer.table.words.now) c.args.state (record { production = c.args.item.production; index = c.args.item.index }) c.args.edges.now.words.now c.args.edges.now.flags.now c.args.entered.now c.args.stamps.now.words _ _ (c.in_ok-to_item.ensures.coded _ (fits c.args.over.now.tracer.table.words.now c.args.over.now.tracer.working.accepted) c.args.over.now.tracer.working.least c.requires.within.1) _ (c.owner-owner.ensures ∙ work_owner _ _ _ _ c.args.over.now.tracer.working c.args.item.production c.args.item.index pi) _ (ap (λ (s : StateSet). states_in s.low s.high) (ap (λ (i : StateSetIter). i.0) c.into_iter-from-iterator.ensures.into_iter_gives ∙ c.iter-from-items.ensures) ∙ c.begins-states.ensures.found) _ _ _ _ (left-done (meaning c.args.over.now.tracer.table.words.now) _ _ _ _ _ _ _ _ _ _ _ c.loop-from.invariant.1 c.in-None.ensures.steps.0); reduce_exceeds = tt; same = same_then c.to_item.ensures.same c.loop-from.invariant.3; entered_bound = (c.loop-from.invariant.1.fewer, c.loop-from.invariant.2 ∙ c.begins-states.ensures.table_after) }

pub trace_from_state-enter-requires : goal.trace_from_state-enter-requires
trace_from_state-enter-requires t c = let f = fits c.args.over.now.tracer.table.words.now c.args.over.now.tracer.working.accepted in record { room = c.requires.room; within = (omega (arith, f.few_states, c.requires.within.0), omega (arith, f.few_nonterminals, c.requires.within.1)) }

pub trace_from_state-returns-then-not-enter : goal.trace_from_state-returns-then-not-enter
trace_from_state-returns-then-not-enter t c = rw (c.enter.ensures.known c.if-not-enter.true).1 (record { reduces = state_known (meaning c.args.over.now.tracer.table.words.now) c.args.state c.args.nonterminal c.args.edges.now.words.now c.args.edges.now.flags.now c.args.entered.now c.args.stamps.now.words (pair_small c.args.over.now.tracer.table.words.now c.args.over.now.tracer.working.accepted c.args.state c.args.nonterminal c.requires.within.0 c.requires.within.1) (c.enter.ensures.known c.if-not-enter.true).0; reduce_exceeds = tt; same = (refl, refl); entered_bound = (le_refl _, refl) })

pub trace_from_state-items-read-items-requires : goal.trace_from_state-items-read-items-requires
trace_from_state-items-read-items-requires t c = c.requires.within.0

pub trace_from_state-loop-read-init : goal.trace_from_state-loop-read-init
trace_from_state-loop-read-init t c = rw c.into_iter-read-iterator.ensures.into_iter_gives (c.items-read-items.ensures.0, left-start (meaning c.args.over.now.tracer.table.words.now) _ _ _ _ _ _ _ c.items-read-items.ensures.1, refl, (refl, refl))

pub trace_from_state-can_shift_nonterminal-requires : goal.trace_from_state-can_shift_nonterminal-requires
trace_from_state-can_shift_nonterminal-requires t c = let n = work_many _ _ _ _ c.args.over.now.tracer.working in let R = (rw c.loop-read.invariant.0 at c.in-Some.ensures.steps.1.2) in let pl : c.in-Some.read.production < c.args.over.now.tracer.grammar.productions = omega (arith, R.fits.production) in pl

pub trace_from_state-loop-read-preserved-then-not-can_shift_nonterminal : goal.trace_from_state-loop-read-preserved-then-not-can_shift_nonterminal
trace_from_state-loop-read-preserved-then-not-can_shift_nonterminal t c = let n = work_many _ _ _ _ c.args.over.now.tracer.working in let R = (rw c.loop-read.invariant.0 at c.in-Some.ensures.steps.1.2) in let pl : c.in-Some.read.production < c.args.over.now.tracer.grammar.productions = omega (arith, R.fits.production) in (c.in-Some.ensures.steps.0 ∙ c.loop-read.invariant.0, left-next (meaning c.args.over.now.tracer.table.words.now) _ _ _ _ _ _ _ _ _ _ _ c.loop-read.invariant.1 _ _ R.list _ _ _ _ (skip_goes (meaning c.args.over.now.tracer.table.words.now) c.args.state c.args.nonterminal _ _ _ _ _ (sym (work_shift _ _ _ _ c.args.over.now.tracer.working _ _ c.args.nonterminal pl) ∙ sym c.can_shift_nonterminal.ensures ∙ c.if-not-can_shift_nonterminal.true)) (le_refl _), c.loop-read.invariant.2, c.loop-read.invariant.3)

pub trace_from_state-ends_at-on-requires : goal.trace_from_state-ends_at-on-requires
trace_from_state-ends_at-on-requires t c = (rw c.loop-read.invariant.0 at c.in-Some.ensures.steps.1.2).fits

pub trace_from_state-to_nonterminal-requires : goal.trace_from_state-to_nonterminal-requires
trace_from_state-to_nonterminal-requires t c = edge_small c.args.over.now.tracer.working _ (rw c.loop-read.invariant.0 at c.in-Some.ensures.steps.1.2).fits

pub trace_from_state-returns-in_err-to_nonterminal : goal.trace_from_state-returns-in_err-to_nonterminal
trace_from_state-returns-in_err-to_nonterminal t c = let n = work_many _ _ _ _ c.args.over.now.tracer.working in let R = (rw c.loop-read.invariant.0 at c.in-Some.ensures.steps.1.2) in let pl : c.in-Some.read.production < c.args.over.now.tracer.grammar.productions = omega (arith, R.fits.production) in let w = state_fewer (meaning c.args.over.now.tracer.table.words.now) c.args.state c.args.nonterminal c.args.edges.now.words.now c.args.edges.now.flags.now c.args.entered.now c.args.stamps.now.words (pair_small c.args.over.now.tracer.table.words.now c.args.over.now.tracer.working.accepted c.args.state c.args.nonterminal c.requires.within.0 c.requires.within.1) (omega (arith, c.requires.room)) (c.enter.ensures.new c.if-not-enter.false).0 _ (c.enter.ensures.new c.if-not-enter.false).1 in let p = err_from_is_err_and c.from_residual.result c.from_residual.ensures.1 in rw p.1 (record { reduces = tt; reduce_exceeds = state_stops (meaning c.args.over.now.tracer.table.words.now) c.args.state c.args.nonterminal c.args.edges.now.words.now c.args.edges.now.flags.now c.args.entered.now c.args.stamps.now.words (pair_small c.args.over.now.tracer.table.words.now c.args.over.now.tracer.working.accepted c.args.state c.args.nonterminal c.requires.within.0 c.requires.within.1) (omega (arith, c.requires.room)) (c.enter.ensures.new c.if-not-enter.false).0 _ (c.enter.ensures.new c.if-not-enter.false).1 (left_over (meaning c.args.over.now.tracer.table.words.now) _ _ _ _ _ _ _ _ _ _ _ c.loop-read.invariant.1 _ _ R.list (on_item_adds (meaning c.args.over.now.tracer.table.words.now) _ _) (edge_stops (meaning c.args.over.now.tracer.table.words.now) c.args.state c.args.nonterminal _ _ _ _ _ (sym (work_shift _ _ _ _ c.args.over.now.tracer.working _ _ c.args.nonterminal pl) ∙ sym c.can_shift_nonterminal.ensures ∙ c.if-not-can_shift_nonterminal.false) _ c.ends_at-on.ensures (c.in_err-to_nonterminal.ensures.full _ (fits c.args.over.now.tracer.table.words.now c.args.over.now.tracer.working.accepted) c.args.over.now.tracer.working.least c.args.nonterminal c.requires.within.1 R.fits (sym (work_shift _ _ _ _ c.args.over.now.tracer.working _ _ c.args.nonterminal pl) ∙ sym c.can_shift_nonterminal.ensures ∙ c.if-not-can_shift_nonterminal.false)))); same = same_then c.loop-read.invariant.3 c.to_nonterminal.ensures.same; entered_bound = (omega (arith, w, c.loop-read.invariant.1.fewer), c.loop-read.invariant.2) })

pub trace_from_state-at-requires : goal.trace_from_state-at-requires
trace_from_state-at-requires t c = let sm = label_small (meaning c.args.over.now.tracer.table.words.now) (fits c.args.over.now.tracer.table.words.now c.args.over.now.tracer.working.accepted) _ (rw c.loop-read.invariant.0 at c.in-Some.ensures.steps.1.2).fits in (sm.0, sm.1)

pub trace_from_state-overflow_add-state : goal.trace_from_state-overflow_add-state
trace_from_state-overflow_add-state t c = omega (arith, (fits c.args.over.now.tracer.table.words.now c.args.over.now.tracer.working.accepted).few_states, c.requires.within.0)

pub trace_from_state-loop-read-preserved-then-not-on : goal.trace_from_state-loop-read-preserved-then-not-on
trace_from_state-loop-read-preserved-then-not-on t c = elim c.then-not-on.branch [
  | trace_from_state-then-not-on-via-then-not-on w ↦ let n = work_many _ _ _ _ c.args.over.now.tracer.working in let R = (rw c.loop-read.invariant.0 at c.in-Some.ensures.steps.1.2) in let pl : c.in-Some.read.production < c.args.over.now.tracer.grammar.productions = omega (arith, R.fits.production) in (c.in-Some.ensures.steps.0 ∙ c.loop-read.invariant.0, left-next (meaning c.args.over.now.tracer.table.words.now) _ _ _ _ _ _ _ _ _ _ _ c.loop-read.invariant.1 _ _ R.list _ _ _ _ (off_goes (meaning c.args.over.now.tracer.table.words.now) c.args.state c.args.nonterminal _ _ _ _ _ (sym (work_shift _ _ _ _ c.args.over.now.tracer.working _ _ c.args.nonterminal pl) ∙ sym c.can_shift_nonterminal.ensures ∙ c.if-not-can_shift_nonterminal.false) _ c.ends_at-on.ensures _ _ (c.in_ok-to_nonterminal.ensures.coded _ (fits c.args.over.now.tracer.table.words.now c.args.over.now.tracer.working.accepted) c.args.over.now.tracer.working.least c.args.nonterminal c.requires.within.1 R.fits (sym (work_shift _ _ _ _ c.args.over.now.tracer.working _ _ c.args.nonterminal pl) ∙ sym c.can_shift_nonterminal.ensures ∙ c.if-not-can_shift_nonterminal.false)) w.if-not-on.true) (le_refl _), c.loop-read.invariant.2, same_then c.loop-read.invariant.3 c.to_nonterminal.ensures.same)
  | trace_from_state-then-not-on-via-else-not-on+then-at-state w ↦ let n = work_many _ _ _ _ c.args.over.now.tracer.working in let R = (rw c.loop-read.invariant.0 at c.in-Some.ensures.steps.1.2) in let pl : c.in-Some.read.production < c.args.over.now.tracer.grammar.productions = omega (arith, R.fits.production) in (c.in-Some.ensures.steps.0 ∙ c.loop-read.invariant.0, left-next (meaning c.args.over.now.tracer.table.words.now) _ _ _ _ _ _ _ _ _ _ _ c.loop-read.invariant.1 _ _ R.list _ _ _ _ (known_goes (meaning c.args.over.now.tracer.table.words.now) c.args.state c.args.nonterminal _ _ _ _ _ (sym (work_shift _ _ _ _ c.args.over.now.tracer.working _ _ c.args.nonterminal pl) ∙ sym c.can_shift_nonterminal.ensures ∙ c.if-not-can_shift_nonterminal.false) _ c.ends_at-on.ensures _ _ (c.in_ok-to_nonterminal.ensures.coded _ (fits c.args.over.now.tracer.table.words.now c.args.over.now.tracer.working.accepted) c.args.over.now.tracer.working.least c.args.nonterminal c.requires.within.1 R.fits (sym (work_shift _ _ _ _ c.args.over.now.tracer.working _ _ c.args.nonterminal pl) ∙ sym c.can_shift_nonterminal.ensures ∙ c.if-not-can_shift_nonterminal.false)) w.if-not-on.false R.fits (sym w.at.ensures ∙ w.if-at-state.true)) (le_refl _), c.loop-read.invariant.2, same_then c.loop-read.invariant.3 c.to_nonterminal.ensures.same)
]

pub trace_from_state-trace_item-requires : goal.trace_from_state-trace_item-requires
trace_from_state-trace_item-requires t c = let w = state_fewer (meaning c.args.over.now.tracer.table.words.now) c.args.state c.args.nonterminal c.args.edges.now.words.now c.args.edges.now.flags.now c.args.entered.now c.args.stamps.now.words (pair_small c.args.over.now.tracer.table.words.now c.args.over.now.tracer.working.accepted c.args.state c.args.nonterminal c.requires.within.0 c.requires.within.1) (omega (arith, c.requires.room)) (c.enter.ensures.new c.if-not-enter.false).0 _ (c.enter.ensures.new c.if-not-enter.false).1 in (omega (arith, w, c.loop-read.invariant.1.fewer), (omega (arith, c.requires.room), (ap meaning c.loop-read.invariant.2 ∙ c.requires.table, (c.requires.within.0, (rw c.loop-read.invariant.0 at c.in-Some.ensures.steps.1.2).fits))))

pub trace_from_state-returns-in_err-trace_item : goal.trace_from_state-returns-in_err-trace_item
trace_from_state-returns-in_err-trace_item t c = let n = work_many _ _ _ _ c.args.over.now.tracer.working in let R = (rw c.loop-read.invariant.0 at c.in-Some.ensures.steps.1.2) in let pl : c.in-Some.read.production < c.args.over.now.tracer.grammar.productions = omega (arith, R.fits.production) in let w = state_fewer (meaning c.args.over.now.tracer.table.words.now) c.args.state c.args.nonterminal c.args.edges.now.words.now c.args.edges.now.flags.now c.args.entered.now c.args.stamps.now.words (pair_small c.args.over.now.tracer.table.words.now c.args.over.now.tracer.working.accepted c.args.state c.args.nonterminal c.requires.within.0 c.requires.within.1) (omega (arith, c.requires.room)) (c.enter.ensures.new c.if-not-enter.false).0 _ (c.enter.ensures.new c.if-not-enter.false).1 in let p = err_from_is_err_and c.from_residual-in_err-trace_item.result c.from_residual-in_err-trace_item.ensures.1 in rw p.1 (record { reduces = tt; reduce_exceeds = state_stops (meaning c.args.over.now.tracer.table.words.now) c.args.state c.args.nonterminal c.args.edges.now.words.now c.args.edges.now.flags.now c.args.entered.now c.args.stamps.now.words (pair_small c.args.over.now.tracer.table.words.now c.args.over.now.tracer.working.accepted c.args.state c.args.nonterminal c.requires.within.0 c.requires.within.1) (omega (arith, c.requires.room)) (c.enter.ensures.new c.if-not-enter.false).0 _ (c.enter.ensures.new c.if-not-enter.false).1 (left_over (meaning c.args.over.now.tracer.table.words.now) _ _ _ _ _ _ _ _ _ _ _ c.loop-read.invariant.1 _ _ R.list (on_item_adds (meaning c.args.over.now.tracer.table.words.now) _ _) (on_stops (meaning c.args.over.now.tracer.table.words.now) c.args.state c.args.nonterminal _ _ _ _ _ (sym (work_shift _ _ _ _ c.args.over.now.tracer.working _ _ c.args.nonterminal pl) ∙ sym c.can_shift_nonterminal.ensures ∙ c.if-not-can_shift_nonterminal.false) _ c.ends_at-on.ensures _ _ (c.in_ok-to_nonterminal.ensures.coded _ (fits c.args.over.now.tracer.table.words.now c.args.over.now.tracer.working.accepted) c.args.over.now.tracer.working.least c.args.nonterminal c.requires.within.1 R.fits (sym (work_shift _ _ _ _ c.args.over.now.tracer.working _ _ c.args.nonterminal pl) ∙ sym c.can_shift_nonterminal.ensures ∙ c.if-not-can_shift_nonterminal.false)) c.if-not-on.false c.in_err-trace_item.ensures.reduce_exceeds)); same = same_then (same_then c.loop-read.invariant.3 c.to_nonterminal.ensures.same) c.trace_item.ensures.same; entered_bound = (omega (arith, w, c.loop-read.invariant.1.fewer, c.trace_item.ensures.entered_bound.0), c.trace_item.ensures.entered_bound.1 ∙ c.loop-read.invariant.2) })

pub trace_from_state-overflow_add-state-in-loop-read : goal.trace_from_state-overflow_add-state-in-loop-read
trace_from_state-overflow_add-state-in-loop-read t c = omega (arith, (fits c.args.over.now.tracer.table.words.now c.args.over.now.tracer.working.accepted).few_states, c.requires.within.0)

pub trace_from_state-put-requires : goal.trace_from_state-put-requires
trace_from_state-put-requires t c = let sm = label_small (meaning c.args.over.now.tracer.table.words.now) (fits c.args.over.now.tracer.table.words.now c.args.over.now.tracer.working.accepted) _ (rw c.loop-read.invariant.0 at c.in-Some.ensures.steps.1.2).fits in (sm.0, sm.1, omega (arith, (fits c.args.over.now.tracer.table.words.now c.args.over.now.tracer.working.accepted).few_states, c.requires.within.0))

pub trace_from_state-loop-read-preserved : goal.trace_from_state-loop-read-preserved
trace_from_state-loop-read-preserved t c = let n = work_many _ _ _ _ c.args.over.now.tracer.working in let R = (rw c.loop-read.invariant.0 at c.in-Some.ensures.steps.1.2) in let pl : c.in-Some.read.production < c.args.over.now.tracer.grammar.productions = omega (arith, R.fits.production) in (c.in-Some.ensures.steps.0 ∙ c.loop-read.invariant.0, left-next (meaning c.args.over.now.tracer.table.words.now) _ _ _ _ _ _ _ _ _ _ _ c.loop-read.invariant.1 _ _ R.list _ _ _ _ (on_goes (meaning c.args.over.now.tracer.table.words.now) c.args.state c.args.nonterminal _ _ _ _ _ (sym (work_shift _ _ _ _ c.args.over.now.tracer.working _ _ c.args.nonterminal pl) ∙ sym c.can_shift_nonterminal.ensures ∙ c.if-not-can_shift_nonterminal.false) _ c.ends_at-on.ensures _ _ (c.in_ok-to_nonterminal.ensures.coded _ (fits c.args.over.now.tracer.table.words.now c.args.over.now.tracer.working.accepted) c.args.over.now.tracer.working.least c.args.nonterminal c.requires.within.1 R.fits (sym (work_shift _ _ _ _ c.args.over.now.tracer.working _ _ c.args.nonterminal pl) ∙ sym c.can_shift_nonterminal.ensures ∙ c.if-not-can_shift_nonterminal.false)) c.if-not-on.false _ _ _ _ (stamp_goes (meaning c.args.over.now.tracer.table.words.now) (fits c.args.over.now.tracer.table.words.now c.args.over.now.tracer.working.accepted) c.args.state c.requires.within.0 _ R.fits _ _ _ _ _ _ _ _ _ c.in_ok-trace_item.ensures.reduces c.put.ensures.index_after c.put.ensures.by_index)) c.trace_item.ensures.entered_bound.0, c.trace_item.ensures.entered_bound.1 ∙ c.loop-read.invariant.2, same_then (same_then c.loop-read.invariant.3 c.to_nonterminal.ensures.same) c.trace_item.ensures.same)

pub trace_from_state-returns : goal.trace_from_state-returns
trace_from_state-returns t c = let w = state_fewer (meaning c.args.over.now.tracer.table.words.now) c.args.state c.args.nonterminal c.args.edges.now.words.now c.args.edges.now.flags.now c.args.entered.now c.args.stamps.now.words (pair_small c.args.over.now.tracer.table.words.now c.args.over.now.tracer.working.accepted c.args.state c.args.nonterminal c.requires.within.0 c.requires.within.1) (omega (arith, c.requires.room)) (c.enter.ensures.new c.if-not-enter.false).0 _ (c.enter.ensures.new c.if-not-enter.false).1 in record { reduces = state_goes (meaning c.args.over.now.tracer.table.words.now) c.args.state c.args.nonterminal c.args.edges.now.words.now c.args.edges.now.flags.now c.args.entered.now c.args.stamps.now.words (pair_small c.args.over.now.tracer.table.words.now c.args.over.now.tracer.working.accepted c.args.state c.args.nonterminal c.requires.within.0 c.requires.within.1) (omega (arith, c.requires.room)) (c.enter.ensures.new c.if-not-enter.false).0 _ (c.enter.ensures.new c.if-not-enter.false).1 _ _ _ _ (left-done (meaning c.args.over.now.tracer.table.words.now) _ _ _ _ _ _ _ _ _ _ _ c.loop-read.invariant.1 (ap (items_from c.args.over.now.tracer.table.words.now) c.in-None.ensures.steps.1 ∙ items_none c.args.over.now.tracer.table.words.now)); reduce_exceeds = tt; same = c.loop-read.invariant.3; entered_bound = (omega (arith, w, c.loop-read.invariant.1.fewer), c.loop-read.invariant.2) }
