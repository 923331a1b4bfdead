use Rattle.std.proofs.lemmas.Result.{err_from_is_err_and}
use Rattle.std.proofs.Common.{◌<◌, length, sym, refl, ◌∙◌, le_refl, arith}
use Rattle.table.specs.Decoded.{meaning}
use Rattle.table.proofs.Decoding.{fits}
use Rattle.trace.proofs.Fuel.{owner_lt}
use Rattle.trace.proofs.edge_codes.Lent.{same_then}
use Rattle.trace.specs.Held.{Held}
use Rattle.trace.proofs.Turns.{pair_small, known, made_fewer, made, turning_start, turning_move, turning_done, turning_skip, turning_past, turning_followed, turning_full, turning_follow_full, work_many, work_owner, work_shift}
use Rattle.trace.proofs.Places.{begin-room, begin-placed, begin_turn, left-none, after-room, left-read, follow_placed, follow_turn, follow_less}
use Rattle.trace.proofs.shift.+trace_epsilon.Goals as goal

pub enter-requires : goal.enter-requires
enter-requires t c = let f = fits c.args.tracer.table.words.now c.args.tracer.working.accepted in record { room = c.requires.room; within = (omega (arith, f.few_states, c.requires.within.0), omega (arith, f.few_nonterminals, c.requires.within.1)) }

pub returns-then-not-enter : goal.returns-then-not-enter
returns-then-not-enter t c = rw (c.enter.ensures.known c.if-not-enter.true).1 (record { steps = known (meaning c.args.tracer.table.words.now) c.args.state c.args.nonterminal c.args.edges.now.words.now c.args.edges.now.flags.now c.args.entered.now (pair_small c.args.tracer.table.words.now c.args.tracer.working.accepted c.args.state c.args.nonterminal c.requires.within.0 c.requires.within.1) (c.enter.ensures.known c.if-not-enter.true).0; exceeds = tt; same = (refl, refl); entered_bound = le_refl _ })

pub first_item-requires : goal.first_item-requires
first_item-requires t c = c.requires.within.0

pub begin-place-requires : goal.begin-place-requires
begin-place-requires t c = begin-room c.args.tracer.table.words.now c.args.records.now c.args.links.now c.requires.usable _ c.requires.within.1 (fits c.args.tracer.table.words.now c.args.tracer.working.accepted).few_nonterminals

pub loop-place-init : goal.loop-place-init
loop-place-init t c = (c.requires.usable, turning_start c.args.tracer.table.words.now c.args.state c.args.nonterminal _ _ _ _ (λ f st. begin_turn c.args.tracer.table.words.now c.args.records.now c.args.links.now c.requires.usable _ c.requires.within.1 _ c.first_item.ensures.on _ _ c.begin-place.ensures _ c.first_item.ensures.items f _ st), begin-placed c.args.tracer.table.words.now c.args.records.now c.args.links.now c.requires.usable _ c.requires.within.1 _ c.first_item.ensures.on _ _ c.begin-place.ensures, (refl, refl))

pub item-read-requires : goal.item-read-requires
item-read-requires t c = record { some = c.loop-place-test.true; on = c.loop-place.invariant.2.on }

pub after-place-requires : goal.after-place-requires
after-place-requires t c = record { in_bounds = begin-room c.args.tracer.table.words.now c.args.records.now c.args.links.now c.requires.usable _ c.requires.within.1 (fits c.args.tracer.table.words.now c.args.tracer.working.accepted).few_nonterminals; slot_in_bounds = after-room c.args.tracer.table.words.now c.args.records.now c.args.links.now c.loop-place.invariant.0 _ c.requires.within.1 _ _ c.loop-place.invariant.2 }

pub can_shift_nonterminal-requires : goal.can_shift_nonterminal-requires
can_shift_nonterminal-requires t c = let n = work_many _ _ _ _ c.args.tracer.working in let pl : c.item-read.result.production < c.args.tracer.grammar.productions = omega (arith, c.item-read.ensures.read.fits.production) in pl

pub loop-place-smaller-then-not-can_shift_nonterminal : goal.loop-place-smaller-then-not-can_shift_nonterminal
loop-place-smaller-then-not-can_shift_nonterminal t c = follow_less c.args.tracer.table.words.now c.args.records.now c.args.links.now c.loop-place.invariant.0 _ c.requires.within.1 _ _ c.loop-place.invariant.2 _ _ _ c.item-read.ensures.read _ _ c.after-place.ensures c.loop-place-test.true

pub loop-place-preserved-then-not-can_shift_nonterminal : goal.loop-place-preserved-then-not-can_shift_nonterminal
loop-place-preserved-then-not-can_shift_nonterminal t c = let n = work_many _ _ _ _ c.args.tracer.working in let pl : c.item-read.result.production < c.args.tracer.grammar.productions = omega (arith, c.item-read.ensures.read.fits.production) in (c.loop-place.invariant.0, turning_move c.args.tracer.table.words.now c.args.state c.args.nonterminal _ _ _ _ _ _ _ (turning_skip c.args.tracer.table.words.now c.args.state c.args.nonterminal _ _ _ _ _ _ _ c.loop-place.invariant.1 _ _ _ (left-read c.args.tracer.table.words.now c.args.records.now c.args.links.now c.loop-place.invariant.0 _ c.requires.within.1 _ _ c.loop-place.invariant.2 _ _ _ c.item-read.ensures.read) (sym (work_shift _ _ _ _ c.args.tracer.working _ _ _ pl) ∙ sym c.can_shift_nonterminal.ensures ∙ c.if-not-can_shift_nonterminal.true)) _ (λ f st. follow_turn c.args.tracer.table.words.now c.args.records.now c.args.links.now c.loop-place.invariant.0 _ c.requires.within.1 _ _ c.loop-place.invariant.2 _ _ _ c.item-read.ensures.read _ _ c.after-place.ensures f _ st), follow_placed c.args.tracer.table.words.now c.args.records.now c.args.links.now c.loop-place.invariant.0 _ c.requires.within.1 _ _ c.loop-place.invariant.2 _ _ _ c.item-read.ensures.read _ _ c.after-place.ensures, c.loop-place.invariant.3)

pub epsilon_code-requires : goal.epsilon_code-requires
epsilon_code-requires t c = c.item-read.ensures.read.fits

pub returns-in_err-epsilon_code : goal.returns-in_err-epsilon_code
returns-in_err-epsilon_code t c = let n = work_many _ _ _ _ c.args.tracer.working in let pl : c.item-read.result.production < c.args.tracer.grammar.productions = omega (arith, c.item-read.ensures.read.fits.production) in let w = made_fewer (meaning c.args.tracer.table.words.now) c.args.state c.args.nonterminal c.args.edges.now.words.now c.args.edges.now.flags.now c.args.entered.now (pair_small c.args.tracer.table.words.now c.args.tracer.working.accepted c.args.state c.args.nonterminal c.requires.within.0 c.requires.within.1) (omega (arith, c.requires.room)) (c.enter.ensures.new c.if-not-enter.false).0 _ (c.enter.ensures.new c.if-not-enter.false).1 in let p = err_from_is_err_and c.from_residual.result c.from_residual.ensures.1 in rw p.1 (record { steps = tt; exceeds = made (meaning c.args.tracer.table.words.now) c.args.state c.args.nonterminal c.args.edges.now.words.now c.args.edges.now.flags.now c.args.entered.now (pair_small c.args.tracer.table.words.now c.args.tracer.working.accepted c.args.state c.args.nonterminal c.requires.within.0 c.requires.within.1) (omega (arith, c.requires.room)) (c.enter.ensures.new c.if-not-enter.false).0 _ (c.enter.ensures.new c.if-not-enter.false).1 (λ u. 1024 < length u.edges) (turning_full c.args.tracer.table.words.now c.args.state c.args.nonterminal _ _ _ _ _ _ _ c.loop-place.invariant.1 _ _ _ (left-read c.args.tracer.table.words.now c.args.records.now c.args.links.now c.loop-place.invariant.0 _ c.requires.within.1 _ _ c.loop-place.invariant.2 _ _ _ c.item-read.ensures.read) (sym (work_shift _ _ _ _ c.args.tracer.working _ _ _ pl) ∙ sym c.can_shift_nonterminal.ensures ∙ c.if-not-can_shift_nonterminal.false) (c.in_err-epsilon_code.ensures.full _ c.requires.within.1 (sym (work_shift _ _ _ _ c.args.tracer.working _ _ _ pl) ∙ sym c.can_shift_nonterminal.ensures ∙ c.if-not-can_shift_nonterminal.false))); same = same_then c.loop-place.invariant.3 c.epsilon_code.ensures.same; entered_bound = omega (arith, w, c.loop-place.invariant.1.fewer) })

pub loop-place-smaller-then-item-gt0 : goal.loop-place-smaller-then-item-gt0
loop-place-smaller-then-item-gt0 t c = follow_less c.args.tracer.table.words.now c.args.records.now c.args.links.now c.loop-place.invariant.0 _ c.requires.within.1 _ _ c.loop-place.invariant.2 _ _ _ c.item-read.ensures.read _ _ c.after-place.ensures c.loop-place-test.true

pub loop-place-preserved-then-item-gt0 : goal.loop-place-preserved-then-item-gt0
loop-place-preserved-then-item-gt0 t c = let n = work_many _ _ _ _ c.args.tracer.working in let pl : c.item-read.result.production < c.args.tracer.grammar.productions = omega (arith, c.item-read.ensures.read.fits.production) in (c.loop-place.invariant.0, turning_move c.args.tracer.table.words.now c.args.state c.args.nonterminal _ _ _ _ _ _ _ (turning_past c.args.tracer.table.words.now c.args.state c.args.nonterminal _ _ _ _ _ _ _ c.loop-place.invariant.1 _ _ _ (left-read c.args.tracer.table.words.now c.args.records.now c.args.links.now c.loop-place.invariant.0 _ c.requires.within.1 _ _ c.loop-place.invariant.2 _ _ _ c.item-read.ensures.read) (sym (work_shift _ _ _ _ c.args.tracer.working _ _ _ pl) ∙ sym c.can_shift_nonterminal.ensures ∙ c.if-not-can_shift_nonterminal.false) c.if-item-gt0.true _ _ (c.in_ok-epsilon_code.ensures.coded _ c.requires.within.1 (sym (work_shift _ _ _ _ c.args.tracer.working _ _ _ pl) ∙ sym c.can_shift_nonterminal.ensures ∙ c.if-not-can_shift_nonterminal.false))) _ (λ f st. follow_turn c.args.tracer.table.words.now c.args.records.now c.args.links.now c.loop-place.invariant.0 _ c.requires.within.1 _ _ c.loop-place.invariant.2 _ _ _ c.item-read.ensures.read _ _ c.after-place.ensures f _ st), follow_placed c.args.tracer.table.words.now c.args.records.now c.args.links.now c.loop-place.invariant.0 _ c.requires.within.1 _ _ c.loop-place.invariant.2 _ _ _ c.item-read.ensures.read _ _ c.after-place.ensures, same_then c.loop-place.invariant.3 c.epsilon_code.ensures.same)

pub owner-owner-requires : goal.owner-owner-requires
owner-owner-requires t c = let n = work_many _ _ _ _ c.args.tracer.working in let pl : c.item-read.result.production < c.args.tracer.grammar.productions = omega (arith, c.item-read.ensures.read.fits.production) in pl

pub trace_epsilon-requires : goal.trace_epsilon-requires
trace_epsilon-requires t c = let n = work_many _ _ _ _ c.args.tracer.working in let pl : c.item-read.result.production < c.args.tracer.grammar.productions = omega (arith, c.item-read.ensures.read.fits.production) in let w = made_fewer (meaning c.args.tracer.table.words.now) c.args.state c.args.nonterminal c.args.edges.now.words.now c.args.edges.now.flags.now c.args.entered.now (pair_small c.args.tracer.table.words.now c.args.tracer.working.accepted c.args.state c.args.nonterminal c.requires.within.0 c.requires.within.1) (omega (arith, c.requires.room)) (c.enter.ensures.new c.if-not-enter.false).0 _ (c.enter.ensures.new c.if-not-enter.false).1 in (omega (arith, w, c.loop-place.invariant.1.fewer), (omega (arith, c.requires.room), ((c.requires.within.0, rw (c.owner-owner.ensures ∙ work_owner _ _ _ _ c.args.tracer.working c.item-read.result.production c.item-read.result.index pl) (owner_lt (meaning c.args.tracer.table.words.now) (fits c.args.tracer.table.words.now c.args.tracer.working.accepted) _)), c.requires.usable)))

pub returns-in_err-trace_epsilon : goal.returns-in_err-trace_epsilon
returns-in_err-trace_epsilon t c = let n = work_many _ _ _ _ c.args.tracer.working in let pl : c.item-read.result.production < c.args.tracer.grammar.productions = omega (arith, c.item-read.ensures.read.fits.production) in let w = made_fewer (meaning c.args.tracer.table.words.now) c.args.state c.args.nonterminal c.args.edges.now.words.now c.args.edges.now.flags.now c.args.entered.now (pair_small c.args.tracer.table.words.now c.args.tracer.working.accepted c.args.state c.args.nonterminal c.requires.within.0 c.requires.within.1) (omega (arith, c.requires.room)) (c.enter.ensures.new c.if-not-enter.false).0 _ (c.enter.ensures.new c.if-not-enter.false).1 in let z = c.trace_epsilon.ensures.entered_bound in let p = err_from_is_err_and c.from_residual-in_err-trace_epsilon.result c.from_residual-in_err-trace_epsilon.ensures.1 in rw p.1 (record { steps = tt; exceeds = made (meaning c.args.tracer.table.words.now) c.args.state c.args.nonterminal c.args.edges.now.words.now c.args.edges.now.flags.now c.args.entered.now (pair_small c.args.tracer.table.words.now c.args.tracer.working.accepted c.args.state c.args.nonterminal c.requires.within.0 c.requires.within.1) (omega (arith, c.requires.room)) (c.enter.ensures.new c.if-not-enter.false).0 _ (c.enter.ensures.new c.if-not-enter.false).1 (λ u. 1024 < length u.edges) (turning_follow_full c.args.tracer.table.words.now c.args.state c.args.nonterminal _ _ _ _ _ _ _ c.loop-place.invariant.1 _ _ _ (left-read c.args.tracer.table.words.now c.args.records.now c.args.links.now c.loop-place.invariant.0 _ c.requires.within.1 _ _ c.loop-place.invariant.2 _ _ _ c.item-read.ensures.read) (sym (work_shift _ _ _ _ c.args.tracer.working _ _ _ pl) ∙ sym c.can_shift_nonterminal.ensures ∙ c.if-not-can_shift_nonterminal.false) c.if-item-gt0.false _ (c.owner-owner.ensures ∙ work_owner _ _ _ _ c.args.tracer.working c.item-read.result.production c.item-read.result.index pl) _ _ (c.in_ok-epsilon_code.ensures.coded _ c.requires.within.1 (sym (work_shift _ _ _ _ c.args.tracer.working _ _ _ pl) ∙ sym c.can_shift_nonterminal.ensures ∙ c.if-not-can_shift_nonterminal.false)) c.in_err-trace_epsilon.ensures.exceeds); same = same_then (same_then c.loop-place.invariant.3 c.epsilon_code.ensures.same) c.trace_epsilon.ensures.same; entered_bound = omega (arith, w, z, c.loop-place.invariant.1.fewer) })

pub loop-place-smaller : goal.loop-place-smaller
loop-place-smaller t c = follow_less c.args.tracer.table.words.now c.args.records.now c.args.links.now c.loop-place.invariant.0 _ c.requires.within.1 _ _ c.loop-place.invariant.2 _ _ _ c.item-read.ensures.read _ _ c.after-place.ensures c.loop-place-test.true

pub loop-place-preserved : goal.loop-place-preserved
loop-place-preserved t c = let n = work_many _ _ _ _ c.args.tracer.working in let pl : c.item-read.result.production < c.args.tracer.grammar.productions = omega (arith, c.item-read.ensures.read.fits.production) in (c.loop-place.invariant.0, turning_move c.args.tracer.table.words.now c.args.state c.args.nonterminal _ _ _ _ _ _ _ (turning_followed c.args.tracer.table.words.now c.args.state c.args.nonterminal _ _ _ _ _ _ _ c.loop-place.invariant.1 _ _ _ (left-read c.args.tracer.table.words.now c.args.records.now c.args.links.now c.loop-place.invariant.0 _ c.requires.within.1 _ _ c.loop-place.invariant.2 _ _ _ c.item-read.ensures.read) (sym (work_shift _ _ _ _ c.args.tracer.working _ _ _ pl) ∙ sym c.can_shift_nonterminal.ensures ∙ c.if-not-can_shift_nonterminal.false) c.if-item-gt0.false _ (c.owner-owner.ensures ∙ work_owner _ _ _ _ c.args.tracer.working c.item-read.result.production c.item-read.result.index pl) _ _ (c.in_ok-epsilon_code.ensures.coded _ c.requires.within.1 (sym (work_shift _ _ _ _ c.args.tracer.working _ _ _ pl) ∙ sym c.can_shift_nonterminal.ensures ∙ c.if-not-can_shift_nonterminal.false)) _ _ _ c.in_ok-trace_epsilon.ensures.steps c.trace_epsilon.ensures.entered_bound) _ (λ f st. follow_turn c.args.tracer.table.words.now c.args.records.now c.args.links.now c.loop-place.invariant.0 _ c.requires.within.1 _ _ c.loop-place.invariant.2 _ _ _ c.item-read.ensures.read _ _ c.after-place.ensures f _ st), follow_placed c.args.tracer.table.words.now c.args.records.now c.args.links.now c.loop-place.invariant.0 _ c.requires.within.1 _ _ c.loop-place.invariant.2 _ _ _ c.item-read.ensures.read _ _ c.after-place.ensures, same_then (same_then c.loop-place.invariant.3 c.epsilon_code.ensures.same) c.trace_epsilon.ensures.same)

pub returns : goal.returns
returns t c = let w = made_fewer (meaning c.args.tracer.table.words.now) c.args.state c.args.nonterminal c.args.edges.now.words.now c.args.edges.now.flags.now c.args.entered.now (pair_small c.args.tracer.table.words.now c.args.tracer.working.accepted c.args.state c.args.nonterminal c.requires.within.0 c.requires.within.1) (omega (arith, c.requires.room)) (c.enter.ensures.new c.if-not-enter.false).0 _ (c.enter.ensures.new c.if-not-enter.false).1 in record { steps = made (meaning c.args.tracer.table.words.now) c.args.state c.args.nonterminal c.args.edges.now.words.now c.args.edges.now.flags.now c.args.entered.now (pair_small c.args.tracer.table.words.now c.args.tracer.working.accepted c.args.state c.args.nonterminal c.requires.within.0 c.requires.within.1) (omega (arith, c.requires.room)) (c.enter.ensures.new c.if-not-enter.false).0 _ (c.enter.ensures.new c.if-not-enter.false).1 (Held (meaning c.args.tracer.table.words.now) _ _ _) (turning_done c.args.tracer.table.words.now c.args.state c.args.nonterminal _ _ _ _ _ _ _ c.loop-place.invariant.1 (left-none c.args.tracer.table.words.now c.args.records.now c.args.links.now c.loop-place.invariant.0 _ c.requires.within.1 _ _ c.loop-place.invariant.2 c.loop-place-test.false)); exceeds = tt; same = c.loop-place.invariant.3; entered_bound = omega (arith, w, c.loop-place.invariant.1.fewer) }
