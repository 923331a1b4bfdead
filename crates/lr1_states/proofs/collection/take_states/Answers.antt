use mathlib.Core.Path.{refl, ◌∙◌}
use Rattle.std.proofs.lemmas.Result.{err_from_is_err_and}
use Rattle.lr1_states.proofs.collection.Laws.{round-start, round-stops, round-more, round_end}
use Rattle.lr1_states.proofs.transitions.Laws.{search_on}
use native.Mathlib.Omega.{arith}
use Rattle.lr1_states.proofs.collection.take_states.Goals as goal

pub loop-k-init : goal.loop-k-init
loop-k-init c = (refl, λ s. round-start _ _ _ _ _ _ _ _ _ s.many s.holds c.requires.front.1)

pub take_state-requires : goal.take_state-requires
take_state-requires c = let t = c.loop-k.invariant.1 c.requires.search in record { search = search_on _ _ _ _ _ _ _ c.requires.search t.Qs t.many t.holds; k_lt_found = (c.loop-k-test.true, rw c.loop-k.invariant.0 c.requires.front.0, omega (arith, t.few, c.loop-k-test.true, t.many, t.holds.begun.few)) }

pub returns-in_err-take_state : goal.returns-in_err-take_state
returns-in_err-take_state c = let q = err_from_is_err_and c.from_residual.result c.from_residual.ensures.1 in λ s. let t = c.loop-k.invariant.1 s in rw (q.1, q.2) (round-stops _ _ _ _ _ _ _ _ _ _ _ t c.loop-k-test.true _ _ _ _ _ _ (c.in_err-take_state.ensures.2 (search_on _ _ _ _ _ _ _ s t.Qs t.many t.holds)))

pub overflow_add-k : goal.overflow_add-k
overflow_add-k c = let t = c.loop-k.invariant.1 c.requires.search in omega (arith, c.loop-k-test.true, t.many, t.holds.begun.few)

pub offset_bounds-edges-k : goal.offset_bounds-edges-k
offset_bounds-edges-k c = let t = c.loop-k.invariant.1 c.requires.search in omega (arith, c.loop-k-test.true, t.many, t.holds.begun.few)

pub bounds-edges-k : goal.bounds-edges-k
bounds-edges-k c = let t = c.loop-k.invariant.1 c.requires.search in omega (arith, c.loop-k-test.true, t.many, t.holds.begun.few)

pub loop-k-smaller : goal.loop-k-smaller
loop-k-smaller c = let t = c.loop-k.invariant.1 c.requires.search in omega (arith, c.loop-k-test.true, t.many, t.holds.begun.few)

pub loop-k-preserved : goal.loop-k-preserved
loop-k-preserved c = (c.in_ok-take_state.ensures.0 ∙ c.loop-k.invariant.0, λ s. let t = c.loop-k.invariant.1 s in round-more _ _ _ _ _ _ _ _ _ _ _ t c.loop-k-test.true _ _ _ _ _ (omega (arith, c.loop-k-test.true, t.many, t.holds.begun.few, c.loop-k.edges.long)) _ (c.in_ok-take_state.ensures.2 (search_on _ _ _ _ _ _ _ s t.Qs t.many t.holds)))

pub returns : goal.returns
returns c = λ s. round_end _ _ _ _ _ _ _ _ _ _ _ (c.loop-k.invariant.1 s) c.loop-k-test.false
