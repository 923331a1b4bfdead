use Rattle.lr1_states.proofs.goto.Found.{last-begin, store_all, store_none, store_some}
use Rattle.lr1_states.specs.canonical.States.{closure}
use Rattle.std.proofs.Common.{◌*◌, refl, arith, length-take-le}
use Rattle.lr1_base.specs.repr.Sizes.{index_limit}
use Rattle.std.proofs.lemmas.Result.{err_from_is_err_and}
use Rattle.lr1_states.proofs.goto.store.Goals as goal

pub returns-then-number-eq-STATES : goal.returns-then-number-eq-STATES
returns-then-number-eq-STATES c = ((refl, refl), λ s M l e m p. store_all _ _ _ _ s (closure s.T M) p c.if-number-eq-STATES.true _ _ _)

pub append-requires : goal.append-requires
append-requires c = record { items_few = (omega (arith, length-take-le (index_limit * c.args.source.grammar.productions) c.close-state.result (rw c.close-state.ensures.0 (omega (arith, c.args.source.grammar.packed.few))), c.args.source.grammar.packed.few), c.requires.search.fixed_small, omega (arith, c.requires.search.limit_is)); record_limit_in_bounds = (c.requires.search.holds.begun.room, omega (arith, c.if-number-eq-STATES.false, c.requires.search.many, c.requires.search.holds.begun.few), last-begin _ _ _ _ _ _ c.requires.search.holds c.requires.search.many) }

pub returns-in_err-append : goal.returns-in_err-append
returns-in_err-append c = let q = err_from_is_err_and c.from_residual.result c.from_residual.ensures.1 in let a = c.in_err-append.ensures in rw (q.1, q.2) ((a.2, a.3), λ s M l e m p. store_none _ _ _ _ s (closure s.T M) p c.if-number-eq-STATES.false _ _ _ _ (c.close-state.ensures.1 s.T M s.grammar l e) _ a.0 a.1)

pub returns : goal.returns
returns c = (tt, λ s M l e m p. store_some _ _ _ _ s (closure s.T M) p c.if-number-eq-STATES.false _ _ _ _ (c.close-state.ensures.1 s.T M s.grammar l e) c.in_ok-append.ensures.0 c.in_ok-append.ensures.1 m)
