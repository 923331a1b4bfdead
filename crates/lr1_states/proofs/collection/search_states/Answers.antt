use Rattle.std.proofs.lemmas.Result.{err_from_is_err_and}
use Rattle.lr1_states.proofs.collection.WholeSearch.{begun, none_fit, goes_on}
use native.Mathlib.Omega.{arith}
use Rattle.lr1_states.proofs.collection.search_states.Goals as goal

pub first_state-requires : goal.first_state-requires
first_state-requires c = record { held = (c.requires.ready.T, c.requires.ready.grammar); start_lt_productions = (c.requires.ready.started, c.requires.ready.small, omega (arith, c.requires.ready.counted.limit_is), c.requires.front.1, c.requires.front.2) }

pub returns-in_err-first_state : goal.returns-in_err-first_state
returns-in_err-first_state c = let q = err_from_is_err_and c.from_residual.result c.from_residual.ensures.1 in λ s. rw (q.1, q.2) (none_fit _ _ s _ _ c.first_state.new.begins.states _ (c.in_err-first_state.ensures s.T s.room s.grammar s.counted) _ _ _ _ _)

pub find_states-requires : goal.find_states-requires
find_states-requires c = let s = c.requires.ready in record { search = begun _ _ s _ _ _ (c.in_ok-first_state.ensures s.T s.room s.grammar s.counted); front = (c.requires.front.0, c.requires.front.3) }

pub returns : goal.returns
returns c = λ s. let k = c.in_ok-first_state.ensures s.T s.room s.grammar s.counted in goes_on _ _ s _ _ _ k _ _ _ _ _ _ (c.find_states.ensures.found (begun _ _ s _ _ _ k))
