use Rattle.std.proofs.lemmas.Result.{err_from_is_err_and}
use Rattle.lr1_states.proofs.transitions.Laws.{tried-nowhere, tried-stops, tried_to, to_small, one_small}
use Rattle.std.proofs.Common.{arith}
use Rattle.lr1_states.proofs.transitions.take_one.Goals as goal

pub goto_over-requires : goal.goto_over-requires
goto_over-requires c = let r = c.requires.k_lt_states in record { search = c.requires.search; k_lt_states = (r.0, r.1, r.2) }

pub push-requires : goal.push-requires
push-requires c = let s = c.requires.search in (
  c.requires.k_lt_states.3,
  one_small _ _ _ (omega (arith, s.nonterminals_are, s.grammar.fits.few_nonterminals)) (omega (arith, s.grammar.tokens, s.grammar.fits.few_terminals)) c.requires.k_lt_states.1,
  to_small _ _ _ _ _ _ _ _ (rw c.in-Some.is at (c.in_ok-target.ensures.2 s)),
)

pub returns-in_err-target : goal.returns-in_err-target
returns-in_err-target c = let q = err_from_is_err_and c.from_residual.result c.from_residual.ensures.1 in (c.in_err-target.ensures.0, λ s. rw (q.1, q.2) (tried-stops _ _ _ _ _ _ _ _ _ _ _ _ (c.in_err-target.ensures.2 s)))

pub returns-in-Some : goal.returns-in-Some
returns-in-Some c = let p = c.push.ensures in (c.in_ok-target.ensures.0, λ s. rw (p.0, p.1) (tried_to _ _ _ _ _ _ _ _ _ _ _ _ (rw c.in-Some.is at (c.in_ok-target.ensures.2 s))))

pub returns-in_default : goal.returns-in_default
returns-in_default c = (c.in_ok-target.ensures.0, λ s. tried-nowhere _ _ _ _ _ _ _ _ _ _ _ (rw c.in_default.is at (c.in_ok-target.ensures.2 s)))
