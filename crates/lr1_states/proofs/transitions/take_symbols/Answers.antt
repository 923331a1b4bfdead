use mathlib.Core.Path.{refl, ◌∙◌}
use Rattle.std.proofs.lemmas.Result.{err_from_is_err_and}
use Rattle.lr1_states.proofs.transitions.Laws.{search_on, tried_fits, tried_nonterminal, tried_terminal, turn_start, turn_on, turn_stops, turn_more, turn_end}
use native.Mathlib.Omega.{arith}
use Rattle.lr1_states.proofs.transitions.take_symbols.Goals as goal

pub loop-n-init : goal.loop-n-init
loop-n-init c = (refl, λ s. turn_start _ _ _ _ _ _ _ _ _ _ s.many s.holds)

pub take_one-requires : goal.take_one-requires
take_one-requires c = let s = c.requires.search in let t = c.loop-n.invariant.1 c.requires.search in record { search = search_on _ _ _ _ _ _ _ c.requires.search t.Qs t.many t.holds; k_lt_states = (omega (arith, c.requires.k_lt_found.0, s.many, t.keeps.long, t.many), tried_fits s.T s.grammar.fits _ _ s.nonterminals_are s.grammar.tokens _ _ (tried_nonterminal _ _ c.loop-n-test.true) (omega (arith, c.loop-n-test.true)), rw c.loop-n.invariant.0 c.requires.k_lt_found.1, omega (arith, t.high, c.loop-n-test.true, c.requires.k_lt_found.2, s.nonterminals_are, s.grammar.fits.few_nonterminals)) }

pub returns-in_err-take_one : goal.returns-in_err-take_one
returns-in_err-take_one c = let q = err_from_is_err_and c.from_residual.result c.from_residual.ensures.1 in (c.in_err-take_one.ensures.0 ∙ c.loop-n.invariant.0, λ s. let t = c.loop-n.invariant.1 s in rw (q.1, q.2) (turn_stops s.T s.grammar.fits s.start s.room s.Rs _ (rw s.many at c.requires.k_lt_found.0) _ _ _ _ _ _ _ _ _ _ _ t s.nonterminals_are s.grammar.tokens (tried_nonterminal _ _ c.loop-n-test.true) (omega (arith, c.loop-n-test.true)) _ _ _ _ _ _ (c.in_err-take_one.ensures.1 (search_on _ _ _ _ _ _ _ s t.Qs t.many t.holds))))

pub loop-n-preserved : goal.loop-n-preserved
loop-n-preserved c = (c.in_ok-take_one.ensures.0 ∙ c.loop-n.invariant.0, λ s. let t = c.loop-n.invariant.1 s in turn_more s.T s.grammar.fits s.start s.room s.Rs _ (rw s.many at c.requires.k_lt_found.0) _ _ _ _ _ _ _ _ _ _ _ t s.nonterminals_are s.grammar.tokens (tried_nonterminal _ _ c.loop-n-test.true) (omega (arith, c.loop-n-test.true)) _ _ _ _ _ _ (c.in_ok-take_one.ensures.1 (search_on _ _ _ _ _ _ _ s t.Qs t.many t.holds)) (rw c.loop-n.edges.long (omega (arith, t.high, c.loop-n-test.true, c.requires.k_lt_found.2, s.nonterminals_are, s.grammar.fits.few_nonterminals))))

pub loop-terminal-init : goal.loop-terminal-init
loop-terminal-init c = (c.loop-n.invariant.0, λ s. turn_on (omega (arith, c.loop-n.auto.n-end, c.loop-n-test.false)) (c.loop-n.invariant.1 s))

pub take_one-requires-in-loop-terminal : goal.take_one-requires-in-loop-terminal
take_one-requires-in-loop-terminal c = let s = c.requires.search in let t = c.loop-terminal.invariant.1 c.requires.search in record { search = search_on _ _ _ _ _ _ _ c.requires.search t.Qs t.many t.holds; k_lt_states = (omega (arith, c.requires.k_lt_found.0, s.many, t.keeps.long, t.many), tried_fits s.T s.grammar.fits _ _ s.nonterminals_are s.grammar.tokens _ _ (tried_terminal _ _) (omega (arith, c.loop-terminal-test.true)), rw c.loop-terminal.invariant.0 c.requires.k_lt_found.1, omega (arith, t.high, c.loop-terminal-test.true, c.requires.k_lt_found.2, s.nonterminals_are, s.grammar.fits.few_nonterminals, s.grammar.tokens, s.grammar.fits.few_terminals)) }

pub returns-in_err-take_one-2 : goal.returns-in_err-take_one-2
returns-in_err-take_one-2 c = let q = err_from_is_err_and c.from_residual-in_err-take_one-2.result c.from_residual-in_err-take_one-2.ensures.1 in (c.in_err-take_one-2.ensures.0 ∙ c.loop-terminal.invariant.0, λ s. let t = c.loop-terminal.invariant.1 s in rw (q.1, q.2) (turn_stops s.T s.grammar.fits s.start s.room s.Rs _ (rw s.many at c.requires.k_lt_found.0) _ _ _ _ _ _ _ _ _ _ _ t s.nonterminals_are s.grammar.tokens (tried_terminal _ _) (omega (arith, c.loop-terminal-test.true)) _ _ _ _ _ _ (c.in_err-take_one-2.ensures.1 (search_on _ _ _ _ _ _ _ s t.Qs t.many t.holds))))

pub loop-terminal-preserved : goal.loop-terminal-preserved
loop-terminal-preserved c = (c.in_ok-take_one-2.ensures.0 ∙ c.loop-terminal.invariant.0, λ s. let t = c.loop-terminal.invariant.1 s in turn_on (omega arith) (turn_more s.T s.grammar.fits s.start s.room s.Rs _ (rw s.many at c.requires.k_lt_found.0) _ _ _ _ _ _ _ _ _ _ _ t s.nonterminals_are s.grammar.tokens (tried_terminal _ _) (omega (arith, c.loop-terminal-test.true)) _ _ _ _ _ _ (c.in_ok-take_one-2.ensures.1 (search_on _ _ _ _ _ _ _ s t.Qs t.many t.holds)) (rw c.loop-terminal.edges.long (omega (arith, t.high, c.loop-terminal-test.true, c.requires.k_lt_found.2, s.nonterminals_are, s.grammar.fits.few_nonterminals, s.grammar.tokens, s.grammar.fits.few_terminals)))))

pub returns : goal.returns
returns c = (c.loop-terminal.invariant.0, λ s. turn_end tt s.T s.grammar.fits _ _ _ _ _ _ _ _ _ _ _ _ _ _ (c.loop-terminal.invariant.1 s) s.nonterminals_are s.grammar.tokens (omega (arith, c.loop-terminal.auto.terminal-end)) (omega (arith, c.loop-terminal-test.false)))
