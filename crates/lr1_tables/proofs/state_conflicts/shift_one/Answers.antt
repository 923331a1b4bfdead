use Rattle.lr1_base.specs.lookahead.Tokens.{has}
use Rattle.lr1_tables.proofs.state_conflicts.Shifts.{shift_none, shift_nonterminal, shift_end, shift_terminal}
use Rattle.lr1_tables.proofs.state_conflicts.shift_one.Goals as goal

pub returns-then-tokens-eq0 : goal.returns-then-tokens-eq0
returns-then-tokens-eq0 c = λ t. shift_none _ _ _ t c.if-tokens-eq0.true _

pub returns-in-Some-Terminal : goal.returns-in-Some-Terminal
returns-in-Some-Terminal c = let q = rw (c.at.ensures.0, c.at.ensures.1, c.in-Some-Terminal.field-0-is) at c.in-Some-Terminal.ensures in
    λ t. shift_terminal _ _ _ t _ _ q.0 q.1 c.if-tokens-eq0.false (has c.args.set.0 t) _ (c.with.ensures.members t)

pub returns-in-Some-Nonterminal : goal.returns-in-Some-Nonterminal
returns-in-Some-Nonterminal c = let q = rw (c.at.ensures.0, c.at.ensures.1, c.in-Some-Nonterminal.field-0-is) at c.in-Some-Nonterminal.ensures in
    λ t. shift_nonterminal _ _ _ t _ _ q.0 q.1 _

pub returns-in-None : goal.returns-in-None
returns-in-None c = λ t. shift_end _ _ _ t (rw (c.at.ensures.0, c.at.ensures.1) at c.in-None.ensures) _
