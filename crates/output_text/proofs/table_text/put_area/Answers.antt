use Rattle.std.proofs.Common.{arith}
use Rattle.output_text.proofs.table_text.Texts.{area-counts, area-nonterminal, area_state, area-production}
use Rattle.output_text.proofs.table_text.put_area.Goals as goal

pub returns-in-0 : goal.returns-in-0
returns-in-0 c = (area-counts _ _ c.in-0.is c.put_text.ensures, omega (arith, c.put_text.ensures.place))

pub returns-in_default : goal.returns-in_default
returns-in_default c = (area-nonterminal _ _ (λ e. absurd (omega arith)) (omega (arith, c.if-r-a.true, c.args.s.of.states_at)) c.put_named.ensures.0, omega (arith, c.put_named.ensures.1))

pub returns-in_default-2 : goal.returns-in_default-2
returns-in_default-2 c = (area_state _ _ _ (λ e. absurd (omega arith)) c.args.s.of.states_at (omega (arith, c.if-r-a.false, c.args.s.of.states_at)) (omega (arith, c.if-r-a-2.true, c.args.s.of.productions_at)) c.put_named-in_default-2.ensures.0, omega (arith, c.put_named-in_default-2.ensures.1))

pub returns-in_default-3 : goal.returns-in_default-3
returns-in_default-3 c = (area-production _ _ _ (λ e. absurd (omega arith)) c.args.s.of.productions_at (omega (arith, c.if-r-a.false, c.args.s.of.states_at)) (omega (arith, c.if-r-a-2.false, c.args.s.of.productions_at)) c.put_named-in_default-3.ensures.0, omega (arith, c.put_named-in_default-3.ensures.1))
