use Rattle.std.proofs.Common.{arith}
use Rattle.output_text.proofs.table_text.Texts.{by_nonterminal_lem, by_terminal_lem}
use Rattle.output_text.proofs.table_text.put_by.Goals as goal

pub returns-in-0 : goal.returns-in-0
returns-in-0 c = (by_nonterminal_lem _ _ c.in-0.is c.put_named.ensures.0, c.put_named.ensures.1)

pub returns-in_default : goal.returns-in_default
returns-in_default c = (by_terminal_lem _ _ (λ e. absurd (omega arith)) c.put_named-in_default.ensures.0, c.put_named-in_default.ensures.1)
