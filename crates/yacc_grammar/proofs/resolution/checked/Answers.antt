use Rattle.std.proofs.Common.{◌∙◌}
use Rattle.yacc_grammar.proofs.resolution.checked.Goals as goal

pub returns-in_ok-check-in-Some-clause-grammar : goal.returns-in_ok-check-in-Some-clause-grammar
returns-in_ok-check-in-Some-clause-grammar c x e = c.in_ok-table.ensures.grammar x (c.in-Some.is ∙ e)
