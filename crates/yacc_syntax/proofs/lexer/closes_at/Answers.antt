use mathlib.Core.Path.{◌∙◌}
use Rattle.yacc_syntax.proofs.lexer.Runs.{closes_star, closes_other}
use Rattle.yacc_syntax.proofs.lexer.closes_at.Goals as goal

pub returns-then-text-at-eq42 : goal.returns-then-text-at-eq42
returns-then-text-at-eq42 c = c.has_word.ensures ∙ closes_star _ _ c.if-text-at-eq42.true

pub returns-else-text-at-eq42 : goal.returns-else-text-at-eq42
returns-else-text-at-eq42 c = closes_other _ _ c.if-text-at-eq42.false
