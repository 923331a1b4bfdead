use mathlib.Core.Path.{◌∙◌}
use borrow.Author.Tests.{le-leb}
use Rattle.yacc_syntax.proofs.lexer.Runs.{stops_end, stops-byte}
use Rattle.yacc_syntax.proofs.lexer.stops_at.Goals as goal

pub returns-then-text-at : goal.returns-then-text-at
returns-then-text-at c = le-leb _ _ c.if-text-at.true ∙ stops_end _ _ c.if-text-at.true

pub returns-else-text-at : goal.returns-else-text-at
returns-else-text-at c = stops-byte _ _ _ c.if-text-at.false c.goes_on.ensures
