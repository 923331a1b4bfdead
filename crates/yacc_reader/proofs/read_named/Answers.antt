use mathlib.Core.Path.{sym, ◌∙◌}
use Rattle.yacc_reader.proofs.Laws.{named-bad, named_good}
use Rattle.yacc_reader.proofs.read_named.Goals as goal

pub returns-then-is_misnamed : goal.returns-then-is_misnamed
returns-then-is_misnamed c = λ l p. named-bad _ _ _ (sym c.if-is_misnamed.true ∙ c.is_misnamed.ensures.misnamed l p)

pub read_counted-requires : goal.read_counted-requires
read_counted-requires c = record { short = c.requires; pieces_value = λ l p. sym (c.is_misnamed.ensures.misnamed l p) ∙ c.if-is_misnamed.false }

pub returns : goal.returns
returns c = λ l p. c.read_counted.ensures l p ∙ named_good _ _ _ (sym (c.is_misnamed.ensures.misnamed l p) ∙ c.if-is_misnamed.false)
