use mathlib.Core.Path.{sym, ap, ◌∙◌}
use mathlib.Core.Bool.{Bool, ◌&&◌}
use Rattle.yacc_reader.proofs.name_errors.Laws.{none_known, nowhere_by, nowhere_no}
use Rattle.yacc_reader.proofs.name_errors.is_nowhere.Goals as goal

pub returns-then-is_none : goal.returns-then-is_none
returns-then-is_none c = λ i S H.
    sym (ap (λ (b : Bool). b && c.is_none-then-is_none.result) c.if-is_none.true)
    ∙ nowhere_by S _ _ _ (none_known _ _ _ _ (c.left.ensures i _ _ H) c.is_none.ensures) (none_known _ _ _ _ (c.token.ensures i _ _ H) c.is_none-then-is_none.ensures)

pub returns-else-is_none : goal.returns-else-is_none
returns-else-is_none c = λ i S H. c.if-is_none.false ∙ nowhere_no S _ (sym c.if-is_none.false ∙ none_known _ _ _ _ (c.left.ensures i _ _ H) c.is_none.ensures)
