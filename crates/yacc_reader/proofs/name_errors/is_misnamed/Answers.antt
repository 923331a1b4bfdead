use mathlib.Core.Path.{◌∙◌}
use Rattle.yacc_reader.proofs.name_errors.Closed.{fault_told}
use Rattle.yacc_reader.proofs.name_errors.Parts.{parts_told}
use Rattle.yacc_reader.proofs.name_errors.is_misnamed.Goals as goal

pub returns-clause-misnamed : goal.returns-clause-misnamed
returns-clause-misnamed c = λ l p. c.is_some.ensures ∙ fault_told _ l p _ (c.fault_place.ensures.first l p)

pub returns-clause-parts : goal.returns-clause-parts
returns-clause-parts c = λ l p. c.is_some.ensures ∙ fault_told _ l p _ (c.fault_place.ensures.first l p) ∙ parts_told _ _ _ _ _ _ _ l p (c.args.symbols.now.named.held l p)
