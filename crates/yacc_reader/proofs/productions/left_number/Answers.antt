use mathlib.Core.Path.{◌∙◌}
use native.Mathlib.Omega.{arith}
use Rattle.yacc_reader.proofs.productions.Laws.{known_number}
use Rattle.yacc_reader.proofs.productions.left_number.Goals as goal

pub returns : goal.returns
returns c = (omega (arith, c.from.ensures, c.unwrap_or.type_inv), λ i ns ts H y. c.from.ensures ∙ c.unwrap_or.ensures ∙ known_number _ _ _ (c.left.ensures i ns ts H) y)
