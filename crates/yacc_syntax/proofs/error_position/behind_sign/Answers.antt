use mathlib.Core.Path.{refl}
use mathlib.Core.List.{[]}
use Rattle.yacc_syntax.specs.lexer.Steps.{token_at}
use Rattle.yacc_syntax.specs.error_position.Automaton.{step_signed}
use Rattle.yacc_syntax.proofs.error_position.Numbers.{by_sign}
use Rattle.yacc_syntax.proofs.error_position.behind_sign.Goals as goal

pub returns-in-116 : goal.returns-in-116
unfolding step_signed token_at
returns-in-116 c = by_sign _ _ 116 _ c.in-116.is (record { mode_is = c.moved.ensures [] 0 0; part_is = refl })

pub returns-in-115 : goal.returns-in-115
unfolding step_signed token_at
returns-in-115 c = by_sign _ _ 115 _ c.in-115.is (record { mode_is = c.moved-in-115.ensures [] 0 0; part_is = refl })
