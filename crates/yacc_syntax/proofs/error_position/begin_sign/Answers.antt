use native.Mathlib.Omega.{arith}
use mathlib.Core.Path.{refl, ap}
use mathlib.Core.List.{[]}
use Rattle.yacc_syntax.specs.text.Grammar.{quote, percent, slash, colons, bars, semis, other, is_white_byte, is_letter_byte, kind_of}
use Rattle.yacc_syntax.specs.lexer.Steps.{token_at}
use Rattle.yacc_syntax.proofs.lexer.Bytes.{kind_other}
use Rattle.yacc_syntax.specs.error_position.Automaton.{step_kind}
use Rattle.yacc_syntax.proofs.error_position.Numbers.{by_kind}
use Rattle.yacc_syntax.proofs.error_position.begin_sign.Goals as goal
use Rattle.lr1_base.specs.numerals.Numeral.{is_digit_byte}

pub returns-in-39 : goal.returns-in-39
unfolding step_kind token_at kind_of is_white_byte is_letter_byte is_digit_byte
returns-in-39 c = by_kind _ c.args.b _ quote (ap kind_of c.in-39.is) (record { mode_is = c.moved.ensures [] 0 0; part_is = refl })

pub returns-in-37 : goal.returns-in-37
unfolding step_kind kind_of is_white_byte is_letter_byte is_digit_byte
returns-in-37 c = by_kind _ c.args.b _ percent (ap kind_of c.in-37.is) (record { mode_is = c.signed.ensures; part_is = refl })

pub returns-in-47 : goal.returns-in-47
unfolding step_kind kind_of is_white_byte is_letter_byte is_digit_byte
returns-in-47 c = by_kind _ c.args.b _ slash (ap kind_of c.in-47.is) (record { mode_is = refl; part_is = refl })

pub returns-in-58 : goal.returns-in-58
unfolding step_kind token_at kind_of is_white_byte is_letter_byte is_digit_byte
returns-in-58 c = by_kind _ c.args.b _ colons (ap kind_of c.in-58.is) (record { mode_is = c.moved-in-58.ensures [] 0 0; part_is = refl })

pub returns-in-124 : goal.returns-in-124
unfolding step_kind token_at kind_of is_white_byte is_letter_byte is_digit_byte
returns-in-124 c = by_kind _ c.args.b _ bars (ap kind_of c.in-124.is) (record { mode_is = c.moved-in-124.ensures [] 0 0; part_is = refl })

pub returns-in-59 : goal.returns-in-59
unfolding step_kind token_at kind_of is_white_byte is_letter_byte is_digit_byte
returns-in-59 c = by_kind _ c.args.b _ semis (ap kind_of c.in-59.is) (record { mode_is = c.moved-in-59.ensures [] 0 0; part_is = refl })

pub returns-in_default : goal.returns-in_default
unfolding step_kind
returns-in_default c = by_kind _ c.args.b _ other (kind_other _ c.requires.0 c.requires.1 c.requires.2 (λ e. omega arith) (λ e. omega arith) (λ e. omega arith) (λ e. omega arith) (λ e. omega arith) (λ e. omega arith)) c.lost.ensures
