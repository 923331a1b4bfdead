use Rattle.yacc_reader.proofs.name_errors.Laws.{use_word, define_word}
use Rattle.yacc_reader.proofs.productions.Laws.{zero_body, quiet_other, turn_quiet, turn_defines, turn_uses, turn_shuts}
use native.Mathlib.Omega.{arith}
use Rattle.yacc_reader.proofs.productions.step.Goals as goal

pub left_number-requires : goal.left_number-requires
left_number-requires c = c.requires.inside.0

pub symbol-read-requires : goal.symbol-read-requires
symbol-read-requires c = c.requires.inside.0

pub add-requires : goal.add-requires
add-requires c = let i = c.requires.inside.0 in
    let l = c.requires.inside.1 in record { long = c.requires.long; small = c.requires.small; past_bound = omega (arith, i, l) }

pub close-requires : goal.close-requires
close-requires c = let w = c.args.token.lexeme.wide in
    let i = c.requires.inside.0 in
    let l = c.requires.inside.1 in record { long = c.requires.long; small = c.requires.small; at_bound = omega (arith, w, i, l) }

pub returns-in-Defines : goal.returns-in-Defines
returns-in-Defines c = let B = c.requires.small in rw (zero_body c.default.result c.default.ensures) (record { small = record { production = B.production; owner = c.left_number.ensures.0; symbols = omega arith; span = tt }; turn = λ S H W m at n L e q T. turn_defines S _ _ _ m at T _ _ _ _ n L e q c.in-Defines.is _ (c.left_number.ensures.1 (define_word _ _ _ e c.in-Defines.is) _ _ H) })

pub returns-in-Uses : goal.returns-in-Uses
returns-in-Uses c = record { small = c.add.ensures.0; turn = λ S H W m at n L e q T. turn_uses S _ _ _ m at T _ _ _ _ n L e q c.in-Uses.is W c.requires.long _ (c.symbol-read.ensures (use_word _ _ _ e c.in-Uses.is) S H) _ _ c.add.ensures.1 }

pub returns-in-Shuts : goal.returns-in-Shuts
returns-in-Shuts c = record { small = c.close.ensures.0; turn = λ S H W m at n L e q T. turn_shuts S _ _ _ m at T _ _ _ _ n L e q c.in-Shuts.is W c.requires.long _ _ c.close.ensures.1 }

pub returns-in_default : goal.returns-in_default
returns-in_default c = record { small = c.requires.small; turn = λ S H W m at n L e q T. turn_quiet S _ _ _ m at T _ _ _ _ n L e q (quiet_other _ c.in_default.not-Defines c.in_default.not-Uses c.in_default.not-Shuts) }
