use mathlib.Core.Path.{◌∙◌}
use Rattle.yacc_reader.proofs.name_errors.Laws.{found_known, none_known, start_word, define_word, use_word}
use Rattle.yacc_reader.proofs.name_errors.Fault.{fault-opens, fault-defines, fault-uses, fault-other}
use Rattle.yacc_reader.proofs.name_errors.is_fault.Goals as goal

pub returns-in-Opens : goal.returns-in-Opens
returns-in-Opens c = λ S H. fault-opens S _ _ _ _ _ _ c.args.token.says c.in-Opens.is _ (none_known _ _ _ _ (c.left.ensures (start_word _ _ _ c.args.token.says c.in-Opens.is) _ _ H) c.is_none.ensures)

pub returns-in-Defines : goal.returns-in-Defines
returns-in-Defines c = λ S H. fault-defines S _ _ _ _ _ _ c.args.token.says c.in-Defines.is _ (c.is_some.ensures ∙ found_known _ _ _ (c.token.ensures (define_word _ _ _ c.args.token.says c.in-Defines.is) _ _ H))

pub returns-in-Uses : goal.returns-in-Uses
returns-in-Uses c = λ S H. fault-uses S _ _ _ _ _ _ c.args.token.says c.in-Uses.is _ (c.is_nowhere.ensures (use_word _ _ _ c.args.token.says c.in-Uses.is) S H)

pub returns-in_default : goal.returns-in_default
returns-in_default c = λ S H. fault-other S _ _ _ _ _ _ c.args.token.says c.in_default.not-Opens c.in_default.not-Defines c.in_default.not-Uses
