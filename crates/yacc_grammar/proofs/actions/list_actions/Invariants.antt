use Rattle.std.proofs.Common.{◌≡◌, take}
use Rattle.yacc_grammar.specs.Symbols.{actions_of}
use Rattle.yacc_grammar.proofs.actions.list_actions.Given as goal

abbrev pub invariant-loop-rule : goal.invariant-loop-rule
invariant-loop-rule l = l.actions.items ≡ actions_of (take l.rule-index l.rules)
