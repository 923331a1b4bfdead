use Rattle.std.proofs.Common.{◌≡◌, ◌++◌, take}
use Rattle.std.specs.List.{flat_map}
use Rattle.yacc_grammar.specs.Symbols.{alternative_actions}
use Rattle.yacc_grammar.proofs.actions.push_rule.Given as goal

abbrev pub invariant-loop-alternative : goal.invariant-loop-alternative
invariant-loop-alternative l = l.actions.items ≡ l.fn.actions.items ++ flat_map alternative_actions (take l.alternative-index l.rule.alternatives.items)
