use Rattle.std.proofs.Common.{All, take}
use Rattle.yacc_grammar.specs.GrammarOf.{AlternativeIsNamed}
use Rattle.yacc_grammar.proofs.naming.rule_is_named.Given as goal

abbrev pub invariant-loop-alternative : goal.invariant-loop-alternative
invariant-loop-alternative l = All (AlternativeIsNamed l.file l.table.symbols.items l.witness.owners.items l.table.grammar) (take l.alternative-index l.rule.alternatives.items)
