use Rattle.std.proofs.Common.{All, take}
use Rattle.yacc_grammar.specs.GrammarOf.{RuleIsNamed}
use Rattle.yacc_grammar.proofs.naming.are_named.Given as goal

abbrev pub invariant-loop-rule : goal.invariant-loop-rule
invariant-loop-rule l = All (RuleIsNamed l.file l.table.symbols.items l.witness.owners.items l.table.grammar) (take l.rule-index l.file.rules.items)
