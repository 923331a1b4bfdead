use Rattle.std.proofs.Common.{◌≡◌, ◌++◌, take}
use Rattle.yacc_grammar.specs.Symbols.{forms_of, forms_of_rules}
use Rattle.yacc_grammar.proofs.produce.add_rules.Given as goal

abbrev pub invariant-loop-rule : goal.invariant-loop-rule
invariant-loop-rule l = record {
  forms : forms_of l.table.grammar.productions.items ≡ forms_of l.fn.table.grammar.productions.items ++ forms_of_rules l.fn.table.symbols.items (take l.rule-index l.file.rules.items);
  symbols : l.table.symbols ≡ l.fn.table.symbols;
}
