use Rattle.std.proofs.Common.{◌≡◌, ◌++◌, take}
use Rattle.yacc_grammar.specs.Symbols.{forms_of, forms_of_actions}
use Rattle.yacc_grammar.proofs.produce.add_actions.Given as goal

abbrev pub invariant-loop-item : goal.invariant-loop-item
invariant-loop-item l = record {
  forms : forms_of l.table.grammar.productions.items
      ≡ forms_of l.fn.table.grammar.productions.items ++ forms_of_actions l.fn.table.symbols.items (take l.item-index l.items);
  symbols : l.table.symbols ≡ l.fn.table.symbols;
}
