use Rattle.std.proofs.Common.{◌≡◌, ◌<◌, ◌++◌, take, vec_len}
use Rattle.grammar.specs.declared.symbol.Symbol.TheVariants.{Nonterminal}
use Rattle.yacc_grammar.specs.Symbols.{forms_of, forms_under}
use Rattle.yacc_grammar.proofs.produce.add_alternatives.Given as goal

abbrev pub invariant-loop-alternative : goal.invariant-loop-alternative
invariant-loop-alternative l = record {
  forms : forms_of l.table.grammar.productions.items
      ≡ forms_of l.fn.table.grammar.productions.items ++ forms_under l.fn.table.symbols.items (take l.alternative-index l.alternatives) (Nonterminal l.left);
  symbols : l.table.symbols ≡ l.fn.table.symbols;
  left : l.left < vec_len l.table.grammar.nonterminals;
}
