use Rattle.std.proofs.Common.{◌≡◌, List, take, map, All, vec_len}
use Rattle.grammar.specs.Symbols.{SymbolFits}
use Rattle.yacc_file.specs.declared.file.Item.{Item}
use Rattle.yacc_grammar.specs.Symbols.{symbol_of}
use Rattle.yacc_grammar.proofs.table.Table.symbols_of.Given as goal

abbrev pub invariant-loop-item : goal.invariant-loop-item
invariant-loop-item l = record {
  symbols : l.symbols.items ≡ map (λ (item : Item). symbol_of l.self.symbols.items item.name.id) (take l.item-index l.items);
  fit : All (SymbolFits (vec_len l.self.grammar.terminals) (vec_len l.self.grammar.nonterminals)) l.symbols.items;
}
