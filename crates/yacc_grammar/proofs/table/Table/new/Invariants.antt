use Rattle.std.proofs.Common.{All, vec_len}
use Rattle.yacc_grammar.specs.Symbols.{EntryFits}
use Rattle.yacc_grammar.proofs.table.Table.new.Given as goal

abbrev pub invariant-loop-name : goal.invariant-loop-name
invariant-loop-name l = All (EntryFits (vec_len l.grammar.terminals) (vec_len l.grammar.nonterminals)) l.symbols.items
