use Rattle.std.proofs.Common.{All, take}
use Rattle.yacc_grammar.specs.GrammarOf.{ItemIsNamed}
use Rattle.yacc_grammar.proofs.naming.alternative_is_named.Given as goal

abbrev pub invariant-loop-item : goal.invariant-loop-item
invariant-loop-item l = All (ItemIsNamed l.file l.table.symbols.items l.witness.owners.items l.table.grammar) (take l.item-index l.alternative.items.items)
