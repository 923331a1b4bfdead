use Rattle.lr1_base.specs.repr.Listed.{listed}
use Rattle.yacc_writer.proofs.Turns.{Symbols}
use Rattle.yacc_writer.proofs.put_symbols.Given as goal

abbrev pub invariant-loop-symbol : goal.invariant-loop-symbol
invariant-loop-symbol l = Symbols l.initial.text l.at (listed l.words) l.text l.place (listed l.symbol-iterator.words.now)
