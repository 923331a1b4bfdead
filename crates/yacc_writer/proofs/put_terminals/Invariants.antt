use Rattle.lr1_base.specs.repr.Meaning.{terminal}
use Rattle.yacc_writer.specs.Wrote.{name_bytes}
use Rattle.yacc_writer.proofs.Turns.{Numbered}
use Rattle.yacc_writer.proofs.put_terminals.Given as goal

abbrev pub invariant-loop-t : goal.invariant-loop-t
invariant-loop-t l = Numbered (λ k. name_bytes (terminal k)) 4 l.initial.text l.at l.n l.text l.place l.t
