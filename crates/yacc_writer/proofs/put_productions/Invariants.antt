use Rattle.lr1_base.specs.repr.Packed.{production_in}
use Rattle.yacc_writer.specs.Wrote.{production_bytes}
use Rattle.yacc_writer.proofs.Turns.{Numbered}
use Rattle.yacc_writer.proofs.put_productions.Given as goal

abbrev pub invariant-loop-p : goal.invariant-loop-p
invariant-loop-p l = Numbered (λ k. production_bytes (production_in l.grammar.words.now k)) 72 l.initial.text l.at l.grammar.productions l.text l.place l.p
