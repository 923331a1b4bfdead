use Rattle.lr1_base.specs.repr.Packed.{productions_in}
use Rattle.trace.proofs.edge_codes.Least.{Filling}
use Rattle.trace.proofs.edge_codes.least_productions.Given as goal

abbrev pub invariant-loop-p : goal.invariant-loop-p
invariant-loop-p l = Filling (productions_in l.grammar.words.now l.grammar.productions) l.least l.p
