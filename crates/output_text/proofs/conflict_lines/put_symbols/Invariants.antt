use Rattle.output_text.proofs.conflict_lines.Texts.{Parts, symbol_of}
use Rattle.output_text.proofs.conflict_lines.put_symbols.Given as goal

abbrev pub invariant-loop-kind : goal.invariant-loop-kind
invariant-loop-kind l = Parts symbol_of 42 l.initial.out l.at l.symbols l.out l.place l.kind-index
