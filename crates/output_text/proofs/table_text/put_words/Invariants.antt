use Rattle.output_text.proofs.table_text.Texts.{Numbers}
use Rattle.output_text.proofs.table_text.put_words.Given as goal

abbrev pub invariant-loop-number : goal.invariant-loop-number
invariant-loop-number l = Numbers l.initial.out l.at l.words l.out l.place l.number-index
