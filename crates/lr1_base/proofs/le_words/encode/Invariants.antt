use Rattle.lr1_base.proofs.le_words.Laws.{Spread}
use Rattle.lr1_base.proofs.le_words.encode.Given as goal

abbrev pub invariant-loop-i : goal.invariant-loop-i
invariant-loop-i l = Spread l.words l.initial.out l.out l.i
