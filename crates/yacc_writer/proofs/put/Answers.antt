use mathlib.Core.Path.{refl}
use Rattle.yacc_writer.proofs.Laws.{wrote-out}
use Rattle.yacc_writer.proofs.put.Goals as goal
use Rattle.yacc_writer.proofs.put.Goals.{then-at-text, else-at-text}

pub returns : goal.returns
returns c = elim c.if-at-text.branch [
  | then-at-text w ↦ record { is = w.text-is; place = refl }
  | else-at-text w ↦ rw w.text-is (wrote-out _ _ _ w.if-at-text.false)
]
