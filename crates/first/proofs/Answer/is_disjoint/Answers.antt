use Rattle.first.proofs.Walk.{disjoint_no, disjoint_one, disjoint_yes}
use Rattle.first.proofs.Answer.is_disjoint.Goals as goal
use Rattle.first.proofs.Answer.is_disjoint.Goals.{then-self, else-self}

pub returns-after-self : goal.returns-after-self
returns-after-self c = elim c.if-self.branch [
  | then-self w ↦ disjoint_one _ _ _ c.is_disjoint.ensures.0 c.if-is_disjoint.true w.if-self.true _ w.result-is
  | else-self w ↦ disjoint_yes _ _ _ c.is_disjoint.ensures.0 c.if-is_disjoint.true w.if-self.false _ w.result-is
]

pub returns-else-is_disjoint : goal.returns-else-is_disjoint
returns-else-is_disjoint c = disjoint_no _ _ _ c.is_disjoint.ensures.0 c.if-is_disjoint.false
