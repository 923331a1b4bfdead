use mathlib.Core.Path.{sym}
use Rattle.first.proofs.Answers.{join_more, join-stop}
use Rattle.first.proofs.Answer.join.Goals as goal

pub returns-then-self : goal.returns-then-self
returns-then-self c = join_more _ _ _ c.if-self.true c.union.ensures.is

pub returns : goal.returns
returns c = sym (join-stop _ _ c.if-self.false)
