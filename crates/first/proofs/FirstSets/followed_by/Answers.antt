use mathlib.Core.Path.{sym, ap, ◌∙◌}
use Rattle.first.specs.First.{join_answers}
use Rattle.first.proofs.Answers.{join-stop}
use Rattle.first.proofs.FirstSets.followed_by.Goals as goal

pub returns-then-answer : goal.returns-then-answer
returns-then-answer c = c.join.ensures ∙ ap (join_answers _) c.first0.ensures

pub returns : goal.returns
returns c = sym (join-stop _ _ c.if-answer.false)
