use mathlib.Core.Path.{◌∙◌}
use Rattle.first.proofs.Walk.{meets-token, meets_end, meets-not}
use Rattle.first.proofs.Answer.meets.Goals as goal

pub returns-then-is_intersecting : goal.returns-then-is_intersecting
returns-then-is_intersecting c = c.if-is_intersecting.true ∙ meets-token _ _ _ _ c.is_intersecting.ensures c.if-is_intersecting.true

pub returns-then-self : goal.returns-then-self
returns-then-self c = meets_end _ _ _ _ c.is_intersecting.ensures c.if-is_intersecting.false c.if-self.true _ c.contains_eof.ensures

pub returns-else-self : goal.returns-else-self
returns-else-self c = c.if-self.false ∙ meets-not _ _ _ _ c.is_intersecting.ensures c.if-is_intersecting.false c.if-self.false
