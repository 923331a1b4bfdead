use mathlib.Core.Path.{◌∙◌}
use Rattle.conflicts.proofs.judgement.Judging.with_heads.Goals as goal

pub returns : goal.returns
returns c = c.with_both.ensures ∙ rw (c.word-x.ensures.0, c.word-y.ensures.0)
