use mathlib.Core.Path.{sym, ◌∙◌}
use Rattle.conflicts.proofs.judgement.Ways.{optional-more, optional_one_lem, optional-some}
use Rattle.conflicts.proofs.judgement.optional.Goals.{else-length-eq0-via-then-length-eq0+else-length-eq1, else-length-eq0-via-else-length-eq0}
use Rattle.conflicts.proofs.judgement.optional.Goals as goal

pub symbol-requires : goal.symbol-requires
symbol-requires c = record { within = c.requires.1; index_in_bounds = omega (native.Mathlib.Omega.arith, sym c.length-then-length-eq0.ensures.is ∙ c.if-length-eq1.true) }

pub returns-then-length-eq1 : goal.returns-then-length-eq1
returns-then-length-eq1 c = optional_one_lem _ _ _ c.requires.0 _ c.requires.1 (sym c.length.ensures.is ∙ c.if-length-eq0.true) (sym c.length-then-length-eq0.ensures.is ∙ c.if-length-eq1.true) _ c.symbol.ensures.is

pub returns-else-length-eq0 : goal.returns-else-length-eq0
returns-else-length-eq0 c = elim c.else-length-eq0.branch [
  | else-length-eq0-via-then-length-eq0+else-length-eq1 w ↦ optional-more _ _ _ c.requires.0 _ c.requires.1 (λ e. w.if-length-eq1.false (w.length-then-length-eq0.ensures.is ∙ e))
  | else-length-eq0-via-else-length-eq0 w ↦ optional-some _ _ _ c.requires.0 _ c.requires.1 (λ e. w.if-length-eq0.false (c.length.ensures.is ∙ e))
]
