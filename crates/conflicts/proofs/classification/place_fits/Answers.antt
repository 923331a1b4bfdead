use Rattle.std.proofs.Common.{le-ltb, ne_eqb, sym, eqb-true, ◌∙◌}
use borrow.Author.Tests.{eqb-false}
use Rattle.conflicts.proofs.classification.Ways.{place_state, place-production, place-shift, place-reduce, place-other}
use native.Mathlib.Omega.{arith}
use Rattle.conflicts.proofs.classification.place_fits.Goals as goal

pub returns-else-state-counts : goal.returns-else-state-counts
returns-else-state-counts c = le-ltb _ _ (omega (arith, c.if-state-counts.false)) ∙ place_state _ _ _ _ _ c.counts-counts.ensures _ (omega (arith, c.if-state-counts.false))

pub returns-else-production-counts : goal.returns-else-production-counts
returns-else-production-counts c = le-ltb _ _ (omega (arith, c.if-production-counts.false)) ∙ place-production _ _ _ _ _ c.counts-counts.ensures _ (omega (arith, c.if-state-counts.true)) (omega (arith, c.if-production-counts.false))

pub returns-then-is_shift : goal.returns-then-is_shift
returns-then-is_shift c = place-shift _ _ _ _ _ c.counts-counts.ensures _ (omega (arith, c.if-state-counts.true)) (omega (arith, c.if-production-counts.true)) (eqb-true _ _ (sym c.is_shift.ensures ∙ c.if-is_shift.true))

pub returns-then-conflict-eq1 : goal.returns-then-conflict-eq1
returns-then-conflict-eq1 c = place-reduce _ _ _ _ _ c.counts-counts.ensures _ (omega (arith, c.if-state-counts.true)) (omega (arith, c.if-production-counts.true)) c.if-conflict-eq1.true

pub returns-else-conflict-eq1 : goal.returns-else-conflict-eq1
returns-else-conflict-eq1 c = ne_eqb _ _ c.if-conflict-eq1.false ∙ place-other _ _ _ _ _ c.counts-counts.ensures _ (omega (arith, c.if-state-counts.true)) (omega (arith, c.if-production-counts.true)) (eqb-false _ _ (sym c.is_shift.ensures ∙ c.if-is_shift.false)) c.if-conflict-eq1.false
