use Rattle.enumerator.proofs.advance.Asking.{begun_fresh, begun_on}
use native.Mathlib.Omega.{arith}
use Rattle.enumerator.proofs.advance.begin.Goals as goal

pub returns-then-count-eq0 : goal.returns-then-count-eq0
returns-then-count-eq0 c = begun_fresh _ _ _ (omega (arith, c.if-count-eq0.true)) c.clear.ensures

pub returns-else-count-eq0 : goal.returns-else-count-eq0
returns-else-count-eq0 c = begun_on _ _ (λ z. c.if-count-eq0.false (omega (arith, z)))
