use mathlib.Core.Path.{refl}
use native.Mathlib.Omega.{arith}
use Rattle.listing.proofs.Whole.{opening_refused, list_refused_lower, opening_refused_lower, list_refused, calls-made}
use Rattle.listing.proofs.examples.Goals as goal

pub returns-then-number : goal.returns-then-number
returns-then-number c = let F = rw c.in-Err-Err.is-1 at c.check_calls-fits.ensures.refused in
    rw F.1 (list_refused_lower _ _ _ _ _ _ _ _ F.0 _ _ c.in-Err-Err.ensures (λ z. omega (arith, z, F.2)) (omega (arith, c.number.ensures, c.number-in-Err-Err.ensures, c.if-number.true)))

pub returns-else-number : goal.returns-else-number
returns-else-number c = let F = rw c.in-Err-Err.is-1 at c.check_calls-fits.ensures.refused in
    opening_refused_lower _ _ _ _ _ _ _ _ F.0 _ _ c.in-Err-Err.ensures (λ z. omega (arith, z, F.2)) (omega (arith, c.number.ensures, c.number-in-Err-Err.ensures, c.if-number.false))

pub returns-in-Err-Ok : goal.returns-in-Err-Ok
returns-in-Err-Ok c = let Z = rw c.in-Err-Ok.is-1 at c.check_calls-fits.ensures.fits in
    opening_refused _ _ _ _ _ _ _ _ refl _ _ c.in-Err-Ok.ensures Z

pub returns-in-Ok-Err : goal.returns-in-Ok-Err
returns-in-Ok-Err c = let F = rw c.in-Ok-Err.is-1 at c.check_calls-fits.ensures.refused in
    rw F.1 (list_refused _ _ _ _ _ _ _ _ F.0 _ c.in-Ok-Err.ensures (λ z. omega (arith, z, F.2)))

pub returns-in-Ok-Ok : goal.returns-in-Ok-Ok
returns-in-Ok-Ok c = let Z = rw c.in-Ok-Ok.is-1 at c.check_calls-fits.ensures.fits in
    calls-made _ _ _ _ _ _ _ _ refl _ c.in-Ok-Ok.ensures Z _ _ c.make_calls.ensures
