use mathlib.Core.Path.{refl, sym}
use Rattle.std.specs.Slice.Iter.{chunks_exact_rest}
use Rattle.listing.proofs.Asked.{words_next, words-none, cut_short, too_short, fits_all}
use native.Mathlib.Omega.{arith}
use Rattle.listing.proofs.check_calls.Goals as goal

pub returns-then-calls-ne0 : goal.returns-then-calls-ne0
returns-then-calls-ne0 c = record { fits = tt; refused = (cut_short _ _ c.if-calls-ne0.true, refl, omega arith) }

pub returns-then-left-part : goal.returns-then-left-part
returns-then-left-part c = let s = c.in-Some.ensures.steps in
    let w = words_next c.in-Some.numbers.now _ s.1.0 (omega arith) in
    record { fits = tt; refused = (too_short _ _ c.if-calls-ne0.false (omega (arith, w)), refl, omega arith) }

pub loop-numbers-preserved : goal.loop-numbers-preserved
loop-numbers-preserved c = let s = c.in-Some.ensures.steps in
    let w = words_next c.in-Some.numbers.now _ s.1.0 (omega arith) in
    (omega arith, omega (arith, w))

pub returns : goal.returns
returns c = let s = c.in-None.ensures.steps in
    let w = words-none (chunks_exact_rest c.loop-numbers.numbers-iterator) (omega arith) in
    record { fits = sym (fits_all _ _ c.if-calls-ne0.false (omega (arith, w))); refused = tt }
