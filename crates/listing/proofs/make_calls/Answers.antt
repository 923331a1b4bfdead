use mathlib.Core.Path.{◌≡◌, refl, ap, ◌∙◌}
use Prim.Native.Nat.{ℕ, ◌+◌, ◌-◌, ◌≤◌}
use lib.ListN.{length}
use borrow.Rule.Slice.PartMut.{same_len_mid}
use Rattle.std.specs.Slice.Iter.{chunks_exact_rest}
use Rattle.listing.proofs.Asked.{accepted, words_next}
use Rattle.listing.proofs.Turns.{calls-more, calls-none}
use native.Mathlib.Omega.{arith}
use Rattle.listing.proofs.make_calls.Goals as goal

pub loop-numbers-init : goal.loop-numbers-init
loop-numbers-init c = let E = c.chunks_exact-numbers-items.ensures in
    rw (c.into_iter-numbers-iterator.ensures.into_iter_gives, E.size, E.rest) (refl, omega (arith, (accepted _ _ c.requires).1), refl, refl, refl)

pub slice_bounds-call-end : goal.slice_bounds-call-end
slice_bounds-call-end c = let s = c.in-Some.ensures.steps in
    let I = c.loop-numbers.invariant in
    let w = words_next c.in-Some.numbers.now _ s.1.0 (omega arith) in
    omega (arith, w, I.1, I.2, c.part.ensures, c.of-lent.ensures.read)

pub loop-numbers-preserved : goal.loop-numbers-preserved
loop-numbers-preserved c = let s = c.in-Some.ensures.steps in
    let I = c.loop-numbers.invariant in
    let three : length c.in-Some.numbers.now ≡ 3 = omega arith in
    let w = words_next c.in-Some.numbers.now _ s.1.0 three in
    let R = c.of-lent.ensures.read in
    let from = c.loop-numbers.from in
    let to : from + c.part.result ≤ length c.loop-numbers.output = omega (arith, w, I.1, I.2, c.part.ensures, R) in (
      omega arith,
      omega (arith, w, I.1, c.part.ensures, R),
      same_len_mid from (from + c.part.result - from) c.loop-numbers.output c.call.new.part c.call.auto.part ∙ I.2,
      c.call.auto.scratch ∙ I.3,
      calls-more c.args.table.now c.args.graph.now c.in-Some.numbers.now _ s.1.0 three c.loop-numbers.listing c.loop-numbers.scratch c.loop-numbers.output from (from + c.part.result) _ _ _ R.0 R.1.0 R.1.1 (ap (λ (k : ℕ). from + k) c.part.ensures) to _ _ _ c.call.auto.part c.call.ensures ∙ I.4,
    )

pub returns : goal.returns
returns c = let s = c.in-None.ensures.steps in
    calls-none c.args.table.now c.args.graph.now (chunks_exact_rest c.loop-numbers.numbers-iterator) (omega arith) c.loop-numbers.listing c.loop-numbers.scratch c.loop-numbers.output c.loop-numbers.from ∙ c.loop-numbers.invariant.4
