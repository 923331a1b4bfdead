use Rattle.std.proofs.Common.{refl, ◌∙◌, arith, rules, inl, inr}
use Rattle.conflict_sides.proofs.outline.Diverging.{diverge_turn, diverge_end, diverge-other_end}
use Rattle.conflict_sides.proofs.outline.diverge.Goals as goal

pub loop-own-init : goal.loop-own-init
loop-own-init c =
    let own = c.chunks_exact.ensures in
    let other = c.chunks_exact-2.ensures in
    let z = c.zip-own-items.ensures in
    rw (c.into_iter-own-iterator.ensures.into_iter_gives, z.first, z.second, own.rest, own.size, other.rest, other.size) (record { own_two = refl; other_two = refl; own_fits = c.requires.first_value; other_fits = c.requires.second_value; rest = refl })

pub first0-requires : goal.first0-requires
first0-requires c =
    let i = c.loop-own.invariant in
    let s = c.in-Some.ensures.steps in
    let t = diverge_turn c.args.sets.now.terminals c.args.sets.now.map _ _ _ _ _ _ s.0.1.0 (s.0.1.1 ∙ i.own_two) s.1.1.0 (s.1.1.1 ∙ i.other_two) i.own_fits i.other_fits in
    t.own_fits

pub first0-requires-then-ne : goal.first0-requires-then-ne
first0-requires-then-ne c =
    let i = c.loop-own.invariant in
    let s = c.in-Some.ensures.steps in
    let t = diverge_turn c.args.sets.now.terminals c.args.sets.now.map _ _ _ _ _ _ s.0.1.0 (s.0.1.1 ∙ i.own_two) s.1.1.0 (s.1.1.1 ∙ i.other_two) i.own_fits i.other_fits in
    t.other_fits

pub returns-then-ne : goal.returns-then-ne
returns-then-ne c =
    let i = c.loop-own.invariant in
    let s = c.in-Some.ensures.steps in
    let t = diverge_turn c.args.sets.now.terminals c.args.sets.now.map _ _ _ _ _ _ s.0.1.0 (s.0.1.1 ∙ i.own_two) s.1.1.0 (s.1.1.1 ∙ i.other_two) i.own_fits i.other_fits in
    c.is_disjoint.ensures ∙ rw (c.first0.ensures, c.first0-then-ne.ensures) (t.differ (search rules) ∙ i.rest)

pub loop-own-preserved : goal.loop-own-preserved
loop-own-preserved c =
    let i = c.loop-own.invariant in
    let s = c.in-Some.ensures.steps in
    let t = diverge_turn c.args.sets.now.terminals c.args.sets.now.map _ _ _ _ _ _ s.0.1.0 (s.0.1.1 ∙ i.own_two) s.1.1.0 (s.1.1.1 ∙ i.other_two) i.own_fits i.other_fits in
    record { own_two = s.0.0 ∙ i.own_two; other_two = s.1.0 ∙ i.other_two; own_fits = t.left_fits; other_fits = t.other_left_fits; rest = t.same (search rules) ∙ i.rest }

pub returns : goal.returns
returns c =
    let i = c.loop-own.invariant in
    elim c.in-None.ensures.steps [
      | inl s ↦ diverge_end c.args.sets.now.terminals c.args.sets.now.map _ _ (omega (arith, s.1.1.0, i.own_two)) ∙ i.rest
      | inr s ↦ diverge-other_end c.args.sets.now.terminals c.args.sets.now.map _ _ (omega (arith, s.1.1.0, i.other_two)) ∙ i.rest
    ]
