use Rattle.lr1_states.proofs.goto.Found.{over-begun, over-room, over-places, over-room_front, over-front, over-nowhere, over_kernel, over_old, over_new}
use Rattle.std.proofs.Common.{refl, arith}
use Rattle.lr1_states.proofs.goto.goto_over.Goals as goal

pub span-begin-requires : goal.span-begin-requires
span-begin-requires c = omega (arith, c.requires.k_lt_states.0, c.requires.search.many, c.requires.search.holds.begun.few)

pub move_over-many-requires : goal.move_over-many-requires
move_over-many-requires c = let r = c.requires.k_lt_states in
    let b = over-begun _ _ _ _ c.requires.search _ r.0 in
    let o = over-room _ _ _ _ c.requires.search _ r.0 in
    rw (c.span-begin.ensures.0, c.span-begin.ensures.1) record { from_le_past = (b.rises _ r.0, b.ends _ r.0, omega (arith, b.ends _ r.0, b.room), omega (arith, o, r.2)); by_index = over-places _ _ _ _ c.requires.search _ r.0 }

pub returns-then-many-eq0 : goal.returns-then-many-eq0
returns-then-many-eq0 c = let r = c.requires.k_lt_states in
    let m = rw (c.span-begin.ensures.0, c.span-begin.ensures.1) at c.move_over-many.ensures in
    (m.1, tt, λ s. over-nowhere _ _ _ _ s _ r.0 _ r.1 _ (rw m.1 r.2) _ m.0 m.2 c.if-many-eq0.true)

pub slice_bounds-moved-end : goal.slice_bounds-moved-end
slice_bounds-moved-end c = let r = c.requires.k_lt_states in
    let m = rw (c.span-begin.ensures.0, c.span-begin.ensures.1) at c.move_over-many.ensures in over-room_front _ _ _ _ c.requires.search _ r.0 _ r.1 _ (rw m.1 r.2) _ m.0 m.2

pub slice_bounds-moved-end-2 : goal.slice_bounds-moved-end-2
slice_bounds-moved-end-2 c = let r = c.requires.k_lt_states in
    let m = rw (c.span-begin.ensures.0, c.span-begin.ensures.1) at c.move_over-many.ensures in over-front _ _ _ _ c.requires.search _ r.0 _ r.1 _ (rw m.1 r.2) _ m.0 m.2

pub find-requires : goal.find-requires
find-requires c = over-begun _ _ _ _ c.requires.search _ c.requires.k_lt_states.0

pub returns-in-Some : goal.returns-in-Some
returns-in-Some c = let r = c.requires.k_lt_states in
    let m = rw (c.span-begin.ensures.0, c.span-begin.ensures.1) at c.move_over-many.ensures in
    (m.1, tt, λ s. over_old _ _ _ _ s _ r.0 _ r.1 _ (rw m.1 r.2) _ m.0 m.2 c.if-many-eq0.false _ c.in-Some.ensures.1 c.in-Some.ensures.0)

pub store-requires : goal.store-requires
store-requires c = let r = c.requires.k_lt_states in
    let m = rw (c.span-begin.ensures.0, c.span-begin.ensures.1) at c.move_over-many.ensures in
    record { search = c.requires.search; kernel = over_kernel _ _ _ _ c.requires.search _ r.0 _ r.1 _ (rw m.1 r.2) _ m.0 m.2 }

pub returns-in-None : goal.returns-in-None
returns-in-None c = let r = c.requires.k_lt_states in
    let m = rw (c.span-begin.ensures.0, c.span-begin.ensures.1) at c.move_over-many.ensures in
    (m.1, c.store.ensures.0, λ s. over_new _ _ _ _ s _ r.0 _ r.1 _ (rw m.1 r.2) _ m.0 m.2 c.if-many-eq0.false _ c.in-None.ensures refl _ _ _ _ (λ M l e w p. c.store.ensures.1 s M l e w p))
