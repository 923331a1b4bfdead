use Rattle.std.proofs.Common.{arith}
use Rattle.lr1_tables.proofs.sizes.Laws.{at_rises, at_ends, at_places, at_flat, at_state}
use Rattle.lr1_tables.proofs.sizes.KeptStates.state.Goals as goal

pub span-from-requires : goal.span-from-requires
span-from-requires c = omega (arith, c.requires.k_lt_states, c.requires.collection.many, c.requires.collection.holds.begun.few)

pub unpack-requires : goal.unpack-requires
unpack-requires c = let s = c.requires.collection in
    let h = c.requires.k_lt_states in
    let e = at_ends _ s _ h in
    rw (c.span-from.ensures.0, c.span-from.ensures.1) record { from_le_past = (at_rises _ s _ h, e, omega (arith, e, s.holds.begun.room)); by_index = λ m u v. at_places _ s _ h m u v }

pub returns : goal.returns
returns c = record { flat = at_flat _ c.requires.collection _ c.requires.k_lt_states _ (rw (c.span-from.ensures.0, c.span-from.ensures.1) at c.unpack.ensures); is = λ s. at_state _ s _ c.requires.k_lt_states _ (rw (c.span-from.ensures.0, c.span-from.ensures.1) at c.unpack.ensures) }
