use Rattle.lr1_tables.proofs.conflict_list.Laws.{list_start, list_room, list_more, list_end}
use mathlib.Core.Path.{refl}
use Rattle.lr1_tables.proofs.conflict_list.write_conflicts.Goals as goal

pub loop-k-init : goal.loop-k-init
loop-k-init c = (refl, λ s h. list_start s.T s.Rs _ s.many _ h)

pub write_at-place-requires : goal.write_at-place-requires
write_at-place-requires c = record { k_in_bounds = (c.requires.0, list_room c.requires.0.T c.requires.0.Rs _ c.requires.0.many _ c.loop-k.k _ _ (c.loop-k.invariant.1 c.requires.0 c.requires.1) c.loop-k-test.true); k_lt_states = c.loop-k-test.true }

pub loop-k-preserved : goal.loop-k-preserved
loop-k-preserved c = ((list_more c.requires.0.T c.requires.0.Rs _ c.requires.0.many _ c.loop-k.k _ _ (c.loop-k.invariant.1 c.requires.0 c.requires.1) c.loop-k-test.true _ _ (c.write_at-place.ensures c.requires.0).0 (c.write_at-place.ensures c.requires.0).1).size, λ s h. list_more s.T s.Rs _ s.many _ c.loop-k.k _ _ (c.loop-k.invariant.1 s h) c.loop-k-test.true _ _ (c.write_at-place.ensures s).0 (c.write_at-place.ensures s).1)

pub shape_of-list : goal.shape_of-list
shape_of-list c = c.loop-k.invariant.0

pub returns : goal.returns
returns c = λ s h. list_end s.T s.Rs _ s.many _ c.loop-k.k _ _ (c.loop-k.invariant.1 s h) c.loop-k-test.false
