use mathlib.Core.Path.{◌∙◌}
use Rattle.lr1_tables.proofs.Laid.{few_edges_at, states-begin, symbols-begin, few_symbols_at, room_on, target_on, all-written}
use native.Mathlib.Omega.{arith}
use Rattle.lr1_tables.proofs.write_table.Goals as goal

pub overflow_add-items : goal.overflow_add-items
overflow_add-items c = let l = few_edges_at c.requires.1 in omega arith

pub offset_bounds-begins-states : goal.offset_bounds-begins-states
offset_bounds-begins-states c = omega (arith, c.requires.1.few)

pub bounds-begins-states : goal.bounds-begins-states
bounds-begins-states c = omega (arith, c.requires.1.few)

pub overflow_add-ends : goal.overflow_add-ends
overflow_add-ends c = let l = few_edges_at c.requires.1 in omega arith

pub write_front-requires : goal.write_front-requires
write_front-requires c = let L = c.requires.1 in (c.requires.0, (L.target, L.packed))

pub states_at-requires : goal.states_at-requires
states_at-requires c = let l = few_symbols_at c.requires.1 in omega arith

pub write_states-requires : goal.write_states-requires
write_states-requires c = let L = c.requires.1 in (c.requires.0, (L.target.states, (c.states_at.ensures ∙ states-begin L, (L.items_at, (L.edges_at, (L.items.begins, (L.edges.begins, room_on L _ c.write_front.auto.out)))))))

pub write_productions-requires : goal.write_productions-requires
write_productions-requires c = let L = c.requires.1 in (c.requires.0, (target_on L _ (c.write_states.auto.out ∙ c.write_front.auto.out), L.packed))

pub loose_at-requires : goal.loose_at-requires
loose_at-requires c = let l = few_symbols_at c.requires.1 in (omega arith, (omega arith, omega arith))

pub write_symbols-requires : goal.write_symbols-requires
write_symbols-requires c = let L = c.requires.1 in (c.requires.0, (L.packed, (c.loose_at.ensures ∙ symbols-begin L, room_on L _ (c.write_productions.auto.out ∙ c.write_states.auto.out ∙ c.write_front.auto.out))))

pub write_items-requires : goal.write_items-requires
write_items-requires c = let L = c.requires.1 in (c.requires.0, (L.target.states, (L.items_at, (L.items, room_on L _ (c.write_symbols.auto.out ∙ c.write_productions.auto.out ∙ c.write_states.auto.out ∙ c.write_front.auto.out)))))

pub write_edges-requires : goal.write_edges-requires
write_edges-requires c = let L = c.requires.1 in (c.requires.0, (L.target.states, (L.edges_at, (L.edges, room_on L _ (c.write_items.auto.out ∙ c.write_symbols.auto.out ∙ c.write_productions.auto.out ∙ c.write_states.auto.out ∙ c.write_front.auto.out)))))

pub returns : goal.returns
returns c = λ U L. all-written L _ _ _ _ _ _ c.write_front.ensures (rw c.states_at.ensures at c.write_states.ensures) c.write_productions.ensures (rw c.loose_at.ensures at c.write_symbols.ensures) c.write_items.ensures c.write_edges.ensures
