use Rattle.std.proofs.Common.{arith}
use Rattle.lr1_tables.proofs.conflict_list.write_at.Goals as goal

pub state-requires : goal.state-requires
state-requires c = record { collection = c.requires.k_in_bounds.0; k_lt_states = c.requires.k_lt_states }

pub write_state-requires : goal.write_state-requires
write_state-requires c = let s = c.requires.k_in_bounds.0 in record { flat = (c.state.ensures.flat, omega (arith, c.requires.k_lt_states, s.many, s.holds.begun.few)); by_index = (s.T, _, _, s.grammar, rw (c.state.ensures.is s) c.requires.k_in_bounds.1) }

pub returns : goal.returns
returns c = λ s. rw (← (c.state.ensures.is s)) (c.write_state.ensures s.T _ _ s.grammar)
