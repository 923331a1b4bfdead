use Rattle.lr1_states.proofs.goto.Laws.{kernel_few, kernel_places, kernel_flat, closed_is}
use Rattle.std.proofs.Common.{arith}
use Rattle.lr1_states.proofs.goto.close.Goals as goal

pub unpack-state-requires : goal.unpack-state-requires
unpack-state-requires c = let k = kernel_few _ _ _ c.args.source.grammar.packed.few c.requires.kernel in record { from_le_past = (omega arith, omega (arith, k), omega arith); by_index = kernel_places _ _ _ c.args.source.grammar.packed.few c.requires.kernel }

pub transitive_closure-requires : goal.transitive_closure-requires
transitive_closure-requires c = record { held = c.requires.held; flat = kernel_flat _ _ _ c.args.source.grammar.packed.few c.requires.kernel _ c.unpack-state.ensures }

pub returns : goal.returns
returns c = (c.transitive_closure.ensures.0, λ T M G l e. closed_is _ _ _ c.args.source.grammar.packed.few c.requires.kernel _ _ c.unpack-state.ensures T _ _ _ G (c.transitive_closure.ensures.1 T G) M l e)
