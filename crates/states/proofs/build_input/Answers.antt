use mathlib.Core.Path.{sym, ap}
use Rattle.lr1_base.specs.repr.Reply.{reply_of}
use lib.Seq.{length-take-le}
use native.Mathlib.Omega.{arith}
use Rattle.states.proofs.Laws.{room-kept}
use Rattle.states.proofs.build_input.Goals as goal

pub slice_bounds-out-end : goal.slice_bounds-out-end
slice_bounds-out-end g c = let f = room-kept _ _ _ _ _ _ _ _ _ _ c.build_states.ensures (ap reply_of c.in_ok-built.was) in omega arith

pub slice_bounds-write_states-end : goal.slice_bounds-write_states-end
slice_bounds-write_states-end g c = let f = room-kept _ _ _ _ _ _ _ _ _ _ c.build_states.ensures (ap reply_of c.in_ok-built.was) in sym (length-take-le _ _ (omega arith))

pub slice_bounds-conflicts-end : goal.slice_bounds-conflicts-end
slice_bounds-conflicts-end g c = let f = room-kept _ _ _ _ _ _ _ _ _ _ c.build_states.ensures (ap reply_of c.in_ok-built.was) in omega arith

pub slice_bounds-write_states-end-2 : goal.slice_bounds-write_states-end-2
slice_bounds-write_states-end-2 g c = let f = room-kept _ _ _ _ _ _ _ _ _ _ c.build_states.ensures (ap reply_of c.in_ok-built.was) in sym (length-take-le _ _ (omega arith))
