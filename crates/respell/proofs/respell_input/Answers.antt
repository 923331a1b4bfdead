use Rattle.std.proofs.Common.{ap}
use Rattle.lr1_base.specs.repr.Reply.{reply_of}
use mathlib.Core.Path.{sym}
use lib.Seq.{length-take-le}
use native.Mathlib.Omega.{arith}
use Rattle.respell.proofs.Laws.{few_records}
use Rattle.respell.proofs.respell_input.Goals as goal

pub slice_bounds-out-end : goal.slice_bounds-out-end
slice_bounds-out-end g c = let f = few_records _ _ _ _ _ c.respell.ensures (ap reply_of c.in_ok-past.was) in omega arith

pub slice_bounds-write_table-end : goal.slice_bounds-write_table-end
slice_bounds-write_table-end g c = let f = few_records _ _ _ _ _ c.respell.ensures (ap reply_of c.in_ok-past.was) in sym (length-take-le _ _ (omega arith))
