use Rattle.std.proofs.Common.{ap}
use Rattle.lr1_base.specs.repr.Reply.{reply_of}
use mathlib.Core.Path.{sym}
use lib.Seq.{length-take-le}
use Rattle.compact.proofs.Laws.{few_left}
use Rattle.compact.proofs.compact_input.Goals as goal

pub slice_bounds-write_table-end : goal.slice_bounds-write_table-end
slice_bounds-write_table-end g c = sym (length-take-le _ _ (few_left _ _ _ _ c.compact.ensures (ap reply_of c.in_ok-past.was)).1)
