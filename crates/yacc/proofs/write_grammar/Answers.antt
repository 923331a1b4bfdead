use native.Mathlib.Omega.{arith}
use mathlib.Core.Path.{sym, ap}
use lib.Seq.{length-take-le}
use Rattle.lr1_base.specs.repr.Reply.{reply_of}
use Rattle.yacc.proofs.Laws.{few_started}
use Rattle.yacc.proofs.write_grammar.Goals as goal

pub slice_bounds-out-end : goal.slice_bounds-out-end
slice_bounds-out-end g c = let f = few_started _ _ _ _ _ _ c.with_start.ensures (ap reply_of c.in_ok-started.was) in omega arith

pub slice_bounds-write_records-end : goal.slice_bounds-write_records-end
slice_bounds-write_records-end g c = let f = few_started _ _ _ _ _ _ c.with_start.ensures (ap reply_of c.in_ok-started.was) in sym (length-take-le _ _ (omega arith))
