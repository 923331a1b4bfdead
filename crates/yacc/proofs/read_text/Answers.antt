use native.Mathlib.Omega.{arith}
use mathlib.Core.Path.{sym, ap}
use lib.Seq.{length-take-le}
use Rattle.lr1_base.specs.repr.Reply.{reply_of}
use Rattle.yacc.proofs.Laws.{few_read, accepted, startable}
use Rattle.yacc.proofs.read_text.Goals as goal

pub slice_bounds-table-end : goal.slice_bounds-table-end
slice_bounds-table-end g c = let f = few_read _ _ _ _ _ _ _ c.read_yacc.ensures (ap reply_of c.in_ok-read.was) in omega (arith, f, c.read_yacc.auto.table)

pub slice_bounds-table-end-2 : goal.slice_bounds-table-end-2
slice_bounds-table-end-2 g c = let f = few_read _ _ _ _ _ _ _ c.read_yacc.ensures (ap reply_of c.in_ok-read.was) in sym (length-take-le _ _ (omega (arith, f, c.read_yacc.auto.table)))

pub invariant_of-table : goal.invariant_of-table
invariant_of-table g c = record { accepted = accepted _ _ _ _ _ _ _ c.read_yacc.ensures (ap reply_of c.in_ok-read.was) }

pub write_grammar-requires : goal.write_grammar-requires
write_grammar-requires g c = record { startable = startable _ _ _ _ _ _ _ c.read_yacc.ensures (ap reply_of c.in_ok-read.was); in_bounds = c.requires }
