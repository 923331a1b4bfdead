use native.Mathlib.Omega.{arith}
use mathlib.Core.Path.{sym, ap}
use lib.Seq.{length-take-le}
use Rattle.lr1_base.specs.repr.Reply.{reply_of}
use Rattle.unyacc.proofs.Laws.{bytes_fit}
use Rattle.unyacc.proofs.write_text.Goals as goal

pub slice_bounds-text-end : goal.slice_bounds-text-end
slice_bounds-text-end g c = let f = bytes_fit _ _ _ _ _ c.write_yacc.ensures (ap reply_of c.in_ok-size.was) in omega (arith, f, c.write_yacc.auto.text)

pub slice_bounds-write-end : goal.slice_bounds-write-end
slice_bounds-write-end g c = let f = bytes_fit _ _ _ _ _ c.write_yacc.ensures (ap reply_of c.in_ok-size.was) in sym (length-take-le _ _ (omega (arith, f, c.write_yacc.auto.text)))
