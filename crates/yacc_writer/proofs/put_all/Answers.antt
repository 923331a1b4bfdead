use native.Mathlib.Omega.{arith}
use Rattle.std.proofs.lemmas.List.{length-take-le}
use Rattle.yacc_writer.proofs.Laws.{wrote_nothing, wrote_more, wrote_all}
use Rattle.yacc_writer.proofs.put_all.Goals as goal

pub loop-byte-init : goal.loop-byte-init
loop-byte-init c = wrote_nothing _ _

pub put-place-requires : goal.put-place-requires
put-place-requires c = let l = length-take-le c.loop-byte.byte-index c.args.bytes.now (omega arith) in omega (arith, c.loop-byte.invariant.place, c.requires, c.loop-byte-test.true, l)

pub loop-byte-preserved : goal.loop-byte-preserved
loop-byte-preserved c = wrote_more _ _ c.loop-byte-test.true c.loop-byte.invariant c.put-place.ensures

pub returns : goal.returns
returns c = wrote_all _ _ c.loop-byte-test.false c.loop-byte.invariant
