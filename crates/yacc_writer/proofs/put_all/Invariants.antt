use lib.ListN.{take}
use Rattle.yacc_writer.specs.Wrote.{Wrote}
use Rattle.yacc_writer.proofs.put_all.Given as goal

abbrev pub invariant-loop-byte : goal.invariant-loop-byte
invariant-loop-byte l = Wrote l.initial.text l.at (take l.byte-index l.bytes) l.text l.place
