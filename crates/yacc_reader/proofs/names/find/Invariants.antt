use lib.Seq.{slice}
use Rattle.yacc_reader.specs.names.Names.{bucket_number, in_bucket, is_name}
use Rattle.yacc_reader.proofs.names.Laws.{Turn}
use Rattle.yacc_reader.proofs.names.find.Given as goal

abbrev pub invariant-loop-next : goal.invariant-loop-next
invariant-loop-next l = Turn l.ix (in_bucket l.text l.starts l.pasts (bucket_number (slice l.from l.past l.text))) (is_name l.text l.starts l.pasts (slice l.from l.past l.text)) l.k l.next

abbrev pub decreases-loop-next : goal.decreases-loop-next
decreases-loop-next l = l.next
