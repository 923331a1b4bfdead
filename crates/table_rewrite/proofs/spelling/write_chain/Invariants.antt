use Rattle.std.proofs.Common.{◌≡◌, ◌+◌, length}
use Rattle.table_rewrite.specs.spelling.Grown.{records_from}
use Rattle.table_rewrite.proofs.spelling.Writing.{Writing}
use Rattle.table_rewrite.proofs.spelling.write_chain.Given as goal

abbrev pub invariant-loop-record : goal.invariant-loop-record
invariant-loop-record l = (l.record-iterator.table.words.now ≡ l.fn.table.words.now) × Writing l.fn.table.words.now l.initial.out l.out l.fn.begin (l.fn.begin + length (records_from l.fn.table.words.now l.fn.head)) l.record-iterator.at l.at
