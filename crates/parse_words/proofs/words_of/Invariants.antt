use Rattle.parse_words.specs.Bytes.{reader_of}
use Rattle.parse_words.proofs.Scans.{Scanning}
use Rattle.parse_words.proofs.words_of.Given as goal

abbrev pub invariant-loop-byte : goal.invariant-loop-byte
invariant-loop-byte l = Scanning (reader_of l.fn.start) l.bytes l.initial.out l.out (reader_of l.reader) l.place l.byte-index
