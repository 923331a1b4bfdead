-- What a program has read of a stream.
use Rattle.std.specs.Prelude.{ℕ, ◌*◌, ◌≤◌, ◌≡◌, List, take, Result, Ok, Err}
use Rattle.lr1_base.specs.repr.Sizes.{record_limit}
use Rattle.lr1_base.specs.le_words.Little.{words_of}
use Rattle.program_io.specs.declared.table_stream.Stop.{Stop}

-- a table's words are those of the bytes that were read last, and it has no more records than a table may
unfoldable pub Holds : Result ℕ Stop → List ℕ → List ℕ → Type 0
Holds (Ok records) bytes table = (records ≤ record_limit) × (take (records * 4) table ≡ words_of (take (records * 8) bytes))
Holds (Err stop) bytes table = Unit {0}
