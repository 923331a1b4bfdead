-- A step of the iterator over a chain of loose records: it reads the record that it is at and goes on to the next, and at 0 it ends.
use Rattle.std.specs.Prelude.{Option, MatchOption, ◌≡◌, ◌≢◌}
use Rattle.table.specs.Words.{word_at}
use Rattle.table_rewrite.specs.declared.spelling.chain.LooseRecord.{LooseRecord}
use Rattle.table_rewrite.specs.declared.spelling.chain.RecordIter.{RecordIter}

abbrev pub RecordStep : RecordIter → Option LooseRecord → RecordIter → Type 0
RecordStep s r u = (u.table.words.now ≡ s.table.words.now) × MatchOption r (s.at ≡ 0) (λ x. (s.at ≢ 0) × (u.at ≡ x.next)
    × (x.next ≡ word_at s.table.words.now s.at 0) × (x.one ≡ word_at s.table.words.now s.at 1) × (x.two ≡ word_at s.table.words.now s.at 2) × (x.three ≡ word_at s.table.words.now s.at 3))
