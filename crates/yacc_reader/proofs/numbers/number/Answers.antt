use Rattle.yacc_reader.proofs.numbers.Laws.{kept-words, kept_count, more-words, more_count}
use Rattle.yacc_reader.proofs.numbers.number.Goals as goal

-- src/lib.rt:14:9
pub returns-then-numbers-j-ne0 : goal.returns-then-numbers-j-ne0
returns-then-numbers-j-ne0 c = record { value = kept_count _ _ _ c.if-numbers-j-ne0.true; numbers_after = kept-words _ _ _ c.if-numbers-j-ne0.true }

-- src/lib.rt:8:1
pub returns : goal.returns
returns c = record { value = more_count _ _ _ c.if-numbers-j-ne0.false; numbers_after = more-words _ _ _ c.if-numbers-j-ne0.false }
