use Rattle.output_text.proofs.table_text.Texts.{numbers-put}
use Rattle.output_text.proofs.table_text.numbers_line.Goals as goal

pub returns : goal.returns
returns c = numbers-put _ _ c.put_words-first.ensures.0 c.put_named-second.ensures.0 c.put.ensures
