use mathlib.Core.Path.{refl}
use Rattle.output_text.proofs.table_text.Texts.{numbers-first, numbers_more}
use Rattle.output_text.proofs.table_text.put_words.Goals as goal

pub loop-number-init : goal.loop-number-init
loop-number-init c = numbers-first _ _ _

pub loop-number-preserved : goal.loop-number-preserved
loop-number-preserved c = numbers_more c.loop-number.invariant c.loop-number-test.true refl c.put_after-place.ensures.0 c.put_after-place.ensures.1
