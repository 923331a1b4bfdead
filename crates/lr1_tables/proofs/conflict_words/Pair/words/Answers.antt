use Rattle.std.proofs.Common.{refl}
use Rattle.lr1_tables.specs.conflict_words.Tokens.{token_words}
use Rattle.lr1_tables.proofs.conflict_words.Pair.words.Goals as goal

pub returns-in-Shift : goal.returns-in-Shift
unfolding token_words
returns-in-Shift c = rw c.in-Shift.is refl

pub returns-in-Reduce : goal.returns-in-Reduce
unfolding token_words
returns-in-Reduce c = rw c.in-Reduce.is refl
