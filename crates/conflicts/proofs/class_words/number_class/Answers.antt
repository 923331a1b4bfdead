use Rattle.conflicts.proofs.class_words.Laws.{five_words}
use Rattle.conflicts.proofs.class_words.number_class.Goals as goal

pub returns : goal.returns
returns c = rw (c.number.ensures, c.values.ensures) (five_words c.args.class)
