use Rattle.std.proofs.Common.{arith}
use Rattle.conflicts.proofs.class_words.Laws.{words_put}
use Rattle.conflicts.proofs.class_words.write_words.Goals as goal

pub returns : goal.returns
returns c = words_put _ _ _ _ c.args.k c.copy_from_slice.ensures.after c.copy_from_slice.ensures.len (omega (arith, c.requires))
