use Rattle.lr1_base.proofs.words.Insert.{inserted_is}
use Rattle.lr1_base.proofs.words.insert_at.Goals as goal

pub returns : goal.returns
returns c = rw c.copy_within.ensures.after (inserted_is c.args.list.now c.args.at c.args.n c.args.x c.requires.0 c.requires.1)
