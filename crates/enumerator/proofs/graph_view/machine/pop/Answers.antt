use Rattle.enumerator.proofs.graph_view.Trial.{popped}
use Rattle.enumerator.proofs.graph_view.machine.pop.Goals as goal

pub returns : goal.returns
returns c = popped c.args.words.now c.word-depth.result c.word-depth.ensures.0 c.requires.1.1
