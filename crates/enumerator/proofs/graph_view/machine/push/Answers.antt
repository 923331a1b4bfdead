use Rattle.enumerator.proofs.graph_view.Trial.{pushed}
use Rattle.enumerator.proofs.graph_view.machine.push.Goals as goal

pub returns : goal.returns
returns c = pushed c.args.words.now c.word-depth.result c.args.edge c.word-depth.ensures.0 c.requires.1.0
