use Rattle.enumerator.proofs.graph_view.Trial.{replaced}
use Rattle.enumerator.proofs.graph_view.machine.replace.Goals as goal

pub returns : goal.returns
returns c = replaced c.args.words.now c.word-depth.result c.args.edge c.word-depth.ensures.0 c.requires.1.0
