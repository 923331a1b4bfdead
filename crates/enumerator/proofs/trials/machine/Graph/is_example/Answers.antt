use Rattle.std.proofs.Common.{not, ap, ◌∙◌, arith, eq-eqb}
use Rattle.enumerator.proofs.trials.StackWords.{stack_long, stack_depth, upper_below}
use Rattle.enumerator.proofs.trials.Stepping.{example-none, example-top}
use Rattle.enumerator.proofs.trials.machine.Graph.is_example.Goals as goal

pub word-depth-requires : goal.word-depth-requires
word-depth-requires c = omega (arith, stack_long c.requires.stacked)

pub word-requires : goal.word-requires
word-requires c = omega (arith, stack_long c.requires.stacked, stack_depth c.requires.stacked, c.requires.stacked.short, c.word-depth.ensures.0)

pub source-requires : goal.source-requires
source-requires c = record { edge_bound = upper_below c.requires.stacked c.word-depth.ensures.0 c.if-depth-ne0.true c.word.ensures.0 }

pub returns-then-depth-ne0 : goal.returns-then-depth-ne0
returns-then-depth-ne0 c = example-top c.args.self.words.now c.requires.stacked c.word-depth.ensures.0 c.if-depth-ne0.true c.word.result c.word.ensures.0 c.source.result c.source.ensures.0

pub returns-else-depth-ne0 : goal.returns-else-depth-ne0
returns-else-depth-ne0 c = λ st rest w. ap not (eq-eqb _ _ c.if-depth-ne0.false) ∙ example-none c.args.self.words.now c.requires.stacked c.word-depth.ensures.0 c.if-depth-ne0.false st rest w
