use Rattle.std.specs.Prelude.{ℕ, get_or}
use mathlib.Core.Path.{ap, ◌∙◌}
use Rattle.enumerator.proofs.graph_view.Trial.{stack_long, stack_depth, upper_below}
use native.Mathlib.Omega.{arith}
use Rattle.enumerator.proofs.graph_view.machine.last.Goals as goal

pub word-depth-requires : goal.word-depth-requires
word-depth-requires c = omega (arith, stack_long c.requires.held)

pub word-requires : goal.word-requires
word-requires c = let S = c.requires.held in omega (arith, stack_long S, stack_depth S, S.short, c.word-depth.ensures.0)

pub returns-else-depth-eq0 : goal.returns-else-depth-eq0
returns-else-depth-eq0 c =
    ((λ z. c.if-depth-eq0.false (c.word-depth.ensures.0 ∙ z)), c.word.ensures.0 ∙ ap (λ (k : ℕ). get_or c.args.words.now k 0) c.word-depth.ensures.0, upper_below c.requires.held c.word-depth.ensures.0 c.if-depth-eq0.false c.word.ensures.0)
