use mathlib.Core.Path.{ap, ◌∙◌}
use Rattle.explain.specs.Printed.{printed}
use Rattle.explain.proofs.Whole.{outcome-shown, reading_shown}
use borrow.Author.Rules.{rules}
use Rattle.explain.proofs.conflict_lines.Goals as goal

pub lines-requires : goal.lines-requires
lines-requires c = record { reading_shown = reading_shown c.classify-classified.ensures (outcome-shown _ _ _ _ _); in_bounds = search rules }

pub returns : goal.returns
unfolding printed
returns c = record { text = c.lines.ensures.0 ∙ ap (printed c.args.number) c.classify-classified.ensures; whole = outcome-shown _ _ _ _ _; within = c.lines.ensures.1 }
