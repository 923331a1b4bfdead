use Rattle.std.proofs.Common.{arith}
use Rattle.output_text.proofs.conflict_lines.Texts.{examples_naive, examples_action, examples_both, number_no_naive, number_no_reduction}
use Rattle.output_text.proofs.conflict_lines.put_examples.Goals as goal

pub put_example-requires-clause-whole : goal.put_example-requires-clause-whole
put_example-requires-clause-whole c = c.requires.shown.action_whole (number_no_naive c.args.class (λ e. cc))

pub put_example-next-requires : goal.put_example-next-requires
put_example-next-requires c = record { whole = c.requires.shown.action_whole (number_no_naive c.args.class c.in_default.not-Naive); at_in_bounds = omega (arith, c.requires.at_in_bounds) }

pub put_example-requires-in_default : goal.put_example-requires-in_default
put_example-requires-in_default c =
    let l = c.put_example-next.ensures.0.long in
    record { whole = c.requires.shown.reduce_whole (number_no_naive c.args.class c.in_default.not-Naive) (number_no_reduction c.args.class c.in_default.not-AmbiguousReduction); at_in_bounds = omega (arith, c.requires.at_in_bounds, c.put_example-next.ensures.1, l) }

pub returns-in-Naive : goal.returns-in-Naive
returns-in-Naive c = examples_naive _ _ _ _ c.in-Naive.is

pub returns-in-AmbiguousReduction : goal.returns-in-AmbiguousReduction
returns-in-AmbiguousReduction c = examples_action c.args.action.now c.args.reduce.now c.in-AmbiguousReduction.is c.put_example.ensures.0

pub returns-in_default : goal.returns-in_default
returns-in_default c = examples_both _ c.args.action.now c.args.reduce.now (number_no_naive c.args.class c.in_default.not-Naive) (number_no_reduction c.args.class c.in_default.not-AmbiguousReduction) c.put_example-next.ensures.0 c.put_example-in_default.ensures.0
