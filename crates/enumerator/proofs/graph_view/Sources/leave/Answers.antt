use mathlib.Core.Path.{refl}
use Rattle.enumerator.proofs.trials.Counting.{counted-some}
use Rattle.enumerator.proofs.graph_view.Counting.{leave_none, leave_item, leave_counted, leave_nonterminal}
use native.Mathlib.Omega.{arith}
use Rattle.enumerator.proofs.graph_view.Sources.leave.Goals as goal

pub returns-in_default : goal.returns-in_default
returns-in_default c = leave_none c.args.self.bytes.now c.requires.held refl c.in_default.ensures c.requires.counted_edges

pub overflow_sub-counts : goal.overflow_sub-counts
overflow_sub-counts c = let L = c.in-Some.ensures in
    omega (arith, counted-some c.in-Some-source.ensures.1 refl (leave_counted c.args.self.bytes.now c.requires.held refl L.0 L.1 c.requires.counted_edges c.in-Some-source.ensures.0))

pub returns-in-Some-source : goal.returns-in-Some-source
returns-in-Some-source c = let L = c.in-Some.ensures in
    leave_nonterminal c.args.self.bytes.now c.requires.held refl L.0 L.1 c.requires.counted_edges c.in-Some-source.ensures.0 c.in-Some-source.ensures.1 refl

pub returns-in_default-source : goal.returns-in_default-source
returns-in_default-source c = let L = c.in-Some.ensures in
    leave_item c.args.self.bytes.now c.requires.held refl L.0 L.1 c.requires.counted_edges c.in_default-source.ensures
