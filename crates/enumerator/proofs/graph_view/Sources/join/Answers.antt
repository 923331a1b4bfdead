use mathlib.Core.Path.{refl}
use Rattle.enumerator.proofs.trials.Counting.{counted_small, counted-more}
use Rattle.enumerator.proofs.graph_view.Counting.{join-item, join-nonterminal}
use native.Mathlib.Omega.{arith}
use Rattle.enumerator.proofs.graph_view.Sources.join.Goals as goal

pub overflow_add-counts : goal.overflow_add-counts
overflow_add-counts c = let C = c.requires.by_index in omega (arith, counted_small c.in-Some.ensures.1 refl C.2 C.1)

pub returns-in-Some : goal.returns-in-Some
returns-in-Some c = λ us C. join-nonterminal c.args.self.bytes.now c.args.edge us c.in-Some.ensures.0 (counted-more c.in-Some.ensures.1 refl C)

pub returns-in_default : goal.returns-in_default
returns-in_default c = λ us C. join-item c.args.self.bytes.now c.args.edge us c.in_default.ensures C
