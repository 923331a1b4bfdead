use native.Mathlib.Omega.{arith}
use Rattle.conflict_sides.proofs.examples.Turns.{trial_labelled, trial_unlabelled}
use Rattle.conflict_sides.proofs.examples.keep_trial.Goals as goal

pub read_labels-labels-requires-clause-tried : goal.read_labels-labels-requires-clause-tried
read_labels-labels-requires-clause-tried c = c.requires.tried

pub keep_labels-requires : goal.keep_labels-requires
keep_labels-requires c = (c.read_labels-labels.result.fit.few, (omega arith, c.keep.new.self.room.by_words))

pub returns-then-count-lt-LABELLED-clause-put_behind : goal.returns-then-count-lt-LABELLED-clause-put_behind
returns-then-count-lt-LABELLED-clause-put_behind c =
    let g = c.read_labels-labels.ensures.grammar in
    λ es T p rest w. trial_labelled _ _ _ _ (rw (g.0, g.1) at c.read_labels-labels.result.fit) (c.read_labels-labels.ensures.labels _ _ T p rest w) _ (rw (g.0, g.1) at c.outline_of.ensures.0) _ _ c.requires.count_in_bounds.0 _ _ c.args.side.now.room _ _ c.keep.ensures.kept_after c.keep.ensures.prints_after (omega arith) _ c.keep_labels.ensures

pub returns-else-count-lt-LABELLED-clause-put_behind : goal.returns-else-count-lt-LABELLED-clause-put_behind
returns-else-count-lt-LABELLED-clause-put_behind c =
    let g = c.read_labels-labels.ensures.grammar in
    λ es T p rest w. trial_unlabelled _ _ _ _ (rw (g.0, g.1) at c.read_labels-labels.result.fit) (c.read_labels-labels.ensures.labels _ _ T p rest w) _ (rw (g.0, g.1) at c.outline_of.ensures.0) _ _ c.requires.count_in_bounds.0 _ _ c.args.side.now.room _ _ c.keep.ensures.kept_after c.keep.ensures.prints_after (omega arith)
