use Rattle.enumerator.proofs.trials.Holding.{holds_none, holds_long, holds_stack, holds_yes, holds_not, holds_other}
use Rattle.enumerator.proofs.trials.machine.Graph.holds_trial.Goals as goal
use Rattle.enumerator.proofs.trials.machine.Graph.holds_trial.Goals.{then-depth-eq0-via-then-depth-eq0, then-depth-eq0-via-else-depth-eq0+then-depth-gt-REDUCTIONS, then-depth-eq0-via-else-depth-eq0+else-depth-gt-REDUCTIONS+then-not-only_zeros}
use Rattle.std.proofs.Common.{◌∙◌}

pub returns-then-depth-eq0 : goal.returns-then-depth-eq0
returns-then-depth-eq0 c = let g = c.requires.started in
    let ws = c.args.words.now in
    let long = c.requires.scratch_words_in_bounds in
    let read = c.word-depth.ensures.0 in
    elim c.then-depth-eq0.branch [
      | then-depth-eq0-via-then-depth-eq0 w ↦ holds_none g ws long c.word-depth.result read w.if-depth-eq0.true
      | then-depth-eq0-via-else-depth-eq0+then-depth-gt-REDUCTIONS w ↦ holds_long g ws long c.word-depth.result read w.if-depth-gt-REDUCTIONS.true
      | then-depth-eq0-via-else-depth-eq0+else-depth-gt-REDUCTIONS+then-not-only_zeros w ↦ holds_other g ws long c.word-depth.result read w.if-depth-gt-REDUCTIONS.false w.only_zeros.result w.only_zeros.ensures w.if-not-only_zeros.true
    ]

pub is_example-requires : goal.is_example-requires
is_example-requires c = record { stacked = holds_stack c.requires.started c.args.words.now c.requires.scratch_words_in_bounds c.word-depth.result c.word-depth.ensures.0 c.if-depth-gt-REDUCTIONS.false c.only_zeros.result c.only_zeros.ensures c.if-not-only_zeros.false c.is_trial.result c.is_trial.ensures c.if-is_trial.true }

pub returns-then-is_trial : goal.returns-then-is_trial
returns-then-is_trial c = holds_yes c.requires.started c.args.words.now c.requires.scratch_words_in_bounds c.word-depth.result c.word-depth.ensures.0 c.if-depth-gt-REDUCTIONS.false c.only_zeros.result c.only_zeros.ensures c.if-not-only_zeros.false c.is_trial.result c.is_trial.ensures c.if-is_trial.true c.is_example.result c.is_example.ensures

pub returns-else-is_trial : goal.returns-else-is_trial
returns-else-is_trial c = c.if-is_trial.false ∙ holds_not c.requires.started c.args.words.now c.requires.scratch_words_in_bounds c.word-depth.result c.word-depth.ensures.0 c.if-depth-gt-REDUCTIONS.false c.only_zeros.result c.only_zeros.ensures c.if-not-only_zeros.false c.is_trial.result c.is_trial.ensures c.if-is_trial.false
