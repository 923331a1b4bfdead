use Rattle.std.proofs.Common.{ℕ, ◌++◌, List, drop, replicate, refl, ap, ◌∙◌, length-take-le}
use Rattle.lr1_base.specs.repr.Sizes.{scratch_words}
use Rattle.enumerator.proofs.trials.StackWords.{cleared}
use Rattle.enumerator.proofs.trials.machine.clear.Goals as goal

pub returns : goal.returns
returns c = let zeros = c.fill.ensures.after (λ y e. e) ∙ ap (λ (n : ℕ). replicate n 0) (length-take-le scratch_words c.args.words.now c.requires) in
    cleared _ c.args.words.now scratch_words refl (ap (λ (l : List ℕ). l ++ drop scratch_words c.args.words.now) zeros)
