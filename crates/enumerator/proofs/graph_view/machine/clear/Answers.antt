use Rattle.std.proofs.Common.{ℕ, ◌++◌, List, drop, replicate, refl, ap, ◌∙◌, length-take-le}
use Rattle.enumerator.specs.graph_view.Trial.{trial_room}
use Rattle.enumerator.proofs.graph_view.Trial.{cleared}
use Rattle.enumerator.proofs.graph_view.machine.clear.Goals as goal

pub returns : goal.returns
returns c = let zeros = c.fill.ensures.after (λ y e. e) ∙ ap (λ (n : ℕ). replicate n 0) (length-take-le trial_room c.args.words.now c.requires) in
    cleared _ c.args.words.now trial_room refl (ap (λ (l : List ℕ). l ++ drop trial_room c.args.words.now) zeros)
