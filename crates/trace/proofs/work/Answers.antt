use Rattle.std.proofs.lemmas.Result.{err_from_is_err_and}
use Rattle.std.proofs.Common.{◌≡◌, ℕ, ◌++◌, drop, replicate, refl, ap, ◌∙◌, arith, length-take-le}
use Rattle.lr1_base.specs.repr.Sizes.{scratch_words}
use Rattle.lr1_base.specs.words.Lent.{zeroed}
use Rattle.trace.proofs.Ways.{handed-over, overfull}
use Rattle.trace.proofs.work.Goals as goal

pub build-requires : goal.build-requires
build-requires c = record { asked = c.requires.asked; room = c.requires.room.0 }

pub word-requires : goal.word-requires
word-requires c = omega (arith, c.build.auto.graph, c.requires.room.0)

pub returns-in_err-build : goal.returns-in_err-build
unfolding zeroed
returns-in_err-build c = let B = c.in_err-build.ensures.full in
    let Z : c.fill.new.self ++ drop scratch_words c.args.scratch.now ≡ zeroed scratch_words c.args.scratch.now = rw (c.fill.ensures.after (λ y e. e) ∙ ap (λ (n : ℕ). replicate n 0) (length-take-le scratch_words c.args.scratch.now c.requires.room.1)) refl in
    let p = err_from_is_err_and c.from_residual.result c.from_residual.ensures.1 in rw (p.1, p.2) (overfull _ _ _ _ _ Z B.0 B.1)

pub returns : goal.returns
unfolding zeroed
returns c = let B = c.in_ok-build.ensures.built in
    let Z : c.fill.new.self ++ drop scratch_words c.args.scratch.now ≡ zeroed scratch_words c.args.scratch.now = rw (c.fill.ensures.after (λ y e. e) ∙ ap (λ (n : ℕ). replicate n 0) (length-take-le scratch_words c.args.scratch.now c.requires.room.1)) refl in handed-over _ _ _ _ _ Z _ B.0 B.1 c.word.ensures.0
