use Rattle.std.proofs.Common.{◌≡◌, ◌+◌, ◌-◌, ◌<◌, arith}
use Rattle.lr1_base.specs.repr.Sizes.{scratch_words}
use Rattle.enumerator.proofs.trials.Holding.{part_length, part_at, gathered-start, gathered-more, gathered_end}
use Rattle.enumerator.proofs.trials.machine.only_zeros.Goals as goal

pub loop-word-init : goal.loop-word-init
loop-word-init c = let z : c.args.from + 0 ≡ c.args.from = omega arith in rw z (gathered-start _ _ c.requires.1)

pub loop-word-preserved : goal.loop-word-preserved
loop-word-preserved c = let h : c.loop-word.word-index < scratch_words - c.args.from = omega (arith, c.loop-word-test.true, part_length c.args.words.now c.requires.0 c.args.from) in
    let next : c.args.from + (c.loop-word.word-index + 1) ≡ c.args.from + c.loop-word.word-index + 1 = omega arith in
    rw (part_at c.args.words.now c.args.from c.loop-word.word-index h, next) (gathered-more c.args.words.now c.requires.0 _ _ _ c.loop-word.invariant (omega arith))

pub returns : goal.returns
returns c = gathered_end c.args.words.now c.requires.0 _ _ _ c.loop-word.invariant (omega (arith, c.loop-word-test.false, part_length c.args.words.now c.requires.0 c.args.from))
