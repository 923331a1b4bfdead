use Rattle.std.proofs.Common.{arith, ap, ◌∙◌}
use Rattle.lr1_base.specs.repr.Lists.{joined}
use Rattle.output_text.proofs.conflict_lines.Laws.{put_as}
use Rattle.output_text.proofs.conflict_lines.Texts.{parts-first, parts_more, parts_end, reduction_of, reductions_all}
use Rattle.output_text.proofs.conflict_lines.put_reductions.Goals as goal

pub loop-start-init : goal.loop-start-init
loop-start-init c = parts-first _ _ _ _ _

pub loop-start-preserved : goal.loop-start-preserved
loop-start-preserved c = parts_more c.loop-start.invariant c.loop-start-test.true c.put_reduction-place.ensures.0 c.put_reduction-place.ensures.1

pub returns : goal.returns
returns c =
    let S = c.loop-start.invariant in
    (put_as (parts_end S (omega arith)) (ap (joined reduction_of) c.as_chunks.ensures.front ∙ reductions_all c.args.words.now), omega (arith, S.small, S.within, c.as_chunks.ensures.front_len))
