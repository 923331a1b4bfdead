use Rattle.std.proofs.Common.{arith, ap, ◌∙◌}
use Rattle.lr1_base.specs.repr.Lists.{joined}
use Rattle.output_text.proofs.conflict_lines.Laws.{put_as}
use Rattle.output_text.proofs.conflict_lines.Texts.{parts-first, parts_more, parts_end, symbol_of, symbols_all}
use Rattle.output_text.proofs.conflict_lines.put_symbols.Goals as goal

pub loop-kind-init : goal.loop-kind-init
loop-kind-init c = parts-first _ _ _ _ _

pub loop-kind-preserved : goal.loop-kind-preserved
loop-kind-preserved c = parts_more c.loop-kind.invariant c.loop-kind-test.true c.put_symbol-place.ensures.0 c.put_symbol-place.ensures.1

pub returns : goal.returns
returns c =
    let S = c.loop-kind.invariant in
    (put_as (parts_end S (omega arith)) (ap (joined symbol_of) c.as_chunks.ensures.front ∙ symbols_all c.args.words.now), omega (arith, S.small, S.within, c.as_chunks.ensures.front_len))
