use Rattle.std.proofs.Common.{◌+◌, length, ap, ◌∙◌, arith}
use Rattle.lr1_base.specs.bits.Bits.{bit_put}
use Rattle.lr1_base.proofs.bits.Laws.{put-length}
use Rattle.trace.proofs.EndsLaws.{symbols_short, ends-start, ends_set, ends-unset, ends_last}
use Rattle.trace.proofs.nullable_suffixes.production_ends.Goals as goal
use Rattle.trace.proofs.nullable_suffixes.production_ends.Goals.{then-item_ends, else-item_ends}

pub loop-index-init : goal.loop-index-init
loop-index-init c = (c.requires.production_lt_productions.1, λ T ep et E. ends-start T _ _ E)

pub loop-index-preserved : goal.loop-index-preserved
loop-index-preserved c =
    let I = c.loop-index.invariant in
    let w = c.length-index-end.ensures.short in
    elim c.if-item_ends.branch [
      | then-item_ends q ↦ (
        ap length (q.ends-is ∙ q.put.ensures) ∙ put-length _ _ ∙ I.0,
        λ T ep et E. ends_set _ _ c.args.grammar.packed T ep _ _ _ _ _ c.requires.production_lt_productions.0 (omega arith) (I.1 T ep et E) q.if-item_ends.true (c.item_ends.ensures T ep et) (q.ends-is ∙ q.put.ensures ∙ ap (bit_put c.loop-index.ends) q.place.ensures.is),
      )
      | else-item_ends q ↦ (
        ap length q.ends-is ∙ I.0,
        λ T ep et E. rw q.ends-is (ends-unset _ _ c.args.grammar.packed T ep _ _ _ _ c.requires.production_lt_productions.0 (omega arith) (I.1 T ep et E) q.if-item_ends.false (c.item_ends.ensures T ep et)),
      )
    ]

-- behind the last item
pub returns-after-item_ends : goal.returns-after-item_ends
returns-after-item_ends c = λ T ep et E.
    let I = c.loop-index.invariant in
    let q = (symbols_short _ _ _ c.args.grammar.packed c.requires.production_lt_productions.0 T ep).0 in
    let r = c.length-index-end.ensures in
    ends_last _ _ c.args.grammar.packed T ep c.if-item_ends.ends c.args.production (c.loop-index.index + 1) c.requires.production_lt_productions.0 (omega arith) (omega arith)
    (elim c.if-item_ends.branch [
      | then-item_ends v ↦ ends_set _ _ c.args.grammar.packed T ep _ _ _ _ _ c.requires.production_lt_productions.0 (omega arith) (I.1 T ep et E) v.if-item_ends.true (c.item_ends.ensures T ep et) (v.ends-is ∙ v.put.ensures ∙ ap (bit_put c.loop-index.ends) v.place.ensures.is)
      | else-item_ends v ↦ rw v.ends-is (ends-unset _ _ c.args.grammar.packed T ep _ _ _ _ c.requires.production_lt_productions.0 (omega arith) (I.1 T ep et E) v.if-item_ends.false (c.item_ends.ensures T ep et))
    ])
