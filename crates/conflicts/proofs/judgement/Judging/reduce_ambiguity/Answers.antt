use mathlib.Core.Path.{◌∙◌}
use Rattle.conflicts.specs.judgement.Judging.{pair_in}
use Rattle.conflict_sides.proofs.examples.Both.{no_shift}
use Rattle.conflicts.proofs.judgement.Ways.{judges_same, judges_both, reduction_spans, reduction_plain}
use Rattle.conflicts.proofs.judgement.Sides.{reads_grammar, conflict_production, conflict_operand, kept-place, kept-first, first_reads, reduce_reads}
use native.Mathlib.Omega.{arith}
use Rattle.conflicts.proofs.judgement.Judging.reduce_ambiguity.Goals as goal

pub outline-action-requires : goal.outline-action-requires
outline-action-requires c = let P = c.requires.sides in (kept-place _ _ _ P.0 _ _ P.1.1.0.action c.args.x P.1.1.1.0).0

pub outline-reduce-requires : goal.outline-reduce-requires
outline-reduce-requires c = let P = c.requires.sides in (kept-place _ _ _ P.1.0 _ _ P.1.1.0.reduce c.args.y P.1.1.1.1).0

pub span-start-requires : goal.span-start-requires
span-start-requires c = let R = c.args.self.case.given.reads in let p = conflict_production _ c.args.self.case.conflict c.args.self.case.fits in omega (arith, p, R.many)

pub span-other_start-requires : goal.span-other_start-requires
span-other_start-requires c = let R = c.args.self.case.given.reads in let o = conflict_operand _ c.args.self.case.conflict c.args.self.case.fits (no_shift _ c.requires.reduces) in omega (arith, o, R.many)

pub returns-then-action-reduce : goal.returns-then-action-reduce
returns-then-action-reduce c = λ xs ys K hx hy.
    let R = c.args.self.case.given.reads in
    let G = reads_grammar _ _ _ _ _ _ _ R in
    let p = conflict_production _ c.args.self.case.conflict c.args.self.case.fits in
    let o = conflict_operand _ c.args.self.case.conflict c.args.self.case.fits (no_shift _ c.requires.reduces) in
    judges_same xs ys _ _ _
    (reduction_spans _ _ R.packed _ (omega (arith, p, R.many)) _ (omega (arith, o, R.many)) xs ys c.args.x c.args.y hx hy _ _ (first_reads _ _ _ G _ _ (kept-first _ _ _ xs _ _ K.action c.args.x hx _ c.outline-action.ensures)) (first_reads _ _ _ G _ _ (kept-first _ _ _ ys _ _ K.reduce c.args.y hy _ c.outline-reduce.ensures)) c.if-action-reduce.true _ _ _ _ c.span-start.ensures.0 c.span-start.ensures.1 c.span-other_start.ensures.0 c.span-other_start.ensures.1)
    (reduce_reads _ _ _ G _ _ (pair_in xs ys c.args.x c.args.y))

pub returns : goal.returns
returns c = λ xs ys K hx hy.
    let R = c.args.self.case.given.reads in
    let G = reads_grammar _ _ _ _ _ _ _ R in
    let p = conflict_production _ c.args.self.case.conflict c.args.self.case.fits in
    let o = conflict_operand _ c.args.self.case.conflict c.args.self.case.fits (no_shift _ c.requires.reduces) in
    judges_both xs ys c.args.x c.args.y hx hy _ _ _ c.with_both.ensures
    (reduction_plain _ _ R.packed _ (omega (arith, p, R.many)) _ (omega (arith, o, R.many)) xs ys c.args.x c.args.y hx hy _ _ (first_reads _ _ _ G _ _ (kept-first _ _ _ xs _ _ K.action c.args.x hx _ c.outline-action.ensures)) (first_reads _ _ _ G _ _ (kept-first _ _ _ ys _ _ K.reduce c.args.y hy _ c.outline-reduce.ensures)) c.if-action-reduce.false
    ∙ reduce_reads _ _ _ G _ _ (pair_in xs ys c.args.x c.args.y))
