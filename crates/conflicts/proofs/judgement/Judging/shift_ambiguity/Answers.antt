use mathlib.Core.Path.{sym, ◌∙◌}
use Rattle.conflicts.specs.judgement.Judging.{pair_in}
use Rattle.conflicts.proofs.judgement.Ways.{judges_both, ambiguity_operator, ambiguity_plain}
use Rattle.conflicts.proofs.judgement.Sides.{reads_grammar, conflict_production, shift_reads}
use native.Mathlib.Omega.{arith}
use Rattle.conflicts.proofs.judgement.Judging.shift_ambiguity.Goals as goal

pub is_operator-requires : goal.is_operator-requires
is_operator-requires c = let R = c.args.self.case.given.reads in let p = conflict_production _ c.args.self.case.conflict c.args.self.case.fits in omega (arith, p, R.many)

pub owner-requires : goal.owner-requires
owner-requires c = let R = c.args.self.case.given.reads in let p = conflict_production _ c.args.self.case.conflict c.args.self.case.fits in omega (arith, p, R.many)

pub returns-then-is_operator : goal.returns-then-is_operator
returns-then-is_operator c = λ xs ys hx hy.
    let R = c.args.self.case.given.reads in
    let p = conflict_production _ c.args.self.case.conflict c.args.self.case.fits in
    let q = pair_in xs ys c.args.x c.args.y in
    judges_both xs ys c.args.x c.args.y hx hy _ _ _ c.with_both.ensures (ambiguity_operator _ _ R.packed _ (omega (arith, p, R.many)) _ q _ c.owner.ensures (sym c.if-is_operator.true ∙ c.is_operator.ensures) ∙ shift_reads _ _ _ (reads_grammar _ _ _ _ _ _ _ R) _ _ q)

pub returns : goal.returns
returns c = λ xs ys hx hy.
    let R = c.args.self.case.given.reads in
    let p = conflict_production _ c.args.self.case.conflict c.args.self.case.fits in
    let q = pair_in xs ys c.args.x c.args.y in
    judges_both xs ys c.args.x c.args.y hx hy _ _ _ c.with_both-2.ensures (ambiguity_plain _ _ R.packed _ (omega (arith, p, R.many)) _ q (sym c.if-is_operator.false ∙ c.is_operator.ensures) ∙ shift_reads _ _ _ (reads_grammar _ _ _ _ _ _ _ R) _ _ q)

pub overflow_cast-nonterminal : goal.overflow_cast-nonterminal
overflow_cast-nonterminal c =
    let R = c.args.self.case.given.reads in
    let p = conflict_production _ c.args.self.case.conflict c.args.self.case.fits in
    omega (arith, c.owner.ensures, R.packed.owner c.args.self.case.conflict.production.0 (omega (arith, p, R.many)))
