use Rattle.std.proofs.Common.{◌≡◌, false, true, refl, sym, ◌∙◌, arith}
use Rattle.std.proofs.lemmas.Bool.{eqb-true, eq-eqb}
use Rattle.certificate.proofs.Parting.{within_first, within_second, first_at, second_at, shifts_before, parted_at}
use Rattle.certificate.proofs.judging.part_at.Goals as goal
use Rattle.certificate.proofs.judging.part_at.Goals.{then-at-first-via-then-at-first, then-at-first-via-else-at-first+then-at-second}

pub returns-then-at-first : goal.returns-then-at-first
returns-then-at-first c =
    let s = c.common-at.ensures in (
      λ (h : false ≡ true). cc,
      λ p.
          elim c.then-at-first.branch [
            | then-at-first-via-then-at-first w ↦
                let l = within_first c.args.fork c.args.first.now c.args.second.now c.common-at.result s.same s.parts c.args.point p in
                absurd (omega (arith, w.if-at-first.true))
            | then-at-first-via-else-at-first+then-at-second w ↦
                let l = within_second c.args.fork c.args.first.now c.args.second.now c.common-at.result s.same s.parts c.args.point p in
                absurd (omega (arith, w.if-at-second.true))
          ],
    )

pub returns-then-not-is_same_action : goal.returns-then-not-is_same_action
returns-then-not-is_same_action c = let s = c.common-at.ensures in (
  λ (h : false ≡ true). cc,
  λ p. sym c.if-not-is_same_action.true ∙ c.is_same_action.ensures.1 (first_at c.args.fork c.args.first.now c.args.second.now c.common-at.result s.same s.parts c.args.point p),
)

pub returns-then-not-is_same_action-2 : goal.returns-then-not-is_same_action-2
returns-then-not-is_same_action-2 c = let s = c.common-at.ensures in (
  λ (h : false ≡ true). cc,
  λ p. sym c.if-not-is_same_action-2.true ∙ c.is_same_action-2.ensures.1 (second_at c.args.fork c.args.first.now c.args.second.now c.common-at.result s.same s.parts c.args.point p),
)

pub returns : goal.returns
returns c =
    let s = c.common-at.ensures in (
      λ e. parted_at c.args.fork c.args.first.now c.args.second.now c.common-at.result s.same s.parts c.args.point (omega arith) (omega arith)
          (c.is_same_action.ensures.0 c.if-not-is_same_action.false) (c.is_same_action-2.ensures.0 c.if-not-is_same_action-2.false) (sym c.shifts.ensures ∙ eqb-true c.shifts.result c.args.point e),
      λ p. eq-eqb c.shifts.result c.args.point (c.shifts.ensures ∙ shifts_before c.args.fork c.args.first.now c.args.second.now c.common-at.result s.same s.parts c.args.point p),
    )
