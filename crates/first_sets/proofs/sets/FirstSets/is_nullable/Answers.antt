use Rattle.std.proofs.Common.{◌≡◌, true, false, refl, sym, ◌∙◌, arith}
use Rattle.first_sets.proofs.Textbook.{all_null, null_place, null_exact}
use Rattle.first_sets.proofs.sets.FirstSets.is_nullable.Goals as goal

pub returns-then-not-may_be_empty : goal.returns-then-not-may_be_empty
returns-then-not-may_be_empty c ps are =
    let s = c.args.self.now in let xs = c.args.symbols.now in (
      λ (h : false ≡ true). cc,
      λ v. sym c.if-not-may_be_empty.true ∙ c.may_be_empty.ensures.1 (null_place s xs ((null_exact ps s are xs).1 v) c.loop-symbol.symbol-index (omega arith)),
    )

pub returns : goal.returns
returns c ps are =
    let s = c.args.self.now in let xs = c.args.symbols.now in
    (λ h. (null_exact ps s are xs).0 (all_null s xs (λ j l. c.loop-symbol.invariant j (omega arith))), λ v. refl)
