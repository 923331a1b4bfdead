use Rattle.std.proofs.Common.{◌≡◌, true, false, refl, sym, ◌∙◌, arith}
use Rattle.first_sets.proofs.Textbook.{all_null, null_place}
use Rattle.automaton.proofs.closure.may_all_be_empty.Goals as goal

pub returns-then-not-may_be_empty : goal.returns-then-not-may_be_empty
returns-then-not-may_be_empty c = (
  λ (h : false ≡ true). cc,
  λ a. sym c.if-not-may_be_empty.true ∙ c.may_be_empty.ensures.1 (null_place c.args.first.now c.args.symbols.now a c.loop-symbol.symbol-index (omega arith)),
)

pub returns : goal.returns
returns c = (λ h. all_null c.args.first.now c.args.symbols.now (λ j l. c.loop-symbol.invariant j (omega arith)), λ a. refl)
