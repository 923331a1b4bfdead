use native.Mathlib.Omega.{arith}
use mathlib.Core.Path.{sym, ◌∙◌}
use borrow.Author.Tests.{leb-false}
use Rattle.yacc_reader.proofs.Laws.{outside, fault_told}
use Rattle.yacc_reader.proofs.misnamed_at.Goals as goal
use Rattle.yacc_reader.proofs.misnamed_at.Goals.{in-Some, in-None, else-is_short-via-then-is_short+else-is_grammar, else-is_short-via-else-is_short}

pub returns-then-is_grammar : goal.returns-then-is_grammar
returns-then-is_grammar c =
    let f = c.fault_in.ensures in
    elim c.match-fault_in.branch [
      | in-Some w ↦ (let g = rw w.in-Some.is at f in rw w.result-is (g.inside, λ h l p y. fault_told l _ 0 (g.first l p) y))
      | in-None w ↦ (let g = rw w.in-None.is at f in rw w.result-is (w.words_end.ensures.0, λ h l p y. fault_told l _ _ (g.first l p) y))
    ]

pub returns : goal.returns
returns c = (
  omega arith,
  λ h l p y. absurd (elim c.else-is_short.branch [
    | else-is_short-via-then-is_short+else-is_grammar w ↦ outside _ (sym w.is_grammar.ensures ∙ w.if-is_grammar.false) l p
    | else-is_short-via-else-is_short w ↦ (let s = leb-false _ _ (sym c.is_short.ensures ∙ w.if-is_short.false) in omega (arith, h, s))
  ]),
)
