use Rattle.output_text.proofs.conflict_lines.Texts.{own_nothing, own_nonterminal, own_question, own_reduction}
use native.Mathlib.Omega.{arith}
use Rattle.output_text.proofs.conflict_lines.put_own.Goals as goal

pub returns-in-Naive : goal.returns-in-Naive
returns-in-Naive c = own_nothing _ _ c.in-Naive.is

pub returns-in-Precedence : goal.returns-in-Precedence
returns-in-Precedence c = (own_nonterminal c.in-Precedence.is c.put_after-in-Precedence.ensures.0, omega (arith, c.put_after-in-Precedence.ensures.1))

pub returns-in-SuggestQuestion : goal.returns-in-SuggestQuestion
returns-in-SuggestQuestion c = (own_question c.in-SuggestQuestion.is c.put_after-next.ensures.0 c.put_symbol.ensures.0, omega (arith, c.put_after-next.ensures.1, c.put_symbol.ensures.1))

pub returns-in-AmbiguousReduction : goal.returns-in-AmbiguousReduction
returns-in-AmbiguousReduction c = (own_reduction c.in-AmbiguousReduction.is c.put_after-first.ensures.0 c.put_after-second.ensures.0 c.put_after-third.ensures.0 c.put_after.ensures.0, omega (arith, c.put_after-first.ensures.1, c.put_after-second.ensures.1, c.put_after-third.ensures.1, c.put_after.ensures.1))
