use mathlib.Core.Path.{◌≡◌, refl, ◌∙◌}
use Rattle.lr1_base.specs.repr.Reply.{answered}
use Rattle.enumerator.specs.declared.trials.Advanced.{Advanced}
use Rattle.enumerator.specs.declared.trials.Advanced.TheVariants.{Example, End}
use Rattle.enumerator.specs.trials.Advance.{number_of_advanced}
use Rattle.listing.specs.CallList.{number_of_answer}
use Rattle.listing.proofs.answer_number.Goals as goal

of_advanced : (a : Advanced) → number_of_advanced a ≡ number_of_answer (answered a)
unfolding number_of_advanced number_of_answer
of_advanced Example = refl
of_advanced End = refl

pub returns-in-Ok : goal.returns-in-Ok
returns-in-Ok c = rw c.in-Ok.is (c.number.ensures ∙ of_advanced _)

pub returns-in-Err : goal.returns-in-Err
unfolding number_of_answer
returns-in-Err c = rw c.in-Err.is c.number-in-Err.ensures
