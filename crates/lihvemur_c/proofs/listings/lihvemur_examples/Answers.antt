use Rattle.lihvemur_c.proofs.Listed.{list_made, list_refused}
use Rattle.lihvemur_c.proofs.listings.lihvemur_examples.Goals as goal

pub returns-in-Some : goal.returns-in-Some
returns-in-Some c = list_made _ _ _ _ _ _ _ _ _ c.lookahead_of-ahead.ensures _ _ _ _ c.told-number.ensures _ _ c.examples-answer.ensures _ c.in-Some.is

pub returns-in_default : goal.returns-in_default
returns-in_default c = list_refused _ _ _ _ _ _ _ _ _ c.lookahead_of-ahead.ensures _ _ _ _ c.told-number.ensures _ _ c.examples-answer.ensures c.in_default.is
