use Rattle.lihvemur_c.proofs.Listed.{advance_handed, advance_refused}
use Rattle.lihvemur_c.proofs.listings.lihvemur_advance.Goals as goal

pub returns-in-Some : goal.returns-in-Some
returns-in-Some c = rw c.number.ensures (advance_handed _ _ _ _ _ _ _ _ _ _ c.lookahead_of.ensures _ _ _ _ c.told-number.ensures _ _ _ c.advance-answer.ensures _ c.in-Some.is)

pub returns-in-None : goal.returns-in-None
returns-in-None c = advance_refused _ _ _ _ _ _ _ _ _ _ c.lookahead_of.ensures _ _ _ _ c.told-number.ensures _ _ _ c.advance-answer.ensures c.in-None.is
