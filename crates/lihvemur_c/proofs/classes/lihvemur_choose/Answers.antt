use Rattle.std.proofs.Common.{arith}
use Rattle.lihvemur_c.proofs.Reported.{choose-refused, choose-chosen, short-refused, short-chosen}
use Rattle.lihvemur_c.proofs.classes.lihvemur_choose.Goals as goal

pub returns-in-Ok : goal.returns-in-Ok
returns-in-Ok c = rw (c.refuse.ensures.number, c.refuse.ensures.place) (short-chosen _ _ _ _ _ _ _ _ (omega (arith, c.if-entries-lt-ALL_WORDS.true)) c.choose.auto.scratch c.choose.ensures _ c.in-Ok.is)

pub returns-in-Err : goal.returns-in-Err
returns-in-Err c = rw (c.refuse-in-Err.ensures.number, c.refuse-in-Err.ensures.place) (short-refused _ _ _ _ _ _ _ _ (omega (arith, c.if-entries-lt-ALL_WORDS.true)) c.choose.auto.scratch c.choose.ensures _ c.in-Err.is)

pub returns-in-Some : goal.returns-in-Some
returns-in-Some c = choose-chosen _ _ _ _ _ _ _ _ (omega (arith, c.if-entries-lt-ALL_WORDS.false)) c.choose-2.ensures _ _ _ c.told-number.ensures _ c.in-Some.is _ c.copy_entries.ensures

pub returns-in_default : goal.returns-in_default
returns-in_default c = choose-refused _ _ _ _ _ _ _ _ (omega (arith, c.if-entries-lt-ALL_WORDS.false)) c.choose-2.ensures _ _ _ c.told-number.ensures c.in_default.is
