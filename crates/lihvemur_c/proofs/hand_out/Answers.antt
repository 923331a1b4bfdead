use Rattle.std.proofs.Common.{refl}
use Rattle.lihvemur_c.proofs.Numbered.{told_some, handed_none}
use Rattle.lihvemur_c.proofs.hand_out.Goals as goal

pub returns-in-Some : goal.returns-in-Some
returns-in-Some c = let T = told_some _ _ _ _ c.told-number.ensures _ c.in-Some.is in rw T.0 (T.1.0, T.1.1, refl)

pub returns-in_default : goal.returns-in_default
returns-in_default c = handed_none _ _ _ _ _ c.told-number.ensures c.in_default.is
