use Rattle.std.proofs.Common.{◌≡◌, ◌<◌, ◌≤◌, ℕ, List, false, true, vec_len}
use Rattle.grammar.specs.Derives.{HasRule}
use Rattle.grammar.specs.declared.symbol.Production.{Production}
use Rattle.certificate.specs.Sets.{AreProductive, AreReachable, StandsAt, IsIn, room_of}
use Rattle.certificate.specs.Sentences.{IsInReach}
use Rattle.certificate.proofs.useful.reach.Given as goal

abbrev pub invariant-loop-i : goal.invariant-loop-i
invariant-loop-i l = record {
  len : vec_len l.set.members ≡ vec_len l.initial.set.members;
  keeps : (n : ℕ) → IsIn l.initial.set n → IsIn l.set n;
  sound : (ps : List Production) → HasRule ps l.production.left l.production.right.items → AreProductive ps l.productive → AreReachable ps l.initial.set → AreReachable ps l.set;
  passed : (i n : ℕ) → i < l.i → StandsAt l.productive l.production.right.items i n → IsIn l.set n;
  same : l.changed ≡ false → l.set.members ≡ l.initial.set.members;
  few : room_of l.set ≤ room_of l.initial.set;
  less : l.changed ≡ true → room_of l.set < room_of l.initial.set;
}
