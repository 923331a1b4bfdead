use Rattle.std.proofs.Common.{◌≡◌, ◌<◌, ◌≤◌, ℕ, false, true, All, take, vec_len}
use Rattle.certificate.specs.Sets.{AreProductive, AreReachable, PassesOn, IsIn, room_of}
use Rattle.certificate.proofs.useful.reach_all.Given as goal

abbrev pub invariant-loop-production : goal.invariant-loop-production
invariant-loop-production l = record {
  len : vec_len l.set.members ≡ vec_len l.initial.set.members;
  keeps : (n : ℕ) → IsIn l.initial.set n → IsIn l.set n;
  sound : AreProductive l.productions l.productive → AreReachable l.productions l.initial.set → AreReachable l.productions l.set;
  closed : l.changed ≡ false → All (PassesOn l.productive l.set) (take l.production-index l.productions);
  few : room_of l.set ≤ room_of l.initial.set;
  less : l.changed ≡ true → room_of l.set < room_of l.initial.set;
}
