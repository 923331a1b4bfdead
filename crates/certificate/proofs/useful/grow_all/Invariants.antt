use Rattle.std.proofs.Common.{◌≡◌, ◌<◌, ◌≤◌, false, true, All, take, vec_len}
use Rattle.certificate.specs.Sets.{AreProductive, IsClosedFor, room_of}
use Rattle.certificate.proofs.useful.grow_all.Given as goal

abbrev pub invariant-loop-production : goal.invariant-loop-production
invariant-loop-production l = record {
  len : vec_len l.set.members ≡ vec_len l.initial.set.members;
  sound : AreProductive l.productions l.initial.set → AreProductive l.productions l.set;
  closed : l.changed ≡ false → All (IsClosedFor l.set) (take l.production-index l.productions);
  few : room_of l.set ≤ room_of l.initial.set;
  less : l.changed ≡ true → room_of l.set < room_of l.initial.set;
}
