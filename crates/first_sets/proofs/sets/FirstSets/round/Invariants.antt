use Rattle.std.proofs.Common.{◌≡◌, ◌<◌, ◌≤◌, false, true, All, take, vec_len}
use Rattle.bit_table.specs.Table.{SameShape}
use Rattle.first_sets.specs.Sets.{IsSound, IsClosedFor, room_of}
use Rattle.first_sets.proofs.sets.FirstSets.round.Given as goal

abbrev pub invariant-loop-production : goal.invariant-loop-production
invariant-loop-production l = record {
  shape : SameShape l.initial.self.sets l.self.sets;
  len : vec_len l.self.nullable ≡ vec_len l.initial.self.nullable;
  sound : IsSound l.productions l.initial.self → IsSound l.productions l.self;
  closed : l.changed ≡ false → All (λ p. IsClosedFor l.self p.left p.right.items) (take l.production-index l.productions);
  few : room_of l.self ≤ room_of l.initial.self;
  less : l.changed ≡ true → room_of l.self < room_of l.initial.self;
}
