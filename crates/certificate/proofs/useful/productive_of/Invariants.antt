use Rattle.std.proofs.Common.{◌≡◌, vec_len}
use Rattle.certificate.specs.Sets.{AreProductive, room_of}
use Rattle.certificate.proofs.useful.productive_of.Given as goal

abbrev pub invariant-loop-productions : goal.invariant-loop-productions
invariant-loop-productions l = record {
  len : vec_len l.set.members ≡ vec_len l.grammar.nonterminals;
  sound : AreProductive l.grammar.productions.items l.set;
}

abbrev pub decreases-loop-productions : goal.decreases-loop-productions
decreases-loop-productions l = room_of l.set
