use Rattle.std.proofs.Common.{◌≡◌, ℕ, vec_len}
use Rattle.std.specs.Prelude.{slice_get, Some}
use Rattle.grammar.specs.declared.symbol.Production.{Production}
use Rattle.certificate.specs.Sets.{AreReachable, IsIn, room_of}
use Rattle.certificate.proofs.useful.reachable_of.Given as goal

abbrev pub invariant-loop-productions : goal.invariant-loop-productions
invariant-loop-productions l = record {
  len : vec_len l.set.members ≡ vec_len l.grammar.nonterminals;
  started : (p : Production) → slice_get l.grammar.productions.items 0 ≡ Some p → IsIn l.set p.left;
  sound : AreReachable l.grammar.productions.items l.set;
}

abbrev pub decreases-loop-productions : goal.decreases-loop-productions
decreases-loop-productions l = room_of l.set
