use Rattle.std.proofs.Common.{◌≡◌, vec_len}
use Rattle.first_sets.specs.Sets.{IsSound, room_of}
use Rattle.first_sets.proofs.sets.FirstSets.new.Given as goal

abbrev pub invariant-loop-productions : goal.invariant-loop-productions
invariant-loop-productions l = record {
  terminals : l.sets.sets.columns ≡ vec_len l.grammar.terminals;
  nonterminals : vec_len l.sets.nullable ≡ vec_len l.grammar.nonterminals;
  sound : IsSound l.grammar.productions.items l.sets;
}

abbrev pub decreases-loop-productions : goal.decreases-loop-productions
decreases-loop-productions l = room_of l.sets
