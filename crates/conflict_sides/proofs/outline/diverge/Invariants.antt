use Rattle.std.proofs.Common.{◌≡◌, true}
use Rattle.lr1_base.specs.repr.Sizes.{nonterminal_limit, terminal_limit}
use Rattle.lr1_base.specs.repr.Listed.{listed, list_is_fit}
use Rattle.conflict_sides.specs.outline.Inline.{diverge_by}
use Rattle.conflict_sides.proofs.outline.diverge.Given as goal

abbrev pub invariant-loop-own : goal.invariant-loop-own
invariant-loop-own l = record {
  own_two : l.own-iterator.a.size ≡ 2;
  other_two : l.own-iterator.b.size ≡ 2;
  own_fits : list_is_fit nonterminal_limit terminal_limit l.own-iterator.a.rest.now ≡ true;
  other_fits : list_is_fit nonterminal_limit terminal_limit l.own-iterator.b.rest.now ≡ true;
  rest : diverge_by l.sets.terminals l.sets.map (listed l.own-iterator.a.rest.now) (listed l.own-iterator.b.rest.now) ≡ diverge_by l.sets.terminals l.sets.map (listed l.first) (listed l.second);
}
