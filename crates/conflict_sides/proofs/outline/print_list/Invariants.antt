use Rattle.std.proofs.Common.{◌≡◌, ◌<◌}
use Rattle.conflict_sides.specs.outline.Outline.{print_limit, print_words}
use Rattle.conflict_sides.proofs.outline.print_list.Given as goal

abbrev pub invariant-loop-symbol : goal.invariant-loop-symbol
invariant-loop-symbol l = record {
  two : l.symbol-iterator.size ≡ 2;
  small : l.mixed < print_limit;
  rest : print_words l.mixed l.symbol-iterator.rest.now ≡ print_words l.print l.symbols;
}
