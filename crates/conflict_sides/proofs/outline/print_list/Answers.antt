use Rattle.std.proofs.Common.{sym, ◌∙◌, arith}
use Rattle.conflict_sides.proofs.outline.Prints.{list_end, list_more}
use Rattle.conflict_sides.proofs.outline.print_list.Goals as goal

pub loop-symbol-preserved : goal.loop-symbol-preserved
loop-symbol-preserved c =
    let s = c.in-Some.ensures.steps in
    record {
      two = s.0 ∙ c.loop-symbol.invariant.two;
      small = c.mix-mixed.ensures.1;
      rest = list_more _ _ _ _ s.1.0 (s.1.1 ∙ c.loop-symbol.invariant.two) _ _ _ c.word.ensures.0 c.word-in-loop-symbol.ensures.0 c.mix-mixed.ensures.0 ∙ c.loop-symbol.invariant.rest;
    }

pub returns : goal.returns
returns c =
    let s = c.in-None.ensures.steps in
    let two = c.loop-symbol.invariant.two in
    (sym (list_end c.loop-symbol.mixed c.loop-symbol.symbol-iterator.rest.now (omega (arith, s.1.0, two))) ∙ c.loop-symbol.invariant.rest, c.loop-symbol.invariant.small)
