use Rattle.std.proofs.Common.{◌∙◌}
use Rattle.lr1_base.proofs.repr.FrontSymbol.{first_in_range}
use Rattle.first.proofs.Walk.{walk_start, walk_end, walk_more, walk-stop}
use Rattle.first.proofs.FirstSets.end_marked.Goals as goal

pub loop-symbol-init : goal.loop-symbol-init
loop-symbol-init c = rw c.into_iter-symbol-iterator.ensures.into_iter_gives (walk_start _ _ _ _ c.new-result.ensures.0)

pub symbol_first-set-requires : goal.symbol_first-set-requires
symbol_first-set-requires c = first_in_range _ _ _ c.loop-symbol.symbol-iterator.fits c.in-Some.ensures.steps

pub returns-then-not-nullable : goal.returns-then-not-nullable
returns-then-not-nullable c = walk-stop _ _ _ _ _ _ _ _ _ _ c.in-Some.ensures.steps c.symbol_first-set.ensures c.take_eof-nullable.ensures.is c.take_eof-nullable.ensures.changed c.union-result.ensures.is c.if-not-nullable.true
    ∙ c.loop-symbol.invariant

pub loop-symbol-preserved : goal.loop-symbol-preserved
loop-symbol-preserved c = walk_more _ _ _ _ _ _ _ _ _ _ c.in-Some.ensures.steps c.symbol_first-set.ensures c.take_eof-nullable.ensures.is c.take_eof-nullable.ensures.changed c.union-result.ensures.is c.if-not-nullable.false
    ∙ c.loop-symbol.invariant

pub returns : goal.returns
returns c = walk_end _ _ _ _ _ c.in-None.ensures.steps.0 c.args.self.now.few c.with.ensures.is ∙ c.loop-symbol.invariant
