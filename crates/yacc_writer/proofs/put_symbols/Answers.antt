use Rattle.std.proofs.Common.{arith}
use Rattle.lr1_base.proofs.repr.FrontSymbol.{first_in_range}
use Rattle.yacc_writer.proofs.Turns.{symbols-first, listed_few, symbols-more, symbols_end}
use Rattle.yacc_writer.proofs.put_symbols.Goals as goal

pub loop-symbol-init : goal.loop-symbol-init
loop-symbol-init c = rw c.into_iter-symbol-iterator.ensures.into_iter_gives (symbols-first _ _ _)

pub put_symbol-place-requires : goal.put_symbol-place-requires
put_symbol-place-requires c =
    let n = c.loop-symbol.invariant.near in
    let f = listed_few c.args.words.now in
    (omega (arith, n, f, c.requires.0, c.requires.1.0), first_in_range _ _ _ c.loop-symbol.symbol-iterator.fits c.in-Some.ensures.steps)

pub loop-symbol-preserved : goal.loop-symbol-preserved
loop-symbol-preserved c = symbols-more _ c.loop-symbol.invariant c.in-Some.ensures.steps c.put_symbol-place.ensures.0 c.put_symbol-place.ensures.1

pub returns : goal.returns
returns c = symbols_end _ c.loop-symbol.invariant c.in-None.ensures.steps.0 c.requires.1.0
