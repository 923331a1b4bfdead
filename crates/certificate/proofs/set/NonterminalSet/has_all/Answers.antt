use Rattle.std.proofs.Common.{◌≤◌, length, refl, arith}
use Rattle.std.proofs.lemmas.List.{take_all}
use Rattle.std.proofs.lemmas.List.Elements.{All-more}
use Rattle.grammar.specs.declared.symbol.Symbol.TheVariants.{Terminal}
use Rattle.certificate.specs.Sets.{SymbolIn}
use Rattle.certificate.proofs.set.NonterminalSet.has_all.Goals as goal

pub loop-symbol-preserved : goal.loop-symbol-preserved
loop-symbol-preserved c =
    All-more (SymbolIn c.args.self.now) c.args.symbols.now c.loop-symbol.symbol-index (Terminal 0) c.loop-symbol-test.true c.loop-symbol.invariant (c.has_symbol.ensures.0 c.if-not-has_symbol.false)

pub returns : goal.returns
returns c =
    let enough : length c.args.symbols.now ≤ c.loop-symbol.symbol-index = omega arith in
    (λ t. rw take_all at c.loop-symbol.invariant, λ all. refl)
