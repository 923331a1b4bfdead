use Rattle.lr1_base.specs.repr.Packed.{productions_in}
use Rattle.enumerator.proofs.example.Walk.{symbols_528, symbols-sum}
use Rattle.std.proofs.Common.{refl, arith}
use Rattle.enumerator.proofs.example.Labels.symbol_count.Goals as goal

pub overflow_add-result : goal.overflow_add-result
overflow_add-result c = let A = c.args.self in
    let e = symbols-sum (productions_in A.grammar.words.now A.grammar.productions) A.words.now _ _ _ c.totals-totals.ensures.0 c.middle_count.ensures refl in
    omega (arith, e, symbols_528 A.grammar.words.now A.grammar.productions A.grammar.packed A.words.now A.fit)

pub overflow_add-result-2 : goal.overflow_add-result-2
overflow_add-result-2 c = let A = c.args.self in
    let e = symbols-sum (productions_in A.grammar.words.now A.grammar.productions) A.words.now _ _ _ c.totals-totals.ensures.0 c.middle_count.ensures c.totals-totals.ensures.1 in
    omega (arith, e, symbols_528 A.grammar.words.now A.grammar.productions A.grammar.packed A.words.now A.fit)

pub returns : goal.returns
returns c = let A = c.args.self in
    let e = symbols-sum (productions_in A.grammar.words.now A.grammar.productions) A.words.now _ _ _ c.totals-totals.ensures.0 c.middle_count.ensures c.totals-totals.ensures.1 in
    (e, omega (arith, e, symbols_528 A.grammar.words.now A.grammar.productions A.grammar.packed A.words.now A.fit))
