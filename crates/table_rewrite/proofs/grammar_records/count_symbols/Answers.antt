use Rattle.std.proofs.Common.{length, refl, ◌∙◌, arith, rules, tests}
use Rattle.std.specs.List.{range_with_len}
use Rattle.std.proofs.lemmas.Iterator.{YieldsList-from_range, YieldsList-from_map}
use Rattle.std.proofs.lemmas.Iterator.Consumers.{YieldsList-at, sum_by_from_yields_List, fits_by_from_yields_list}
use Rattle.lr1_base.specs.repr.Listed.{listed}
use Rattle.lr1_base.specs.repr.Packed.{symbol_words}
use Rattle.table_rewrite.proofs.grammar_records.Packed.{symbols_sum, symbols_few}
use Rattle.table_rewrite.proofs.grammar_records.count_symbols.Goals as goal

pub sum-requires-clause-fits : goal.sum-requires-clause-fits
sum-requires-clause-fits c =
    let g = c.args.grammar.words.now in
    let n = c.args.grammar.productions in
    fits_by_from_yields_list (λ p. length (listed (symbol_words g p))) (range_with_len 0 n) c.map.result _
    (YieldsList-from_map _ (λ p. length (listed (symbol_words g p))) (YieldsList-at c.map.ensures.source (YieldsList-from_range 0 n n refl (omega arith))) c.map.ensures.closure (λ x a q k. search (rules, tests)))
    (omega (arith, symbols_few g n c.args.grammar.packed, c.args.grammar.packed.few))

pub returns : goal.returns
returns c =
    let g = c.args.grammar.words.now in
    let n = c.args.grammar.productions in
    sum_by_from_yields_List (λ p. length (listed (symbol_words g p))) (range_with_len 0 n) c.map.result _ c.sum.ensures.ran
    (YieldsList-from_map _ (λ p. length (listed (symbol_words g p))) (YieldsList-at c.map.ensures.source (YieldsList-from_range 0 n n refl (omega arith))) c.map.ensures.closure (λ x a q k. search (rules, tests)))
    ∙ symbols_sum g n c.args.grammar.packed
