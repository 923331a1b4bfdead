use mathlib.Core.Path.{refl}
use Rattle.yacc_reader.proofs.Laws.{layout_of, readable, grammar_of, listed-room, listed_small, start_small, has_room, written}
use native.Mathlib.Omega.{arith}
use Rattle.yacc_reader.proofs.write_read.Goals as goal

pub pack-productions-requires-clause-readable : goal.pack-productions-requires-clause-readable
pack-productions-requires-clause-readable c = λ l p. readable _ _ _ (c.requires.passes l p)

pub invariant_of-grammar : goal.invariant_of-grammar
invariant_of-grammar c = let k = layout_of c.args.symbols.now.ids.text.now c.args.symbols.now.grammar in record { packed = (grammar_of c.args.symbols.now.ids.text.now k.0 k.1 _ _ (c.requires.passes k.0 k.1) _ _ _ _ _ _ c.args.symbols.now.named _ _ (c.pack-productions.ensures k.0 k.1)).packed.packed }

pub write_started-requires : goal.write_started-requires
write_started-requires c = let k = layout_of c.args.symbols.now.ids.text.now c.args.symbols.now.grammar in record { grammar_of = (_, grammar_of c.args.symbols.now.ids.text.now k.0 k.1 _ _ (c.requires.passes k.0 k.1) _ _ _ _ _ _ c.args.symbols.now.named _ _ (c.pack-productions.ensures k.0 k.1)); production_lt_production_limit = omega arith }

pub write_places-requires : goal.write_places-requires
write_places-requires c = let k = layout_of c.args.symbols.now.ids.text.now c.args.symbols.now.grammar in record { short = c.requires.short; room = listed-room c.args.symbols.now.ids.text.now k.0 k.1 _ _ (c.requires.passes k.0 k.1) _ _ _ _ _ _ c.args.symbols.now.named }

pub overflow_add-listed : goal.overflow_add-listed
overflow_add-listed c = let k = layout_of c.args.symbols.now.ids.text.now c.args.symbols.now.grammar in let s = listed_small c.args.symbols.now.ids.text.now k.0 k.1 _ _ (c.requires.passes k.0 k.1) _ _ _ _ _ _ c.args.symbols.now.named in omega (arith, s)

pub overflow_cast-result : goal.overflow_cast-result
overflow_cast-result c = let k = layout_of c.args.symbols.now.ids.text.now c.args.symbols.now.grammar in let s = listed_small c.args.symbols.now.ids.text.now k.0 k.1 _ _ (c.requires.passes k.0 k.1) _ _ _ _ _ _ c.args.symbols.now.named in omega (arith, s)

pub overflow_cast-result-2 : goal.overflow_cast-result-2
overflow_cast-result-2 c = let k = layout_of c.args.symbols.now.ids.text.now c.args.symbols.now.grammar in let s = start_small c.args.symbols.now.ids.text.now k.0 k.1 _ _ (c.requires.passes k.0 k.1) _ _ _ _ _ _ c.args.symbols.now.named _ (c.start_of-start.ensures k.0 k.1) in omega (arith, s)

pub returns-in_err-started : goal.returns-in_err-started
returns-in_err-started c = λ l p. absurd (has_room c.args.symbols.now.ids.text.now l p _ _ (c.requires.passes l p) _ _ _ _ _ _ c.args.symbols.now.named _ _ (c.in_err-started.ensures _ (grammar_of c.args.symbols.now.ids.text.now l p _ _ (c.requires.passes l p) _ _ _ _ _ _ c.args.symbols.now.named _ _ (c.pack-productions.ensures l p))) _ _ refl)

pub returns : goal.returns
returns c = λ l p. written c.args.symbols.now.ids.text.now l p _ _ (c.requires.passes l p) _ _ _ _ _ _ c.args.symbols.now.named _ _ (c.in_ok-started.ensures _ (grammar_of c.args.symbols.now.ids.text.now l p _ _ (c.requires.passes l p) _ _ _ _ _ _ c.args.symbols.now.named _ _ (c.pack-productions.ensures l p))) _ _ _ refl (c.write_places.ensures l p) (c.start_of-start.ensures l p)
