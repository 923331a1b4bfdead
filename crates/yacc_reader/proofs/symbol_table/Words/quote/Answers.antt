use mathlib.Core.Path.{refl}
use Rattle.yacc_reader.proofs.symbol_table.Laws.{numbered_most, quote-moves}
use native.Mathlib.Omega.{arith}
use Rattle.yacc_reader.proofs.symbol_table.Words.quote.Goals as goal

pub number-requires : goal.number-requires
number-requires c = let b = c.byte-word.ensures.1 in let h = c.requires.ready.token in (omega (arith, b, h), c.requires.ready.names.terminals)

pub returns-clause-enters : goal.returns-clause-enters
returns-clause-enters c = record {
  grows = record { names = omega arith; nonterminals = omega arith; terminals = numbered_most _ _ _ _ c.number.ensures.value };
  room = record { starts = refl; pasts = refl; ix = refl; lefts = refl; tokens = c.number.auto.numbers };
  moves = quote-moves _ _ _ _ _ _ c.args.lexeme.from c.byte-word.ensures c.number.ensures.numbers_after c.number.ensures.value _ _ _ _;
}
