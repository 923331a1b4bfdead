use mathlib.Core.Path.{ap, ◌∙◌}
use mathlib.Core.List.{List}
use Prim.Native.Nat.{ℕ, ◌+◌}
use Rattle.yacc_syntax.specs.text.Grammar.{byte_limit}
use Rattle.yacc_reader.specs.numbers.Numbers.{numbered, numbered_to}
use Rattle.yacc_reader.proofs.symbol_table.Laws.{numbered_most, declare_moves}
use native.Mathlib.Omega.{arith}
use Rattle.yacc_reader.proofs.symbol_table.Words.declare.Goals as goal

pub overflow_add-word : goal.overflow_add-word
overflow_add-word c = let o = c.requires.ready.names.names in let l = c.place-placed.ensures.places.low in let a = l.0 in let b = l.1 in omega (arith, a, b, o)

pub number-requires : goal.number-requires
number-requires c = let o = c.requires.ready.names in let h = c.requires.ready.token in let P = c.place-placed.ensures.places in let a = P.low.0 in let b = P.low.1 in let r = P.room.tokens in (omega (arith, a, b, h, r), o.terminals)

pub returns-clause-enters : goal.returns-clause-enters
returns-clause-enters c = let P = c.place-placed.ensures.places in record {
  grows = record { names = P.low.1; nonterminals = omega arith; terminals = numbered_most _ _ _ _ c.number.ensures.value };
  room = record { starts = P.room.starts; pasts = P.room.pasts; ix = P.room.ix; lefts = P.room.lefts; tokens = c.number.auto.numbers ∙ P.room.tokens };
  moves = rw P.lefts (declare_moves _ _ _ _ _ _ _ _ _ c.requires.ready.names _ _ c.requires.within P.is _ _ _ c.requires.ready.token (c.number.ensures.numbers_after ∙ ap (λ (l : List ℕ). numbered l (byte_limit + c.place-placed.result.number) c.args.ids.terminals) P.tokens) (c.number.ensures.value ∙ ap (λ (l : List ℕ). numbered_to l (byte_limit + c.place-placed.result.number) c.args.ids.terminals) P.tokens) _ c.requires.ready.left);
}
