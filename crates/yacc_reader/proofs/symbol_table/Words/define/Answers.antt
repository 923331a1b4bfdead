use mathlib.Core.Path.{ap, ◌∙◌}
use mathlib.Core.List.{List}
use Prim.Native.Nat.{ℕ}
use Rattle.yacc_reader.specs.numbers.Numbers.{numbered, numbered_to}
use Rattle.yacc_reader.proofs.symbol_table.Laws.{numbered_most, define_moves}
use native.Mathlib.Omega.{arith}
use Rattle.yacc_reader.proofs.symbol_table.Words.define.Goals as goal

pub number-requires : goal.number-requires
number-requires c = let o = c.requires.ready.names in let h = c.requires.ready.left in let P = c.place-placed.ensures.places in let a = P.low.0 in let b = P.low.1 in let r = P.room.lefts in (omega (arith, a, b, h, r), o.nonterminals)

pub returns-clause-enters : goal.returns-clause-enters
returns-clause-enters c = let P = c.place-placed.ensures.places in record {
  grows = record { names = P.low.1; nonterminals = numbered_most _ _ _ _ c.number.ensures.value; terminals = omega arith };
  room = record { starts = P.room.starts; pasts = P.room.pasts; ix = P.room.ix; lefts = c.number.auto.numbers ∙ P.room.lefts; tokens = P.room.tokens };
  moves = rw P.tokens (define_moves _ _ _ _ _ _ _ _ _ c.requires.ready.names _ _ c.requires.within P.is _ _ _ c.requires.ready.left (c.number.ensures.numbers_after ∙ ap (λ (l : List ℕ). numbered l c.place-placed.result.number c.args.ids.nonterminals) P.lefts) (c.number.ensures.value ∙ ap (λ (l : List ℕ). numbered_to l c.place-placed.result.number c.args.ids.nonterminals) P.lefts) _ c.requires.ready.token);
}
