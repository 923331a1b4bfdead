use mathlib.Core.Path.{◌≡◌, refl}
use mathlib.Core.Logic.{◌⊎◌}
use Rattle.std.proofs.Common.{rules}
use Rattle.yacc_reader.specs.declared.events.Saying.TheVariants.{Lists, Uses}
use Rattle.yacc_reader.proofs.symbol_table.Laws.{grows_none, moves-lists, moves-defines, still_name, literal_said, still_literal, word_is, word_undefining, still_word}
use Rattle.yacc_reader.proofs.symbol_table.Words.enter.Goals as goal

pub returns-in-Name-Lists-clause-enters : goal.returns-in-Name-Lists-clause-enters
returns-in-Name-Lists-clause-enters c = let e = c.declare.ensures.enters in record { grows = e.grows; room = e.room; moves = word_is _ _ _ _ _ _ _ _ _ _ _ _ _ _ _ _ _ _ c.in-Name-Lists.is-0 (moves-lists _ _ _ _ _ _ _ _ _ _ _ _ _ _ _ _ _ c.in-Name-Lists.is-1 e.moves) }

pub returns-in-Name-Defines-clause-enters : goal.returns-in-Name-Defines-clause-enters
returns-in-Name-Defines-clause-enters c = let e = c.define.ensures.enters in record { grows = e.grows; room = e.room; moves = word_is _ _ _ _ _ _ _ _ _ _ _ _ _ _ _ _ _ _ c.in-Name-Defines.is-0 (moves-defines _ _ _ _ _ _ _ _ _ _ _ _ _ _ _ _ _ c.in-Name-Defines.is-1 e.moves) }

pub returns-in-Literal-Lists-clause-enters : goal.returns-in-Literal-Lists-clause-enters
returns-in-Literal-Lists-clause-enters c =
    let e = c.quote.ensures.enters in
    let s : (c.args.token.what ≡ Lists) ⊎ (c.args.token.what ≡ Uses) = search rules in
    record { grows = e.grows; room = e.room; moves = word_is _ _ _ _ _ _ _ _ _ _ _ _ _ _ _ _ _ _ c.in-Literal-Lists.is-0 (literal_said _ _ _ _ _ _ _ _ _ _ _ _ _ _ _ _ e.moves s) }

pub returns-in_default-clause-enters : goal.returns-in_default-clause-enters
returns-in_default-clause-enters c = record {
  grows = grows_none _;
  room = record { starts = refl; pasts = refl; ix = refl; lefts = refl; tokens = refl };
  moves = word_is _ _ _ _ _ _ _ _ _ _ _ _ _ _ _ _ _ _ c.in_default.is-0 (still_name _ _ _ _ _ _ _ _ _ _ c.in_default.not-Lists-1 c.in_default.not-Defines-1);
}

pub returns-in_default-2-clause-enters : goal.returns-in_default-2-clause-enters
returns-in_default-2-clause-enters c = record {
  grows = grows_none _;
  room = record { starts = refl; pasts = refl; ix = refl; lefts = refl; tokens = refl };
  moves = word_is _ _ _ _ _ _ _ _ _ _ _ _ _ _ _ _ _ _ c.in_default.is-0 (still_literal _ _ _ _ _ _ _ _ _ _ c.in_default.not-Lists-1 c.in_default.not-Uses-1 (word_undefining _ _ _ c.args.token.says c.in_default.is-0 c.requires.no_quote));
}

pub returns-in_default-3-clause-enters : goal.returns-in_default-3-clause-enters
returns-in_default-3-clause-enters c = record {
  grows = grows_none _;
  room = record { starts = refl; pasts = refl; ix = refl; lefts = refl; tokens = refl };
  moves = rw c.args.token.says (still_word _ _ _ _ _ _ _ _ _ _ _ c.in_default.not-Name-0 c.in_default.not-Literal-0);
}
