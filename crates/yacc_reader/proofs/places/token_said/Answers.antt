use mathlib.Core.Logic.{◌⊎◌, inl, inr}
use mathlib.Core.Path.{◌≡◌, refl}
use mathlib.Core.List.{append-nil}
use Rattle.std.proofs.Common.{rules}
use Rattle.lr1_base.specs.repr.Lists.{joined}
use Rattle.yacc_syntax.specs.declared.lexer.Word.TheVariants.{Literal}
use Rattle.yacc_reader.specs.parsed_file.Source.{token_use}
use Rattle.yacc_reader.specs.events.Said.{events_of}
use Rattle.yacc_reader.specs.declared.events.Saying.TheVariants.{Lists, Uses}
use Rattle.yacc_reader.proofs.name_errors.Laws.{use_word, lists-word}
use Rattle.yacc_reader.specs.places.Placed.{entered_place}
use Rattle.yacc_reader.proofs.places.Laws.{said_enters, token_none, use_literal, use_name}
use Rattle.yacc_reader.proofs.places.token_said.Goals as goal

pub returns-in-Lists-default : goal.returns-in-Lists-default
unfolding joined token_use events_of entered_place
returns-in-Lists-default c = λ ns ts H.
    let s : (c.args.token.what ≡ Lists) ⊎ ((c.args.token.what ≡ Uses) × (c.args.token.lexeme.word ≡ Literal)) = search rules in
    elim s [
      | inl l ↦ said_enters token_use _ _ _ _ _ _ _ _ l refl (c.token.ensures (lists-word _ _ _ c.args.token.says l) ns ts H)
      | inr u ↦ said_enters token_use _ _ _ _ _ _ _ _ u.0 (append-nil _) (use_literal _ _ _ _ _ _ u.1 (c.token.ensures (use_word _ _ _ c.args.token.says u.0) ns ts H))
    ]

pub returns-in_default : goal.returns-in_default
unfolding joined token_use events_of
returns-in_default c = λ ns ts H. said_enters token_use _ _ _ _ _ _ _ _ c.in_default.is-0 (append-nil _) (use_name _ _ _ _ _ (use_word _ _ _ c.args.token.says c.in_default.is-0) c.in_default.not-Literal-1)

pub returns-in_default-2 : goal.returns-in_default-2
returns-in_default-2 c = λ ns ts H. token_none _ _ _ _ _ c.in_default.not-Lists-0 c.in_default.not-Uses-0
