use mathlib.Core.Path.{refl}
use Rattle.lr1_base.specs.repr.Lists.{joined}
use Rattle.yacc_reader.specs.parsed_file.Source.{left_side}
use Rattle.yacc_reader.specs.events.Said.{events_of}
use Rattle.yacc_reader.proofs.name_errors.Laws.{define_word}
use Rattle.yacc_reader.specs.places.Placed.{entered_place}
use Rattle.yacc_reader.proofs.places.Laws.{said_enters, left_none}
use Rattle.yacc_reader.proofs.places.left_said.Goals as goal

pub returns-in-Defines : goal.returns-in-Defines
unfolding joined left_side events_of entered_place
returns-in-Defines c = λ ns ts H. said_enters left_side _ _ _ _ _ _ _ _ c.in-Defines.is refl (c.left.ensures (define_word _ _ _ c.args.token.says c.in-Defines.is) ns ts H)

pub returns-in_default : goal.returns-in_default
returns-in_default c = λ ns ts H. left_none _ _ _ _ _ c.in_default.not-Defines
