-- What a word says in a mode, and a function of all that a text says, as a loop over the tokens computes it.
use Rattle.std.specs.Prelude.{ℕ, ◌+◌, ◌-◌, List, [], ◌∷◌, get_or, take, drop}
use Rattle.std.proofs.Math.Option.{Option, none, some}
use Rattle.yacc_syntax.specs.text.Grammar.{Id, named, quoted}
use Rattle.yacc_syntax.specs.text.Places.{Placed}
use Rattle.yacc_syntax.specs.text.Forward.{Mode, top, wanted, listed, starting, ruled, sided, bodied, done, dead}
use Rattle.yacc_syntax.specs.declared.lexer.Word.{Word}
use Rattle.yacc_syntax.specs.declared.lexer.Word.TheVariants.{Name, Literal, Token, Start, Mark, Colon, Bar, Semi}
use Rattle.yacc_reader.specs.parsed_file.Events.{Event, lists, opens, defines, uses, shuts, events}
use Rattle.yacc_reader.specs.parsed_file.Source.{no_id}
use Rattle.yacc_reader.specs.declared.events.Saying.{Saying}
use Rattle.yacc_reader.specs.declared.events.Saying.TheVariants.{Lists, Opens, Defines, Uses, Shuts, Nothing}

-- an id; the `|` or `;` behind a body
unfoldable pub id_said : Mode → Saying
id_said m = elim m [ top s ↦ Nothing | wanted s ↦ Lists | listed s ↦ Lists | starting ↦ Opens | ruled ↦ Defines | sided ↦ Nothing | bodied ↦ Uses | done ↦ Defines | dead ↦ Nothing ]

unfoldable pub end_said : Mode → Saying
end_said m = elim m [ top s ↦ Nothing | wanted s ↦ Nothing | listed s ↦ Nothing | starting ↦ Nothing | ruled ↦ Nothing | sided ↦ Nothing | bodied ↦ Shuts | done ↦ Nothing | dead ↦ Nothing ]

unfoldable pub said_in : Mode → Word → Saying
said_in m Name = id_said m
said_in m Literal = id_said m
said_in m Token = Nothing
said_in m Start = Nothing
said_in m Mark = Nothing
said_in m Colon = Nothing
said_in m Bar = end_said m
said_in m Semi = end_said m

-- the id that stands from a place up to another
unfoldable pub id_at : List ℕ → Word → ℕ → ℕ → Id
id_at t Name from past = named (get_or t from 0) (take (past - (from + 1)) (drop (from + 1) t))
id_at t Literal from past = quoted (get_or t (from + 1) 0)
id_at t Token from past = no_id
id_at t Start from past = no_id
id_at t Mark from past = no_id
id_at t Colon from past = no_id
id_at t Bar from past = no_id
id_at t Semi from past = no_id

unfoldable pub events_of : Saying → Id → ℕ → ℕ → List Event
events_of Lists x from past = lists x from ∷ []
events_of Opens x from past = opens x ∷ []
events_of Defines x from past = defines x from ∷ []
events_of Uses x from past = uses x from past ∷ []
events_of Shuts x from past = shuts from ∷ []
events_of Nothing x from past = []

-- f of what the tokens say from a mode on; z where something is no token
unfoldable pub of_said {ℓ} : {A : Type ℓ} → A → (List Event → A) → Mode → Option (List Placed) → A
of_said z f m none = z
of_said z f m (some ps) = f (events m ps)
