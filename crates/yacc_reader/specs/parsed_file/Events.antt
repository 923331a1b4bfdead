-- What the tokens of a text say, in text order, with their places (docs/YACC.md, Meaning): which ids a TOKEN list declares, the START id, left sides, ids of bodies, ends of bodies.
use Rattle.std.specs.Prelude.{ℕ, List, [], ◌∷◌, ◌++◌}
use Rattle.yacc_syntax.specs.text.Grammar.{Id, Token, ident, token, start, mark, colon, bar, semi}
use Rattle.yacc_syntax.specs.text.Places.{Placed}
use Rattle.yacc_syntax.specs.text.Forward.{Mode, top, wanted, listed, starting, ruled, sided, bodied, done, dead, move}

-- an id of a TOKEN list; the START id; a left side; an id of a body; the `|` or `;` behind a body: each with its place
pub data Event : Type 0 where
  lists : Id → ℕ → Event
  opens : Id → Event
  defines : Id → ℕ → Event
  uses : Id → ℕ → ℕ → Event
  shuts : ℕ → Event

-- what a token says is seen from what may stand there
unfoldable pub event_of : Mode → Token → ℕ → ℕ → List Event
event_of (top s) t from past = []
event_of (wanted s) t from past = elim t [ ident x ↦ lists x from ∷ [] | token ↦ [] | start ↦ [] | mark ↦ [] | colon ↦ [] | bar ↦ [] | semi ↦ [] ]
event_of (listed s) t from past = elim t [ ident x ↦ lists x from ∷ [] | token ↦ [] | start ↦ [] | mark ↦ [] | colon ↦ [] | bar ↦ [] | semi ↦ [] ]
event_of starting t from past = elim t [ ident x ↦ opens x ∷ [] | token ↦ [] | start ↦ [] | mark ↦ [] | colon ↦ [] | bar ↦ [] | semi ↦ [] ]
event_of ruled t from past = elim t [ ident x ↦ defines x from ∷ [] | token ↦ [] | start ↦ [] | mark ↦ [] | colon ↦ [] | bar ↦ [] | semi ↦ [] ]
event_of sided t from past = []
event_of bodied t from past = elim t [ ident x ↦ uses x from past ∷ [] | token ↦ [] | start ↦ [] | mark ↦ [] | colon ↦ [] | bar ↦ shuts from ∷ [] | semi ↦ shuts from ∷ [] ]
event_of done t from past = elim t [ ident x ↦ defines x from ∷ [] | token ↦ [] | start ↦ [] | mark ↦ [] | colon ↦ [] | bar ↦ [] | semi ↦ [] ]
event_of dead t from past = []

unfoldable pub events : Mode → List Placed → List Event
events m [] = []
events m (p ∷ ps) = event_of m p.token p.from p.past ++ events (move m p.token) ps
