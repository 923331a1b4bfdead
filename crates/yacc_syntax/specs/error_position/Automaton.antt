-- A text byte after byte (the second level): a mode of module text, and where in a piece the next byte stands. The mode moves as soon as the token is certain, and is dead as soon as no text of the grammar goes on so.
use Rattle.std.specs.Prelude.{ℕ, Bool, true, false, ◌&&◌, List, [], ◌∷◌, eqb}
use Rattle.yacc_syntax.specs.text.Grammar.{Kind, blank, letter, digit, quote, percent, slash, colons, bars, semis, other, kind_of, goes_on_byte, literal_byte, named, quoted, ident, token, start, colon, bar, semi}
use Rattle.yacc_syntax.specs.text.Forward.{Mode, top, wanted, listed, starting, ruled, sided, bodied, done, dead, move, last}

-- between pieces; in a name; behind a `%`; in `%token` or `%start` with the bytes that must follow, and behind it; behind a literal's quote; behind its byte; behind a `/`; in a comment; behind a `*` in it
pub data Part : Type 0 where
  between : Part
  run : Part
  signed : Part
  word : List ℕ → Part
  opened : Part
  filled : Part
  slashed : Part
  inside : Part
  starred : Part

pub record State : Type 0 where
  pub mode : Mode
  pub part : Part

abbrev pub at : Mode → Part → State
at m p = record { mode = m; part = p }

abbrev pub lost : State
lost = at dead between

abbrev pub initial : State
initial = at (top false) between

-- a `%` stands between definitions only, and there a second one makes the mark
unfoldable pub signs : Mode → Mode
signs m = elim m [ top s ↦ top s | wanted s ↦ dead | listed s ↦ listed s | starting ↦ dead | ruled ↦ dead | sided ↦ dead | bodied ↦ dead | done ↦ dead | dead ↦ dead ]

unfoldable pub marks : Mode → Mode
marks m = elim m [ top s ↦ ruled | wanted s ↦ ruled | listed s ↦ ruled | starting ↦ ruled | ruled ↦ ruled | sided ↦ ruled | bodied ↦ ruled | done ↦ ruled | dead ↦ dead ]

-- the first byte of a piece; neither a name's bytes nor a literal's make a difference to `move`
unfoldable pub step_kind : Kind → Mode → State
step_kind blank m = at m between
step_kind letter m = at (move m (ident (named 0 []))) run
step_kind digit m = lost
step_kind quote m = at (move m (ident (quoted 0))) opened
step_kind percent m = at (signs m) signed
step_kind slash m = at m slashed
step_kind colons m = at (move m colon) between
step_kind bars m = at (move m bar) between
step_kind semis m = at (move m semi) between
step_kind other m = lost

unfoldable pub step_signed : Mode → ℕ → State
step_signed m b = elim (eqb 37 b) [
  | true ↦ at (marks m) between
  | false ↦ elim (eqb 116 b) [
    | true ↦ at (move m token) (word (111 ∷ 107 ∷ 101 ∷ 110 ∷ []))
    | false ↦ elim (eqb 115 b) [ true ↦ at (move m start) (word (116 ∷ 97 ∷ 114 ∷ 116 ∷ [])) | false ↦ lost ]
  ]
]

unfoldable pub step_word : List ℕ → Mode → ℕ → State
step_word [] m b = elim (goes_on_byte (kind_of b)) [ true ↦ lost | false ↦ step_kind (kind_of b) m ]
step_word (w ∷ ws) m b = elim (eqb w b) [ true ↦ at m (word ws) | false ↦ lost ]

unfoldable pub step_inside : Mode → ℕ → State
step_inside m b = elim (eqb b 42) [ true ↦ at m starred | false ↦ elim (eqb b 0) [ true ↦ lost | false ↦ at m inside ] ]

unfoldable pub step_part : Part → Mode → ℕ → State
step_part between m b = step_kind (kind_of b) m
step_part run m b = elim (goes_on_byte (kind_of b)) [ true ↦ at m run | false ↦ step_kind (kind_of b) m ]
step_part signed m b = step_signed m b
step_part (word ws) m b = step_word ws m b
step_part opened m b = elim (literal_byte b) [ true ↦ at m filled | false ↦ lost ]
step_part filled m b = elim (eqb b 39) [ true ↦ at m between | false ↦ lost ]
step_part slashed m b = elim (eqb 42 b) [ true ↦ at m inside | false ↦ lost ]
step_part inside m b = step_inside m b
step_part starred m b = elim (eqb b 47) [ true ↦ at m between | false ↦ step_inside m b ]

abbrev pub step : State → ℕ → State
step s b = step_part s.part s.mode b

unfoldable pub fed : State → List ℕ → State
fed s [] = s
fed s (b ∷ bs) = fed (step s b) bs

-- may a text end in this part
unfoldable pub ending : Part → Bool
ending between = true
ending run = true
ending signed = false
ending (word []) = true
ending (word (w ∷ ws)) = false
ending opened = false
ending filled = false
ending slashed = false
ending inside = false
ending starred = false

-- are these bytes the rest of a text
unfoldable pub final : State → Bool
final s = ending s.part && last s.mode

abbrev pub ok : State → List ℕ → Bool
ok s bs = final (fed s bs)
