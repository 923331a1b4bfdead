-- The tokens from the first to the last, as a loop reads them: a mode says what may follow.
use Rattle.std.specs.Prelude.{Bool, true, false, List, [], ◌∷◌}
use Rattle.yacc_syntax.specs.text.Grammar.{Id, named, quoted, Token, ident, token, start, mark, colon, bar, semi}

-- between definitions, behind `%token`, in its list (each with: was a start seen), behind `%start`, behind `%%`, behind a left side, in a body, behind a rule
pub data Mode : Type 0 where
  top : Bool → Mode
  wanted : Bool → Mode
  listed : Bool → Mode
  starting : Mode
  ruled : Mode
  sided : Mode
  bodied : Mode
  done : Mode
  dead : Mode

unfoldable pub begins : Bool → Mode
begins true = dead
begins false = starting

unfoldable pub sides : Id → Mode
sides (named n ns) = sided
sides (quoted b) = dead

unfoldable pub move : Mode → Token → Mode
move (top s) t = elim t [ ident x ↦ dead | token ↦ wanted s | start ↦ begins s | mark ↦ ruled | colon ↦ dead | bar ↦ dead | semi ↦ dead ]
move (wanted s) t = elim t [ ident x ↦ listed s | token ↦ dead | start ↦ dead | mark ↦ dead | colon ↦ dead | bar ↦ dead | semi ↦ dead ]
move (listed s) t = elim t [ ident x ↦ listed s | token ↦ wanted s | start ↦ begins s | mark ↦ ruled | colon ↦ dead | bar ↦ dead | semi ↦ dead ]
move starting t = elim t [ ident x ↦ top true | token ↦ dead | start ↦ dead | mark ↦ dead | colon ↦ dead | bar ↦ dead | semi ↦ dead ]
move ruled t = elim t [ ident x ↦ sides x | token ↦ dead | start ↦ dead | mark ↦ dead | colon ↦ dead | bar ↦ dead | semi ↦ dead ]
move sided t = elim t [ ident x ↦ dead | token ↦ dead | start ↦ dead | mark ↦ dead | colon ↦ bodied | bar ↦ dead | semi ↦ dead ]
move bodied t = elim t [ ident x ↦ bodied | token ↦ dead | start ↦ dead | mark ↦ dead | colon ↦ dead | bar ↦ bodied | semi ↦ done ]
move done t = elim t [ ident x ↦ sides x | token ↦ dead | start ↦ dead | mark ↦ dead | colon ↦ dead | bar ↦ dead | semi ↦ dead ]
move dead t = dead

unfoldable pub last : Mode → Bool
last m = elim m [ top s ↦ false | wanted s ↦ false | listed s ↦ false | starting ↦ false | ruled ↦ false | sided ↦ false | bodied ↦ false | done ↦ true | dead ↦ false ]

unfoldable pub accepts : Mode → List Token → Bool
accepts m [] = last m
accepts m (t ∷ ts) = accepts (move m t) ts
