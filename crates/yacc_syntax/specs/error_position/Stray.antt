-- Where a text leaves the grammar (docs/YACC.md): the first byte that no text of the grammar can have there.
use Rattle.std.specs.Prelude.{ℕ, suc, ◌+◌, ◌≤◌, ◌<◌, true, false, ◌≡◌, List, [], ◌∷◌, ◌++◌, eqb, length, take}
use Rattle.lr1_base.specs.repr.Lists.{occurrences}
use Rattle.yacc_syntax.specs.text.Grammar.{Layout, Sound, spell}

-- some text of the grammar, of whatever length, begins with these bytes
pub record Begins (bs : List ℕ) : Type 0 where
  pub more : List ℕ
  pub layout : Layout
  pub sound : Sound layout
  pub spelled : spell layout ≡ bs ++ more

-- the first k bytes begin a text of the grammar, one more does not: byte k is the first that no text of the grammar can have there, or the text ends there
pub record IsStray (t : List ℕ) (k : ℕ) : Type 0 where
  pub inside : k ≤ length t
  pub begins : Begins (take k t)
  pub stray : k < length t → Begins (take (suc k) t) → ⊥

-- the line of byte k, from 1: a line ends behind byte 10
unfoldable pub line_of : List ℕ → ℕ → ℕ
line_of t k = occurrences 10 (take k t) + 1

-- the column behind some bytes, where the first of them stands in column c
unfoldable pub column_behind : ℕ → List ℕ → ℕ
column_behind c [] = c
column_behind c (b ∷ bs) = column_behind (elim (eqb b 10) [ true ↦ 1 | false ↦ c + 1 ]) bs

-- the column of byte k, from 1
unfoldable pub column_of : List ℕ → ℕ → ℕ
column_of t k = column_behind 1 (take k t)
