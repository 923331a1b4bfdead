-- Records of four words, and lists of them as a table's words.
use Rattle.std.specs.Prelude.{ℕ, ◌+◌, ◌*◌, List, [], ◌∷◌, set}
use Rattle.table.specs.Words.{word_at}

-- a record of four words; the first is its next index, or a head
pub record Quad : Type 0 where
  pub next : ℕ
  pub one : ℕ
  pub two : ℕ
  pub three : ℕ

abbrev pub no_quad : Quad
no_quad = record { next = 0; one = 0; two = 0; three = 0 }

unfoldable pub words : List Quad → List ℕ
words [] = []
words (q ∷ qs) = q.next ∷ q.one ∷ q.two ∷ q.three ∷ words qs

-- record r of a table's words
abbrev pub quad_at : List ℕ → ℕ → Quad
quad_at t r = record { next = word_at t r 0; one = word_at t r 1; two = word_at t r 2; three = word_at t r 3 }

-- record r is put
unfoldable pub put_quad : List ℕ → ℕ → ℕ → ℕ → ℕ → ℕ → List ℕ
put_quad g r a b c d = set (set (set (set g (r * 4) a) (r * 4 + 1) b) (r * 4 + 2) c) (r * 4 + 3) d
