-- Bytes as words, and words as bytes.
use Rattle.std.specs.Prelude.{ℕ, ◌+◌, ◌*◌, ◌/◌, ◌%◌, List, [], ◌∷◌}

-- two bytes a word, the low one first
unfoldable pub words_of : List ℕ → List ℕ
words_of [] = []
words_of (a ∷ []) = []
words_of (a ∷ b ∷ bs) = (a + b * 256) ∷ words_of bs

-- and back
unfoldable pub encoded : List ℕ → List ℕ
encoded [] = []
encoded (w ∷ ws) = w % 256 ∷ w / 256 ∷ encoded ws
