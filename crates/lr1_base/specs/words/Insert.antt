-- Words put into a list at a place: one before the word that stands there, or a list over those that stand there.
use Rattle.std.specs.Prelude.{ℕ, ◌+◌, List, ◌∷◌, ◌++◌, length, take, drop}

unfoldable pub inserted_at : ℕ → ℕ → List ℕ → List ℕ
inserted_at at x l = take at l ++ x ∷ drop at l

-- the rest untouched
unfoldable pub put_at : ℕ → List ℕ → List ℕ → List ℕ
put_at at new old = take at old ++ (new ++ drop (at + length new) old)
