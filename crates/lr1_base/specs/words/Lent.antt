-- What a call leaves of lent words: new ones at the front, or zeros.
use Rattle.std.specs.Prelude.{ℕ, List, ◌++◌, length, drop, replicate}

-- new words at the front of a list, the others as they were
unfoldable pub in_front : List ℕ → List ℕ → List ℕ
in_front new old = new ++ drop (length new) old

-- the first n words zero
unfoldable pub zeroed : ℕ → List ℕ → List ℕ
zeroed n scratch = replicate n 0 ++ drop n scratch
