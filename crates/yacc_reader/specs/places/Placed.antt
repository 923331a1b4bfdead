-- The place that gets an id's number, written when its turn comes.
use Rattle.std.specs.Prelude.{ℕ, ◌+◌, true, false, List, [], ◌∷◌, set, eqb}
use Rattle.yacc_reader.specs.parsed_file.Source.{Known}
use Rattle.yacc_reader.specs.numbers.Numbers.{place_in}

-- one more than the number, among those known, of the id that a word enters; 0 where it enters none
unfoldable pub entered_place : List Known → List Known → ℕ
entered_place ks [] = 0
entered_place ks (o ∷ os) = place_in ks o.id

-- number n comes next: how many are written then, and the words
unfoldable pub written_to : ℕ → ℕ → ℕ
written_to n place = elim (eqb place (n + 1)) [ true ↦ n + 1 | false ↦ n ]

unfoldable pub written_in : List ℕ → ℕ → ℕ → ℕ → List ℕ
written_in xs n place from = elim (eqb place (n + 1)) [ true ↦ set xs n from | false ↦ xs ]
