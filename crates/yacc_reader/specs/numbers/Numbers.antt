-- The numbers of ids in words, and one id more.
use Rattle.std.specs.Prelude.{ℕ, suc, ◌+◌, ◌≤◌, ◌<◌, true, false, ◌≡◌, List, length, get_or, set, eqb}
use Rattle.yacc_syntax.specs.text.Grammar.{Id}
use Rattle.yacc_reader.specs.parsed_file.Source.{Known, is_known, number_in}

-- one more than the number of an id among those known, or 0
unfoldable pub place_in : List Known → Id → ℕ
place_in ks x = elim (is_known ks x) [ true ↦ suc (number_in ks x) | false ↦ 0 ]

unfoldable pub numbered : List ℕ → ℕ → ℕ → List ℕ
numbered xs j n = elim (eqb (get_or xs j 0) 0) [ true ↦ set xs j (n + 1) | false ↦ xs ]

unfoldable pub numbered_to : List ℕ → ℕ → ℕ → ℕ
numbered_to xs j n = elim (eqb (get_or xs j 0) 0) [ true ↦ n + 1 | false ↦ n ]

-- the first `room` words are the places of so many ids among the n that are known
pub record Numbers (ids : ℕ → Id) (room : ℕ) (xs : List ℕ) (ks : List Known) (n : ℕ) : Type 0 where
  pub count : n ≡ length ks
  pub long : room ≤ length xs
  pub place : (i : ℕ) → i < room → get_or xs i 0 ≡ place_in ks (ids i)
