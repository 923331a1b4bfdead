-- Table C, marked beside table B: S is b S b or A A, A is a or nothing (S and A nonterminals 0 and 1, a and b terminals 0 and 1). State 1 stands behind b, state 2 behind b A; in both an A may come to nothing before the next.
use Rattle.std.specs.Prelude.{ℕ, List, [], ◌∷◌}

abbrev pub table_c : List ℕ
table_c =
    2 ∷ 2 ∷ 3 ∷ 4 ∷ 6 ∷ 0 ∷ 0 ∷ 0 ∷ 8 ∷ 0 ∷ 0 ∷ 0 ∷ 16 ∷ 17 ∷ 0 ∷ 0 ∷ 19 ∷ 24 ∷ 0 ∷ 0 ∷ 18 ∷ 0 ∷ 0 ∷ 0
    ∷ 7 ∷ 10 ∷ 0 ∷ 5 ∷ 0 ∷ 13 ∷ 6 ∷ 9 ∷ 9 ∷ 15 ∷ 10 ∷ 11 ∷ 0 ∷ 0 ∷ 12 ∷ 12 ∷ 11 ∷ 1 ∷ 1 ∷ 0 ∷ 12 ∷ 0 ∷ 0 ∷ 0
    ∷ 0 ∷ 1 ∷ 1 ∷ 0 ∷ 14 ∷ 0 ∷ 1 ∷ 0 ∷ 0 ∷ 0 ∷ 1 ∷ 0 ∷ 0 ∷ 1 ∷ 0 ∷ 0 ∷ 0 ∷ 0 ∷ 0 ∷ 0 ∷ 0 ∷ 1 ∷ 1 ∷ 1
    ∷ 22 ∷ 1 ∷ 1 ∷ 0 ∷ 20 ∷ 0 ∷ 1 ∷ 0 ∷ 21 ∷ 0 ∷ 0 ∷ 0 ∷ 22 ∷ 1 ∷ 0 ∷ 0 ∷ 23 ∷ 2 ∷ 0 ∷ 0 ∷ 0 ∷ 3 ∷ 0 ∷ 0
    ∷ 25 ∷ 1 ∷ 1 ∷ 1 ∷ 0 ∷ 0 ∷ 1 ∷ 2 ∷ []
