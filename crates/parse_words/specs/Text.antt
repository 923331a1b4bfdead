-- A table typed as text: numbers in decimal, between them any white space, from `#` to the end of the line a comment.
use Rattle.std.specs.Prelude.{ℕ, ◌+◌, ◌-◌, ◌*◌, Bool, true, false, ◌&&◌, ◌||◌, List, [], ◌∷◌, ◌++◌, eqb, leb}
use Rattle.lr1_base.specs.numerals.Numeral.{is_digit_byte}

-- between two bytes: the place of the next one, line and column from 1, and what it stands in
pub record Reader : Type 0 where
  pub line : ℕ
  pub column : ℕ
  pub number : ℕ
  pub in_number : Bool
  pub in_comment : Bool

unfoldable pub fresh : Reader
fresh = record { line = 1; column = 1; number = 0; in_number = false; in_comment = false }

-- the byte is read: the words that end with it, and the reader after it; or it cannot be read
pub data Step : Type 0 where
  goes : List ℕ → Reader → Step
  fails : Step

-- the word that ends before a byte that is no digit
unfoldable pub ended : Reader → List ℕ
ended r = elim r.in_number [ true ↦ r.number ∷ [] | false ↦ [] ]

unfoldable pub line_begun : Reader → Reader
line_begun r = record { line = r.line + 1; column = 1; number = 0; in_number = false; in_comment = false }

unfoldable pub line_continued : Reader → Bool → Reader
line_continued r comment = record { line = r.line; column = r.column + 1; number = 0; in_number = false; in_comment = comment }

-- space, or tab to carriage return (a line's end is tested before)
unfoldable pub is_space_byte : ℕ → Bool
is_space_byte b = eqb b 32 || (leb 9 b && leb b 13)

-- a word has 16 bits
unfoldable pub digit : Reader → ℕ → Step
digit r d = elim (leb (r.number * 10 + d) 65535) [
  | true ↦ goes [] (record { line = r.line; column = r.column + 1; number = r.number * 10 + d; in_number = true; in_comment = false })
  | false ↦ fails
]

unfoldable pub step : Reader → ℕ → Step
step r b = elim (eqb b 10) [
  | true ↦ goes (ended r) (line_begun r)
  | false ↦ elim r.in_comment [
    | true ↦ goes [] (line_continued r true)
    | false ↦ elim (is_space_byte b) [
      | true ↦ goes (ended r) (line_continued r false)
      | false ↦ elim (eqb b 35) [
        | true ↦ goes (ended r) (line_continued r true)
        | false ↦ elim (is_digit_byte b) [ true ↦ digit r (b - 48) | false ↦ fails ]
      ]
    ]
  ]
]

-- a text: its words and the reader after it; or the words before the byte that cannot be read, and that byte's place
pub data Scan : Type 0 where
  reads : List ℕ → Reader → Scan
  stops : List ℕ → ℕ → ℕ → Scan

unfoldable pub with_words : List ℕ → Scan → Scan
with_words ws (reads vs r) = reads (ws ++ vs) r
with_words ws (stops vs l c) = stops (ws ++ vs) l c

unfoldable pub scan : Reader → List ℕ → Scan
scan r [] = reads [] r
scan r (b ∷ bs) = elim (step r b) [ goes ws q ↦ with_words ws (scan q bs) | fails ↦ stops [] r.line r.column ]
