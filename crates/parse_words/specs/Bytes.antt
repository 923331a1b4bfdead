-- What the program's own types say in the terms of specs/Text.
use Rattle.std.specs.Prelude.{ℕ, ◌+◌, ◌*◌, ◌/◌, ◌%◌, ◌≤◌, ◌<◌, Bool, true, false, List, [], ◌∷◌, length, take, set, Option, Some, None, Result, Ok, Err}
use Rattle.lr1_base.specs.le_words.Little.{encoded}
use Rattle.parse_words.specs.Text.{Reader, Step, goes, fails, step, Scan, reads, stops}
use Rattle.parse_words.specs.declared.Within.{Within}
use Rattle.parse_words.specs.declared.Within.TheVariants.{Space, Number, Comment}
use Rattle.parse_words.specs.declared.Reader.{Reader as Held}
use Rattle.parse_words.specs.declared.Fed.{Fed}
use Rattle.parse_words.specs.declared.Unreadable.{Unreadable}

abbrev pub word_of : Within → Option ℕ
word_of (Number n) = Some n
word_of Space = None
word_of Comment = None

abbrev pub number_in : Within → ℕ
number_in (Number n) = n
number_in Space = 0
number_in Comment = 0

abbrev pub in_number_of : Within → Bool
in_number_of (Number n) = true
in_number_of Space = false
in_number_of Comment = false

abbrev pub in_comment_of : Within → Bool
in_comment_of (Number n) = false
in_comment_of Space = false
in_comment_of Comment = true

abbrev pub reader_of : Held → Reader
reader_of r = record { line = r.line; column = r.column; number = number_in r.within; in_number = in_number_of r.within; in_comment = in_comment_of r.within }

-- the word that ends at a byte, or none
abbrev pub words_in : Option ℕ → List ℕ
words_in (Some w) = w ∷ []
words_in None = []

abbrev pub fed_of : Option Fed → Step
fed_of (Some fed) = goes (words_in fed.word) (reader_of fed.reader)
fed_of None = fails

-- lines and columns that can still be counted on
pub record Below (r : Reader) (n : ℕ) : Type 0 where
  pub line-below : r.line < n
  pub column_below : r.column < n

pub record Near (r q : Reader) (n : ℕ) : Type 0 where
  pub line_near : q.line ≤ r.line + n
  pub column_near : q.column ≤ r.column + n

-- the scan of a text with bytes for words
unfoldable pub in_bytes : Scan → Scan
in_bytes (reads ws r) = reads (encoded ws) r
in_bytes (stops ws l c) = stops (encoded ws) l c

-- bytes written up to a place, and the reader after the text, or line and column of the byte that cannot be read
pub data Written : Type 0 where
  wrote : List ℕ → ℕ → Reader → Written
  stopped : List ℕ → ℕ → ℕ → ℕ → Written

abbrev pub written_of : List ℕ → ℕ × Result Held Unreadable → Written
written_of out (n, Ok r) = wrote out n (reader_of r)
written_of out (n, Err at) = stopped out n at.line at.column

unfoldable pub tell : Written → Scan
tell (wrote out n r) = reads (take n out) r
tell (stopped out n l c) = stops (take n out) l c

unfoldable pub put_words : List ℕ → ℕ → List ℕ → List ℕ
put_words out n [] = out
put_words out n (w ∷ ws) = put_words (set (set out n (w % 256)) (n + 1) (w / 256)) (n + 2) ws

-- one byte, its words written from place n on
unfoldable pub step_into : Reader → List ℕ → ℕ → Step → Written
step_into r out n (goes ws q) = wrote (put_words out n ws) (n + 2 * length ws) q
step_into r out n fails = stopped out n r.line r.column

-- byte after byte
unfoldable pub scan_into : Reader → List ℕ → ℕ → List ℕ → Written
scan_into r out n [] = wrote out n r
scan_into r out n (b ∷ bs) = elim (step_into r out n (step r b)) [ wrote o m q ↦ scan_into q o m bs | stopped o m l c ↦ stopped o m l c ]
