-- Which texts are read, and what is left of them, at the call (docs/YACC.md).
use Rattle.std.specs.Prelude.{ℕ, ◌<◌, Bool, true, false, ◌≡◌, List, map, length, get_or}
use Rattle.lr1_base.specs.words.Lent.{in_front}
use Rattle.lr1_base.specs.repr.Reply.{Reply, answered, refused}
use Rattle.table.specs.Checked.{Accepted}
use Rattle.table.specs.Decoded.{meaning}
use Rattle.table.specs.Refusals.{check_of}
use Rattle.table_rewrite.specs.spelling.Spelled.{spell}
use Rattle.yacc_syntax.specs.text.Grammar.{byte_limit, IsText}
use Rattle.yacc_reader.specs.parsed_file.Source.{Source}
use Rattle.yacc_reader.specs.parsed_file.Files.{bare_of, file_bares}
use Rattle.yacc_reader.specs.parsed_file.Meaning.{table_of, places_of}
use Rattle.yacc_reader.specs.parsed_file.Outcome.{Outcome, answer_of, source_in}
use Rattle.yacc_reader.specs.declared.parsed_file.Reading.{Reading}
use Rattle.yacc_reader.specs.Passed.{Passes}

unfoldable pub is_read : Reply Reading → Bool
is_read (answered r) = true
is_read (refused n r) = false

-- words that are bytes, as a text's are
abbrev pub Bytes : List ℕ → Type 0
Bytes t = (i : ℕ) → i < length t → get_or t i 0 < byte_limit

-- a text of the grammar that none of 21, 2, 5 and 17 refuses
pub record Legible (t table places : List ℕ) : Type 0 where
  pub text : IsText t
  pub passes : Passes (source_in text.layout.pieces) table places

-- what it says
abbrev pub said_by : {t table places : List ℕ} → Legible t table places → Source
said_by G = source_in G.text.layout.pieces

-- what is left of it: its table and its places at the front of the lent words. The table's words pass the check, mean the table and are their own spelling; its productions are those of the file, in text order
pub record Leaves (t table places : List ℕ) (G : Legible t table places) (o : Outcome) : Type 0 where
  pub answer : o.answer ≡ answer_of (said_by G)
  pub words : o.table ≡ in_front (spell (table_of (said_by G))) table
  pub listed : o.places ≡ in_front (places_of (said_by G)) places
  pub accepted : check_of (spell (table_of (said_by G))) ≡ Accepted
  pub means : meaning (spell (table_of (said_by G))) ≡ table_of (said_by G)
  pub again : spell (meaning (spell (table_of (said_by G)))) ≡ spell (table_of (said_by G))
  pub productions : map bare_of (said_by G).alternatives ≡ file_bares G.text.layout.file

-- a refusal changes nothing
pub record Untouched (table places : List ℕ) (o : Outcome) : Type 0 where
  pub refused : is_read o.answer ≡ false
  pub words : o.table ≡ table
  pub listed : o.places ≡ places

-- a text is read exactly if it is one of those, and anything else is refused
pub record IsRead (t table places : List ℕ) (o : Outcome) : Type 0 where
  pub only : is_read o.answer ≡ true → Legible t table places
  pub all : (G : Legible t table places) → Leaves t table places G o
  pub others : is_read o.answer ≡ false → Untouched table places o
