-- A written text read back, at the calls (docs/YACC.md, "What is written").
use Rattle.std.specs.Prelude.{ℕ, ◌+◌, ◌*◌, ◌≡◌, List, map, length}
use Rattle.lr1_base.specs.words.Lent.{in_front}
use Rattle.lr1_base.specs.repr.Meaning.{Table}
use Rattle.table.specs.Checked.{Accepted}
use Rattle.table.specs.Decoded.{meaning}
use Rattle.table.specs.Refusals.{check_of}
use Rattle.table_rewrite.specs.spelling.Spelled.{size_of, symbol_lists}
use Rattle.yacc_reader.specs.parsed_file.Outcome.{read_as, read_of}
use Rattle.yacc_writer.specs.text.Outcome.{write_of}

-- the records and the places that are left when the text of a table is read
unfoldable pub records_again : Table → ℕ
records_again T = 2 + length T.nonterminals + length T.productions + size_of (symbol_lists T)

unfoldable pub places_again : Table → ℕ
places_again T = length T.nonterminals + T.terminals

-- `bytes` were written of the table t to the lent bytes `text`; read into `table` and `places` they give the same counts, owners, symbols and chains, start 0, and written again the same
pub record RoundTrip (t text bytes table places : List ℕ) : Type 0 where
  pub words : List ℕ
  pub listed : List ℕ
  pub long : length words ≡ 4 * records_again (meaning t)
  pub read : read_of bytes table places ≡ record { answer = read_as (records_again (meaning t)) (places_again (meaning t)) (record { 0 = 0 }); table = in_front words table; places = in_front listed places }
  pub accepted : check_of words ≡ Accepted
  pub terminals : (meaning words).terminals ≡ (meaning t).terminals
  pub chains : (meaning words).nonterminals ≡ (meaning t).nonterminals
  pub owners : map (λ p. p.nonterminal) (meaning words).productions ≡ map (λ p. p.nonterminal) (meaning t).productions
  pub symbols : map (λ p. p.symbols) (meaning words).productions ≡ map (λ p. p.symbols) (meaning t).productions
  pub again : write_of words text ≡ write_of t text
