-- The ids of a text in words: its names by their places with their index, a number for each name that is a left side, a number for each literal and each name that is a token.
use Rattle.std.specs.Prelude.{ℕ, ◌+◌, ◌-◌, ◌≤◌, ◌<◌, Bool, true, false, ◌≡◌, List, length, get_or, ltb}
use Rattle.std.proofs.Math.Option.{some}
use Rattle.yacc_syntax.specs.text.Grammar.{Id, quoted, Layout, text_limit, byte_limit}
use Rattle.yacc_syntax.specs.text.Parse.{parse}
use Rattle.yacc_syntax.specs.text.Forward.{Mode}
use Rattle.yacc_syntax.specs.declared.lexer.Word.{Word}
use Rattle.yacc_syntax.specs.declared.lexer.Word.TheVariants.{Name, Literal, Token, Start, Mark, Colon, Bar, Semi}
use Rattle.yacc_reader.specs.parsed_file.Source.{Known, is_known, entered}
use Rattle.yacc_reader.specs.parsed_file.Outcome.{source_in}
use Rattle.yacc_reader.specs.declared.events.Saying.{Saying}
use Rattle.yacc_reader.specs.declared.events.Saying.TheVariants.{Defines}
use Rattle.yacc_reader.specs.events.Said.{id_said, id_at}
use Rattle.yacc_reader.specs.names.Names.{bucket_limit, Entered}
use Rattle.yacc_reader.specs.numbers.Numbers.{Numbers}
use Rattle.yacc_reader.specs.declared.symbol_table.Ids.{Ids}

-- name j
unfoldable pub name_id : List ℕ → List ℕ → List ℕ → ℕ → Id
name_id t starts pasts j = id_at t Name (get_or starts j 0) (get_or pasts j 0)

-- the literals by their bytes, then the names
unfoldable pub token_id : List ℕ → List ℕ → List ℕ → ℕ → Id
token_id t starts pasts i = elim (ltb i byte_limit) [ true ↦ quoted i | false ↦ name_id t starts pasts (i - byte_limit) ]

-- ids with their numbers in words: no two are the same, every id that is known is one of them, the words behind theirs are 0
pub record Register (ids : ℕ → Id) (room : ℕ) (xs : List ℕ) (ks : List Known) (n : ℕ) : Type 0 where
  pub numbers : Numbers ids room xs ks n
  pub apart : (i j : ℕ) → i < room → j < room → ids i ≡ ids j → i ≡ j
  pub whole : (x : Id) → ((i : ℕ) → i < room → x ≡ ids i → ⊥) → is_known ks x ≡ false
  pub rest : (i : ℕ) → room ≤ i → get_or xs i 0 ≡ 0

-- the names, and the numbers of the nonterminals ns and of the terminals ts
pub record Held (t starts pasts ix lefts tokens : List ℕ) (ids : Ids) (ns ts : List Known) : Type 0 where
  pub names : Entered t starts pasts ix ids.names
  pub wide : (j : ℕ) → j < ids.names → get_or starts j 0 < get_or pasts j 0
  pub nonterminals : Register (name_id t starts pasts) ids.names lefts ns ids.nonterminals
  pub terminals : Register (token_id t starts pasts) (byte_limit + ids.names) tokens ts ids.terminals

-- those of the whole text
pub record Named (t starts pasts ix lefts tokens : List ℕ) (ids : Ids) : Type 0 where
  pub held : (l : Layout) → parse t ≡ some l → Held t starts pasts ix lefts tokens ids (source_in l.pieces).nonterminals (source_in l.pieces).terminals

-- names entered, and words for their numbers
pub record Kept (t starts pasts ix lefts tokens : List ℕ) (ids : Ids) : Type 0 where
  pub names : Entered t starts pasts ix ids.names
  pub left : ids.names ≤ length lefts
  pub token : byte_limit + ids.names ≤ length tokens

-- words enough for a name in each byte, and no name yet
pub record Fresh (t starts pasts ix lefts tokens : List ℕ) : Type 0 where
  pub short : length t ≤ text_limit
  pub begun : length t ≤ length starts
  pub ended : length t ≤ length pasts
  pub linked : bucket_limit + length t ≤ length ix
  pub left_sides : length t ≤ length lefts
  pub terminals : byte_limit + length t ≤ length tokens
  pub no_name : (i : ℕ) → i < bucket_limit → get_or ix i 0 ≡ 0
  pub no_left : (i : ℕ) → get_or lefts i 0 ≡ 0
  pub no_token : (i : ℕ) → get_or tokens i 0 ≡ 0

-- room for one name and one number more
pub record Open (t starts pasts ix : List ℕ) (ids : Ids) : Type 0 where
  pub entered : Entered t starts pasts ix ids.names
  pub begun : ids.names < length starts
  pub ended : ids.names < length pasts
  pub linked : bucket_limit + ids.names < length ix
  pub names : ids.names < text_limit
  pub nonterminals : ids.nonterminals < text_limit
  pub terminals : ids.terminals < text_limit

-- a part of a text that is read
pub record Within (t : List ℕ) (from past : ℕ) : Type 0 where
  pub wide : from < past
  pub inside : past ≤ length t
  pub short : past ≤ text_limit

-- at most one more of each
pub record Grows (ids r : Ids) : Type 0 where
  pub names : r.names ≤ ids.names + 1
  pub nonterminals : r.nonterminals ≤ ids.nonterminals + 1
  pub terminals : r.terminals ≤ ids.terminals + 1

-- what was held is held with the left sides os and the tokens ps entered
pub record Moves (t starts pasts ix lefts tokens : List ℕ) (ids : Ids) (starts' pasts' ix' lefts' tokens' : List ℕ) (r : Ids) (os ps : List Known) : Type 0 where
  pub on : (ns ts : List Known) → Held t starts pasts ix lefts tokens ids ns ts → Held t starts' pasts' ix' lefts' tokens' r (entered ns os) (entered ts ps)

-- the name that stands from a place up to another
abbrev pub name_at : List ℕ → ℕ → ℕ → Known
name_at t from past = record { id = id_at t Name from past; at = from }

unfoldable pub is_id : Word → Bool
is_id w = elim w [ Name ↦ true | Literal ↦ true | Token ↦ false | Start ↦ false | Mark ↦ false | Colon ↦ false | Bar ↦ false | Semi ↦ false ]

-- a literal is no left side
abbrev pub Undefining : Saying → Type 0
Undefining s = s ≡ Defines → ⊥

abbrev pub NoQuote : Mode → Word → Type 0
NoQuote m w = w ≡ Literal → Undefining (id_said m)
