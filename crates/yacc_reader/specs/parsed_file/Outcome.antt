-- What reading a yacc text answers and leaves in the lent words (docs/YACC.md), for every text and buffers. Refusals 20, 21, 2, 5, 17 in this order.
use Rattle.std.specs.Prelude.{ℕ, suc, ◌+◌, ◌/◌, Bool, true, false, ◌&&◌, ◌||◌, not, List, [], ◌∷◌, length, leb, ltb}
use Rattle.std.proofs.Math.Option.{Option, none, some}
use Rattle.lr1_base.specs.words.Lent.{in_front}
use Rattle.lr1_base.specs.repr.Reply.{Reply, answered, refused}
use Rattle.lr1_base.specs.declared.repr.NonterminalString.{NonterminalString}
use Rattle.lr1_base.specs.repr.Sizes.{nonterminal_limit, terminal_limit, production_limit, symbol_limit}
use Rattle.lr1_base.specs.repr.Lists.{some?}
use Rattle.table_rewrite.specs.spelling.Spelled.{productions_at, records_of, spell}
use Rattle.yacc_syntax.specs.text.Grammar.{Id, Piece, Layout, text_limit}
use Rattle.yacc_syntax.specs.text.Places.{placed}
use Rattle.yacc_syntax.specs.text.Forward.{top}
use Rattle.yacc_syntax.specs.text.Parse.{parse}
use Rattle.yacc_reader.specs.parsed_file.Events.{events}
use Rattle.yacc_reader.specs.parsed_file.Source.{is_known, Alternative, Source, source_of}
use Rattle.yacc_reader.specs.parsed_file.Meaning.{table_of, places_of, start_of}
use Rattle.yacc_reader.specs.declared.parsed_file.Reading.{Reading}

-- records, places, start nonterminal
abbrev pub read_as : ℕ → ℕ → NonterminalString → Reply Reading
read_as n m s = answered (record { records = n; places = m; start = s })

-- the answer, and every lent word after the call
pub record Outcome : Type 0 where
  pub answer : Reply Reading
  pub table : List ℕ
  pub places : List ℕ

-- a refusal and its place: nothing changes
unfoldable pub unchanged : ℕ → ℕ → List ℕ → List ℕ → Outcome
unchanged n r table places = record { answer = refused n r; table = table; places = places }

-- 21: an id of a body that is on no left side and no token; a left side that is a token; a START id on no left side
unfoldable pub nowhere : Source → Id → Bool
nowhere S x = not (is_known S.nonterminals x) && not (is_known S.terminals x)

unfoldable pub undefined_use : Source → Bool
undefined_use S = some? (λ a. some? (nowhere S) a.ids) S.alternatives

unfoldable pub named_both_ways : Source → Bool
named_both_ways S = some? (λ k. is_known S.terminals k.id) S.nonterminals

unfoldable pub undefined_start : Source → Bool
undefined_start S = some? (λ x. not (is_known S.nonterminals x)) S.starts

unfoldable pub misnamed : Source → Bool
misnamed S = undefined_use S || (named_both_ways S || undefined_start S)

-- 2: above 32 nonterminals, 63 terminals or 128 productions
unfoldable pub too_many : Source → Bool
too_many S = ltb nonterminal_limit (length S.nonterminals) || (ltb terminal_limit (length S.terminals) || ltb production_limit (length S.alternatives))

-- 5: the first production above 16 symbols, from number p on
unfoldable pub too_long : ℕ → List Alternative → Option ℕ
too_long p [] = none
too_long p (a ∷ xs) = elim (ltb symbol_limit (length a.ids)) [ true ↦ some p | false ↦ too_long (suc p) xs ]

-- 17: no room for the records, or for the places
unfoldable pub room : Source → List ℕ → List ℕ → Bool
room S table places = leb (records_of (table_of S)) (length table / 4) && leb (length (places_of S)) (length places)

unfoldable pub answer_of : Source → Reply Reading
answer_of S = read_as (records_of (table_of S)) (length (places_of S)) (record { 0 = start_of S.nonterminals S.starts })

unfoldable pub fitted_of : Source → List ℕ → List ℕ → Option ℕ → Outcome
fitted_of S table places (some p) = unchanged 5 (productions_at (table_of S) + p) table places
fitted_of S table places none = elim (room S table places) [
  | true ↦ record { answer = answer_of S; table = in_front (spell (table_of S)) table; places = in_front (places_of S) places }
  | false ↦ unchanged 17 0 table places
]

unfoldable pub counted_of : Source → List ℕ → List ℕ → Outcome
counted_of S table places = elim (too_many S) [ true ↦ unchanged 2 0 table places | false ↦ fitted_of S table places (too_long 0 S.alternatives) ]

unfoldable pub named_of : Source → List ℕ → List ℕ → Outcome
named_of S table places = elim (misnamed S) [ true ↦ unchanged 21 0 table places | false ↦ counted_of S table places ]

-- what a text in pieces says
unfoldable pub source_in : List Piece → Source
source_in ps = source_of (events (top false) (placed 0 ps))

unfoldable pub parsed_of : Option Layout → List ℕ → List ℕ → Outcome
parsed_of none table places = unchanged 20 0 table places
parsed_of (some l) table places = named_of (source_in l.pieces) table places

unfoldable pub read_of : List ℕ → List ℕ → List ℕ → Outcome
read_of text table places = elim (leb (length text) text_limit) [ true ↦ parsed_of (parse text) table places | false ↦ unchanged 20 0 table places ]
