-- The productions of a text (docs/YACC.md, Meaning: Production, Span) as the loop over its tokens packs them.
use Rattle.std.specs.Option.{unwrap_or}
use Rattle.std.specs.Prelude.{Some, None, IfSome, ℕ, ◌+◌, ◌*◌, ◌≤◌, ◌<◌, Bool, true, false, ◌≡◌, List, [], ◌∷◌, ◌++◌, map, length, get_or, take, drop, set}
use Rattle.std.proofs.Math.Option.{none, some}
use Rattle.lr1_base.specs.repr.Sizes.{nonterminal_limit, terminal_limit, production_limit, symbol_limit, production_place}
use Rattle.lr1_base.specs.repr.Lists.{some?}
use Rattle.lr1_base.specs.repr.Meaning.{Symbol, Table, production_at}
use Rattle.lr1_base.specs.repr.Listed.{list_is_fit}
use Rattle.lr1_base.specs.repr.Packed.{symbol_words, production_in}
use Rattle.table.specs.Quads.{put_quad}
use Rattle.table_rewrite.specs.spelling.Spelled.{kind_of, number_of}
use Rattle.yacc_syntax.specs.text.Grammar.{Id}
use Rattle.yacc_syntax.specs.text.Places.{placed_from}
use Rattle.yacc_syntax.specs.text.Forward.{Mode, top, wanted, listed, starting, ruled, sided, bodied, done, dead}
use Rattle.yacc_reader.specs.parsed_file.Source.{is_known, number_in, Use, span_start, span_end, Alternative, alternatives_from, Source}
use Rattle.yacc_reader.specs.parsed_file.Meaning.{symbol_of, table_of}
use Rattle.yacc_reader.specs.parsed_file.Outcome.{nowhere}
use Rattle.yacc_reader.specs.events.Said.{of_said}
use Rattle.yacc_reader.specs.declared.productions.Body.{Body}

-- behind a left side, and in a body
unfoldable pub in_rule : Mode → Bool
in_rule m = elim m [ top s ↦ false | wanted s ↦ false | listed s ↦ false | starting ↦ false | ruled ↦ false | sided ↦ true | bodied ↦ true | done ↦ false | dead ↦ false ]

-- symbols in words, kind and number each
unfoldable pub pairs : List Symbol → List ℕ
pairs [] = []
pairs (s ∷ ss) = kind_of s ∷ number_of s ∷ pairs ss

-- every number fits a word
pub record Small (b : Body) : Type 0 where
  pub production : b.production ≤ production_limit
  pub owner : b.owner < 65536
  pub symbols : b.symbols ≤ symbol_limit
  pub span : IfSome b.span (λ s. (s.0 < 65536) × (s.1 < 65536))

-- where a body begins and ends: an empty one where something else stands
abbrev pub begun_at : Body → ℕ → ℕ
begun_at b at = (unwrap_or b.span (at, at)).0

abbrev pub ended_at : Body → ℕ → ℕ
ended_at b at = (unwrap_or b.span (at, at)).1

abbrev pub ids_of : List Use → List Id
ids_of us = map (λ u. u.id) us

-- where the next symbol's words go
abbrev pub symbol_place : Body → ℕ
symbol_place b = production_place b.production + 4 + 2 * b.symbols

-- a symbol put behind those of the body, where there is room
pub record Added (g g' : List ℕ) (b r : Body) (kind number from past : ℕ) : Type 0 where
  pub production : r.production ≡ b.production
  pub owner : r.owner ≡ b.owner
  pub long : length g' ≡ length g
  pub front : take (production_place b.production) g' ≡ take (production_place b.production) g
  pub more : b.production < production_limit → b.symbols < symbol_limit → kind < 65536 → number < 65536 → (g' ≡ set (set g (symbol_place b) kind) (symbol_place b + 1) number) × (r ≡ record { production = b.production; owner = b.owner; symbols = b.symbols + 1; span = Some (begun_at b from, past) })

-- the four words in front of the body written, and the next production begun with the same left side
pub record Closed (g g' : List ℕ) (b r : Body) (at : ℕ) : Type 0 where
  pub is : b.production < production_limit → (g' ≡ put_quad g (b.production * 9) b.owner b.symbols (begun_at b at) (ended_at b at)) × (r ≡ record { production = b.production + 1; owner = b.owner; symbols = 0; span = None })

-- production q stands packed
pub record Stored (T : Table) (g : List ℕ) (q : ℕ) : Type 0 where
  pub is : production_in g q ≡ production_at T q
  pub short : get_or g (production_place q + 1) 0 ≤ symbol_limit
  pub fits : list_is_fit nonterminal_limit terminal_limit (symbol_words g q) ≡ true

-- a body that is not too long and has no id that is nowhere
pub record Fine (S : Source) (b : Body) (us : List Use) : Type 0 where
  pub few : b.production < production_limit
  pub short : length us ≤ symbol_limit
  pub named : some? (nowhere S) (ids_of us) ≡ false

-- the body so far
pub record Opened (S : Source) (g : List ℕ) (b : Body) (us : List Use) : Type 0 where
  pub many : b.symbols ≡ length us
  pub words : take (2 * b.symbols) (drop (production_place b.production + 4) g) ≡ pairs (map (symbol_of S) (ids_of us))
  pub start : (at : ℕ) → begun_at b at ≡ span_start us at
  pub end : (at : ℕ) → ended_at b at ≡ span_end us at

-- before a token: the alternatives that are closed stand packed, and with what the text still says they are all
pub record Turn (S : Source) (t g : List ℕ) (b : Body) (mode : Mode) (at : ℕ) : Type 0 where
  pub closed : List Alternative
  pub left : Id
  pub us : List Use
  pub rest : of_said none (λ es. some (closed ++ alternatives_from left us es)) mode (placed_from t at) ≡ some S.alternatives
  pub many : b.production ≡ length closed
  pub stored : (q : ℕ) → q < b.production → Stored (table_of S) g q
  pub owner : in_rule mode ≡ true → is_known S.nonterminals left ≡ true → b.owner ≡ number_in S.nonterminals left
  pub body : Fine S b us → Opened S g b us
