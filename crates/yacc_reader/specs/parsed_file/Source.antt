-- What a text says before anything is numbered: its nonterminals and terminals in the order of their numbers, its alternatives with their spans.
use Rattle.std.specs.Prelude.{ℕ, suc, Bool, true, false, ◌&&◌, List, [], ◌∷◌, ◌++◌, map, eqb}
use Rattle.lr1_base.specs.words.Same.{same_words}
use Rattle.lr1_base.specs.repr.Lists.{some?, joined}
use Rattle.yacc_syntax.specs.text.Grammar.{Id, named, quoted}
use Rattle.yacc_reader.specs.parsed_file.Events.{Event, lists, opens, defines, uses, shuts}

-- two ids are the same if their bytes are, a literal's with its quotes
unfoldable pub same_id : Id → Id → Bool
same_id (named n ns) (named m ms) = eqb n m && same_words ns ms
same_id (named n ns) (quoted c) = false
same_id (quoted b) (named m ms) = false
same_id (quoted b) (quoted c) = eqb b c

-- an id and the first byte of the occurrence that numbered it
pub record Known : Type 0 where
  pub id : Id
  pub at : ℕ

unfoldable pub is_known : List Known → Id → Bool
is_known ks x = some? (λ k. same_id x k.id) ks

-- the number of an id among those known
unfoldable pub number_in : List Known → Id → ℕ
number_in [] x = 0
number_in (k ∷ ks) x = elim (same_id x k.id) [ true ↦ 0 | false ↦ suc (number_in ks x) ]

-- by first occurrence: one that is not known goes behind the others
unfoldable pub enter : List Known → Known → List Known
enter ks k = elim (is_known ks k.id) [ true ↦ ks | false ↦ ks ++ (k ∷ []) ]

unfoldable pub entered : List Known → List Known → List Known
entered ks [] = ks
entered ks (o ∷ os) = entered (enter ks o) os

-- nonterminals: left sides
unfoldable pub left_side : Event → List Known
left_side (lists x at) = []
left_side (opens x) = []
left_side (defines x at) = record { id = x; at = at } ∷ []
left_side (uses x from past) = []
left_side (shuts at) = []

-- terminals: ids of TOKEN lists, and literals of bodies
unfoldable pub literal_use : Id → ℕ → List Known
literal_use (named n ns) from = []
literal_use (quoted b) from = record { id = quoted b; at = from } ∷ []

unfoldable pub token_use : Event → List Known
token_use (lists x at) = record { id = x; at = at } ∷ []
token_use (opens x) = []
token_use (defines x at) = []
token_use (uses x from past) = literal_use x from
token_use (shuts at) = []

unfoldable pub start_use : Event → List Id
start_use (lists x at) = []
start_use (opens x) = x ∷ []
start_use (defines x at) = []
start_use (uses x from past) = []
start_use (shuts at) = []

-- an id of a body with the place of its first byte and the place behind its last
pub record Use : Type 0 where
  pub id : Id
  pub from : ℕ
  pub past : ℕ

-- an alternative: a body with the left side of its rule, and its span
pub record Alternative : Type 0 where
  pub left : Id
  pub ids : List Id
  pub start : ℕ
  pub end : ℕ

-- from the first byte of the first id to behind the last byte of the last; of an empty body twice the place of what ends it
unfoldable pub span_start : List Use → ℕ → ℕ
span_start [] at = at
span_start (u ∷ us) at = u.from

unfoldable pub span_end : List Use → ℕ → ℕ
span_end [] at = at
span_end (u ∷ us) at = span_end us u.past

unfoldable pub alternative : Id → List Use → ℕ → Alternative
alternative l us at = record { left = l; ids = map (λ u. u.id) us; start = span_start us at; end = span_end us at }

-- in text order; l is the left side, us the body so far
unfoldable pub alternatives_from : Id → List Use → List Event → List Alternative
alternatives_from l us [] = []
alternatives_from l us (lists x at ∷ es) = alternatives_from l us es
alternatives_from l us (opens x ∷ es) = alternatives_from l us es
alternatives_from l us (defines x at ∷ es) = alternatives_from x [] es
alternatives_from l us (uses x from past ∷ es) = alternatives_from l (us ++ (record { id = x; from = from; past = past } ∷ [])) es
alternatives_from l us (shuts at ∷ es) = alternative l us at ∷ alternatives_from l [] es

-- before the first rule
abbrev pub no_id : Id
no_id = named 0 []

pub record Source : Type 0 where
  pub nonterminals : List Known
  pub terminals : List Known
  pub starts : List Id
  pub alternatives : List Alternative

unfoldable pub source_of : List Event → Source
source_of es = record {
  nonterminals = entered [] (joined left_side es);
  terminals = entered [] (joined token_use es);
  starts = joined start_use es;
  alternatives = alternatives_from no_id [] es;
}
