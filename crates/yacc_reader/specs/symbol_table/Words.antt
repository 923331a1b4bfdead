-- What entering ids asks and leaves of the words they are entered in.
use Rattle.std.specs.Prelude.{ℕ, ◌+◌, ◌≤◌, ◌<◌, ◌≡◌, List, length}
use Rattle.yacc_syntax.specs.text.Grammar.{byte_limit}
use Rattle.yacc_reader.specs.parsed_file.Source.{Known}
use Rattle.yacc_reader.specs.names.Names.{left, placing}
use Rattle.yacc_reader.specs.declared.names.Placed.{Placed}
use Rattle.yacc_reader.specs.declared.symbol_table.Ids.{Ids}
use Rattle.yacc_reader.specs.declared.symbol_table.Words.{Words}
use Rattle.yacc_reader.specs.symbol_table.Ids.{Open, Grows, Moves}

-- room for one name and one number more
pub record Ready (t : List ℕ) (w : Words) (ids : Ids) : Type 0 where
  pub names : Open t w.starts.now w.pasts.now w.ix.now ids
  pub left : ids.names < length w.lefts.now
  pub token : byte_limit + ids.names < length w.tokens.now

pub record SameRoom (w v : Words) : Type 0 where
  pub starts : length v.starts.now ≡ length w.starts.now
  pub pasts : length v.pasts.now ≡ length w.pasts.now
  pub ix : length v.ix.now ≡ length w.ix.now
  pub lefts : length v.lefts.now ≡ length w.lefts.now
  pub tokens : length v.tokens.now ≡ length w.tokens.now

-- both are over the same words lent, so that what is said of those in the end is said of what was lent
abbrev pub SameWords : Words → Words → Type 0
SameWords w v = (v.starts.ghost_name ≡ w.starts.ghost_name) × (v.pasts.ghost_name ≡ w.pasts.ghost_name) × (v.ix.ghost_name ≡ w.ix.ghost_name) × (v.lefts.ghost_name ≡ w.lefts.ghost_name) × (v.tokens.ghost_name ≡ w.tokens.ghost_name)

-- the name that stands from a place up to another placed among the first k: its number is one of them; the numbers' words stay
pub record Places (t : List ℕ) (w : Words) (k from past : ℕ) (v : Words) (r : Placed) : Type 0 where
  pub is : left v.starts.now v.pasts.now v.ix.now r ≡ placing t w.starts.now w.pasts.now w.ix.now k from past
  pub low : (r.number < r.names) × (r.names ≤ k + 1)
  pub room : SameRoom w v
  pub lefts : v.lefts.now ≡ w.lefts.now
  pub tokens : v.tokens.now ≡ w.tokens.now

-- at most one more of each, and what was held is held with the left sides os and the tokens ps entered
pub record Enters (t : List ℕ) (w : Words) (ids : Ids) (v : Words) (r : Ids) (os ps : List Known) : Type 0 where
  pub grows : Grows ids r
  pub room : SameRoom w v
  pub moves : Moves t w.starts.now w.pasts.now w.ix.now w.lefts.now w.tokens.now ids v.starts.now v.pasts.now v.ix.now v.lefts.now v.tokens.now r os ps
