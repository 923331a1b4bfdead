-- What the parts of `read_productions` leave in the words (specs/repr/Packed of lr1_base): t is the table, g the words before and g' after.
use Rattle.std.specs.Prelude.{ℕ, ◌+◌, ◌*◌, ◌≤◌, ◌<◌, true, ◌≡◌, List, ◌∷◌, map, length, get_or, take, drop}
use Rattle.lr1_base.specs.repr.Sizes.{record_limit, nonterminal_limit, terminal_limit, production_place, grammar_room}
use Rattle.lr1_base.specs.repr.Meaning.{Symbol, Table, production_at}
use Rattle.lr1_base.specs.repr.Listed.{symbol_of_kind, listed, symbol_is_fit, list_is_fit}
use Rattle.lr1_base.specs.repr.Packed.{symbol_words, production_in}
use Rattle.table.specs.Words.{loose_records, chain}
use Rattle.table.specs.Decoded.{symbol_at, meaning}
use Rattle.table.specs.Refusals.{as_symbol}

-- the symbols from an index on, and what reading one gives, as specs/Index has it for items and edges
unfoldable pub symbols_from : List ℕ → ℕ → List Symbol
symbols_from t x = map (symbol_at t) (chain t (loose_records t) 0 x)

pub record SymbolIndex (t : List ℕ) (x : ℕ) : Type 0 where
  pub below : x < record_limit
  pub reached : (x ≡ 0 → ⊥) → as_symbol t x ≡ true

pub record SymbolRead (t : List ℕ) (at next kind number : ℕ) : Type 0 where
  pub list : symbols_from t at ≡ symbol_of_kind kind number ∷ symbols_from t next
  pub on : SymbolIndex t next
  pub symbol : symbol_is_fit (length (meaning t).nonterminals) (meaning t).terminals kind number ≡ true

-- nonterminal n stands in each of its productions, and the others' first words are as they were
pub record OwnerStored (t g g' : List ℕ) (n : ℕ) : Type 0 where
  pub long : length g' ≡ length g
  pub own : (q : ℕ) → q < length (meaning t).productions → (production_at (meaning t) q).nonterminal ≡ n → get_or g' (production_place q) 0 ≡ n
  pub others : (q : ℕ) → q < length (meaning t).productions → ((production_at (meaning t) q).nonterminal ≡ n → ⊥) → get_or g' (production_place q) 0 ≡ get_or g (production_place q) 0

-- the first word of each production is its nonterminal
pub record OwnersIn (T : Table) (g : List ℕ) : Type 0 where
  pub long : length g ≡ grammar_room
  pub own : (q : ℕ) → q < length T.productions → get_or g (production_place q) 0 ≡ (production_at T q).nonterminal

-- the k symbols of production p
pub record SymbolsStored (t g g' : List ℕ) (p k : ℕ) : Type 0 where
  pub long : length g' ≡ length g
  pub short : k ≤ 16
  pub list : listed (take (2 * k) (drop (production_place p + 4) g')) ≡ (production_at (meaning t) p).symbols
  pub fits : list_is_fit nonterminal_limit terminal_limit (take (2 * k) (drop (production_place p + 4) g')) ≡ true
  pub earlier : (i : ℕ) → i < production_place p + 4 → get_or g' i 0 ≡ get_or g i 0
  pub later : (i : ℕ) → production_place (p + 1) ≤ i → get_or g' i 0 ≡ get_or g i 0

-- all of production p but its first word
pub record ProductionStored (t g g' : List ℕ) (p : ℕ) : Type 0 where
  pub long : length g' ≡ length g
  pub is : get_or g (production_place p) 0 ≡ (production_at (meaning t) p).nonterminal → production_in g' p ≡ production_at (meaning t) p
  pub short : get_or g' (production_place p + 1) 0 ≤ 16
  pub fits : list_is_fit nonterminal_limit terminal_limit (symbol_words g' p) ≡ true
  pub earlier : (i : ℕ) → i ≤ production_place p → get_or g' i 0 ≡ get_or g i 0
  pub later : (i : ℕ) → production_place (p + 1) ≤ i → get_or g' i 0 ≡ get_or g i 0
