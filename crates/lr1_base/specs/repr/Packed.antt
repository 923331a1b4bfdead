-- The productions in words, 36 each, as the code keeps them while it works on a table: nonterminal, number of symbols, span start, span end,
-- then room for sixteen symbols, kind and number each.
use Rattle.std.specs.Prelude.{ℕ, ◌+◌, ◌*◌, ◌≤◌, ◌<◌, true, ◌≡◌, List, map, length, get_or, take, drop}
use Rattle.lr1_base.specs.repr.Sizes.{nonterminal_limit, terminal_limit, production_limit, symbol_limit, production_place, grammar_room}
use Rattle.lr1_base.specs.repr.Lists.{below}
use Rattle.lr1_base.specs.repr.Meaning.{Production}
use Rattle.lr1_base.specs.repr.Listed.{listed, list_is_fit}

-- the words of production p's symbols
unfoldable pub symbol_words : List ℕ → ℕ → List ℕ
symbol_words g p = take (2 * get_or g (production_place p + 1) 0) (drop (production_place p + 4) g)

unfoldable pub production_in : List ℕ → ℕ → Production
production_in g p = record {
  nonterminal = get_or g (production_place p) 0;
  symbols = listed (symbol_words g p);
  start = get_or g (production_place p + 2) 0;
  end = get_or g (production_place p + 3) 0;
}

-- n productions
unfoldable pub productions_in : List ℕ → ℕ → List Production
productions_in g n = map (production_in g) (below n)

-- the words are those of n productions with numbers in range
pub record Packed (g : List ℕ) (n : ℕ) : Type 0 where
  pub long : length g ≡ grammar_room
  pub few : n ≤ production_limit
  pub owner : (p : ℕ) → p < n → get_or g (production_place p) 0 < nonterminal_limit
  pub short : (p : ℕ) → p < n → get_or g (production_place p + 1) 0 ≤ symbol_limit
  pub fits : (p : ℕ) → p < n → list_is_fit nonterminal_limit terminal_limit (symbol_words g p) ≡ true
