-- What the parts of the check hold while it works.
use Rattle.std.specs.Prelude.{ℕ, ◌+◌, min, ◌<◌, false, ◌≡◌, List, length, get_or}
use Rattle.lr1_base.specs.repr.Sizes.{index_limit}
use Rattle.lr1_base.specs.repr.Lists.{below, occurrences, joined}
use Rattle.table.specs.Words.{nonterminals, productions, production_area}
use Rattle.table.specs.Decoded.{production_chain, symbol_chain}
use Rattle.table.specs.Refusals.{row1, row2}

-- refusals 1 and 2 do not apply
pub record Sized (t : List ℕ) : Type 0 where
  pub words : row1 t ≡ false
  pub counts : row2 t ≡ false

-- how many of the nonterminals' chains hold each production, as far as two
abbrev pub Held : List ℕ → List ℕ → Type 0
Held t hs = (p : ℕ) → p < productions t → get_or hs p 0 ≡ min 2 (occurrences (production_area t + p) (joined (production_chain t) (below (nonterminals t))))

-- how many symbols each production has, as far as seventeen
abbrev pub Lengths : List ℕ → List ℕ → Type 0
Lengths t ls = (p : ℕ) → p < productions t → get_or ls p 0 ≡ min index_limit (length (symbol_chain t p))
