-- The loose records that a table uses, as docs/RULES.md, "Unused records", says it: those that a chain of symbols, items or edges holds.
use Rattle.std.specs.Prelude.{ℕ, ◌<◌, true, ◌⊎◌, ◌↔◌, ◌≡◌, List, length, get_or}
use Rattle.lr1_base.specs.repr.Lists.{mem}
use Rattle.table.specs.Words.{states, productions, state_area, production_area}
use Rattle.table.specs.Reached.{Reached}

-- from a production's first symbol, a state's first item or a state's first edge, by next indexes; as several kinds it is still one record
abbrev pub InUse : List ℕ → ℕ → Type 0
InUse t x = Reached t (production_area t) (productions t) 1 x ⊎ (Reached t (state_area t) (states t) 0 x ⊎ Reached t (state_area t) (states t) 1 x)

-- xs are the loose records in use: exactly those, ascending, so each once
pub record AllInUse (t xs : List ℕ) : Type 0 where
  pub exact : (x : ℕ) → (mem x xs ≡ true) ↔ InUse t x
  pub ascending : (i j : ℕ) → i < j → j < length xs → get_or xs i 0 < get_or xs j 0
