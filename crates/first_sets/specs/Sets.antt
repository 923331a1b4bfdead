-- What the sets say, and when they are the textbook's.
use Rattle.std.specs.Prelude.{◌≡◌, ℕ, ◌+◌, ◌⊎◌, ◌↔◌, true, false, not, List, [], ◌∷◌, slice_index_or, count_by}
use Rattle.bit_table.specs.Bits.{room}
use Rattle.bit_table.specs.Table.{Has, KeepsBits}
use Rattle.grammar.specs.declared.symbol.Symbol.{Symbol}
use Rattle.grammar.specs.declared.symbol.Symbol.TheVariants.{Terminal, Nonterminal}
use Rattle.grammar.specs.declared.symbol.Production.{Production}
use Rattle.grammar.specs.Derives.{Begins, Vanishes}
use Rattle.first_sets.specs.declared.sets.FirstSets.{FirstSets}

-- the nonterminal is marked as one that derives nothing
abbrev pub null_of : FirstSets → ℕ → Type 0
null_of s n = slice_index_or s.nullable.items n false ≡ true

-- the terminal is in the nonterminal's set
abbrev pub first_of : FirstSets → ℕ → ℕ → Type 0
first_of s n t = Has s.sets n t

-- the sets are FIRST of the nonterminals, and the marks say which of them derive nothing
pub record AreFirstSets (ps : List Production) (s : FirstSets) : Type 0 where
  pub null : (n : ℕ) → null_of s n ↔ Vanishes ps (Nonterminal n ∷ [])
  pub first : (n t : ℕ) → first_of s n t ↔ Begins ps (Nonterminal n ∷ []) t

-- ---- the parts of that, and how far the sets are from full

-- each mark and each terminal of a set comes with a derivation
pub record IsSound (ps : List Production) (s : FirstSets) : Type 0 where
  pub null : (n : ℕ) → null_of s n → Vanishes ps (Nonterminal n ∷ [])
  pub first : (n t : ℕ) → first_of s n t → Begins ps (Nonterminal n ∷ []) t

abbrev pub SymbolNull : FirstSets → Symbol → Type 0
SymbolNull s (Terminal t) = ⊥
SymbolNull s (Nonterminal n) = null_of s n

abbrev pub AllNull : FirstSets → List Symbol → Type 0
AllNull s [] = Unit {0}
AllNull s (x ∷ xs) = SymbolNull s x × AllNull s xs

abbrev pub SymbolFirst : FirstSets → Symbol → ℕ → Type 0
SymbolFirst s (Terminal u) t = u ≡ t
SymbolFirst s (Nonterminal n) t = first_of s n t

-- the terminal is in the set of a symbol before which all may be empty
abbrev pub InFirst : FirstSets → List Symbol → ℕ → Type 0
InFirst s [] t = ⊥
InFirst s (x ∷ xs) t = SymbolFirst s x t ⊎ (SymbolNull s x × InFirst s xs t)

-- a production adds nothing
pub record IsClosedFor (s : FirstSets) (left : ℕ) (right : List Symbol) : Type 0 where
  pub null : AllNull s right → null_of s left
  pub first : (t : ℕ) → InFirst s right t → first_of s left t

pub record IsSame (old new : FirstSets) : Type 0 where
  pub kept : KeepsBits old.sets new.sets
  pub no_more : KeepsBits new.sets old.sets
  pub nullable : new.nullable.items ≡ old.nullable.items

abbrev pub room_of : FirstSets → ℕ
room_of s = room s.sets.words.items + count_by not s.nullable.items
