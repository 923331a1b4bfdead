-- Sets of nonterminals, and the two that say which are of use.
use Rattle.std.specs.Prelude.{◌≡◌, ℕ, ◌+◌, ◌<◌, ◌↔◌, true, false, not, List, All, Some, slice_get, slice_index_or, count_by, take, drop}
use Rattle.grammar.specs.declared.symbol.Symbol.{Symbol}
use Rattle.grammar.specs.declared.symbol.Symbol.TheVariants.{Terminal, Nonterminal}
use Rattle.grammar.specs.declared.symbol.Production.{Production}
use Rattle.certificate.specs.declared.set.NonterminalSet.{NonterminalSet}
use Rattle.certificate.specs.declared.useful.UsefulSets.{UsefulSets}
use Rattle.certificate.specs.Sentences.{DerivesSentence, IsInReach}

abbrev pub IsIn : NonterminalSet → ℕ → Type 0
IsIn s n = slice_index_or s.members.items n false ≡ true

-- a terminal, or in the set
abbrev pub SymbolIn : NonterminalSet → Symbol → Type 0
SymbolIn s (Terminal t) = Unit {0}
SymbolIn s (Nonterminal n) = IsIn s n

-- The sets are those of the nonterminals that derive sentences, and of those that stand in sentences.
pub record AreUseful (ps : List Production) (u : UsefulSets) : Type 0 where
  pub productive : (n : ℕ) → IsIn u.productive n ↔ DerivesSentence ps (Nonterminal n)
  pub reachable : (n : ℕ) → IsIn u.reachable n ↔ IsInReach ps n

-- ---- how the sets grow

-- the production's nonterminals are among the first so many
pub record FitsIn (count : ℕ) (p : Production) : Type 0 where
  pub left : p.left < count
  pub right : (i n : ℕ) → slice_get p.right.items i ≡ Some (Nonterminal n) → n < count

-- how many are not in the set
abbrev pub room_of : NonterminalSet → ℕ
room_of s = count_by not s.members.items

-- the set has the left side where it has the right
abbrev pub IsClosedFor : NonterminalSet → Production → Type 0
IsClosedFor s p = All (SymbolIn s) p.right.items → IsIn s p.left

-- each member derives a sentence
abbrev pub AreProductive : List Production → NonterminalSet → Type 0
AreProductive ps s = (n : ℕ) → IsIn s n → DerivesSentence ps (Nonterminal n)

-- each member stands in a sentence
abbrev pub AreReachable : List Production → NonterminalSet → Type 0
AreReachable ps s = (n : ℕ) → IsIn s n → IsInReach ps n

-- the nonterminal stands at i among symbols of the set
pub record StandsAt (s : NonterminalSet) (right : List Symbol) (i n : ℕ) : Type 0 where
  pub at : slice_get right i ≡ Some (Nonterminal n)
  pub before : All (SymbolIn s) (take i right)
  pub behind : All (SymbolIn s) (drop (i + 1) right)

-- where the set has the left side, it has each that stands in the right side among productive ones
abbrev pub PassesOn : NonterminalSet → NonterminalSet → Production → Type 0
PassesOn productive s p = IsIn s p.left → (i n : ℕ) → StandsAt productive p.right.items i n → IsIn s n
