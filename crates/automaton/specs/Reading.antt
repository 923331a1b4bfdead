-- The items of a state, whatever their tokens, and what they read.
use Rattle.std.specs.Prelude.{ℕ, ◌≡◌, ◌⊎◌, List, ◌∷◌, Contains}
use Rattle.grammar.specs.declared.symbol.Symbol.{Symbol}
use Rattle.grammar.specs.declared.symbol.Symbol.TheVariants.{Terminal, Nonterminal}
use Rattle.grammar.specs.declared.grammar.Grammar.{Grammar}
use Rattle.automaton.specs.declared.item.Item.{Item}
use Rattle.automaton.specs.declared.automaton.Entry.{Entry}
use Rattle.automaton.specs.Items.{rest_of, fresh, IsRule}

-- an item of the LR(0) closure of a kernel
pub data IsItem (g : Grammar) (kernel : List Entry) : Item → Type 0 where
  given : {e : Entry} → Contains kernel e → IsItem g kernel e.item
  added : {i : Item} (n q : ℕ) (β : List Symbol) → IsItem g kernel i
      → rest_of g i ≡ Nonterminal n ∷ β
      → IsRule g q n → IsItem g kernel (fresh q)

-- the token is behind the dot
pub record Reads (g : Grammar) (i : Item) (t : ℕ) : Type 0 where
  pub behind : List Symbol
  pub reads : rest_of g i ≡ Terminal t ∷ behind

-- ---- one nonterminal's

-- a production of the list that begins with the token
pub record ReadsFrom (g : Grammar) (t : ℕ) (productions : List ℕ) (i : Item) : Type 0 where
  pub production : ℕ
  pub listed : Contains productions production
  pub item : i ≡ fresh production
  pub reads : Reads g i t

-- the list has what it had, and the items of a kind
pub record HasToo (old new : List Item) (P : Item → Type 0) : Type 0 where
  pub keeps : (i : Item) → Contains old i → Contains new i
  pub adds : (i : Item) → P i → Contains new i
  pub only : (i : Item) → Contains new i → Contains old i ⊎ P i
