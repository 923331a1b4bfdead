-- What the states of an automaton have, and where symbols lead.
use Rattle.std.specs.Prelude.{ℕ, ◌≡◌, List, [], ◌∷◌, Option, Some, option_and_then, map, slice_index_or, Contains}
use Rattle.bit_table.specs.declared.table.BitTable.{BitTable}
use Rattle.bit_table.specs.Table.{Has}
use Rattle.grammar.specs.declared.symbol.Symbol.{Symbol}
use Rattle.grammar.specs.declared.symbol.Symbol.TheVariants.{Nonterminal}
use Rattle.grammar.specs.declared.grammar.Grammar.{Grammar}
use Rattle.automaton.specs.declared.item.Item.{Item}
use Rattle.automaton.specs.declared.automaton.Entry.{Entry}
use Rattle.automaton.specs.declared.automaton.Transition.{Transition}
use Rattle.automaton.specs.declared.automaton.State.{State}
use Rattle.automaton.specs.declared.automaton.Automaton.{Automaton}
use Rattle.automaton.specs.Items.{rest_of, fresh, advanced, IsRule}
use Rattle.automaton.specs.Targets.{target_in}
use Rattle.automaton.specs.Valid.{Valid, BeginsBefore, end_of}

-- an entry is of the item, and its row has the token
pub record IsListed (table : BitTable) (entries : List Entry) (i : Item) (t : ℕ) : Type 0 where
  pub entry : Entry
  pub listed : Contains entries entry
  pub item : entry.item ≡ i
  pub has : Has table entry.tokens t

-- the closure of a kernel: the least set with the kernel that the closure rule does not add to
pub data InClosure (g : Grammar) (table : BitTable) (kernel : List Entry) : Item → ℕ → Type 0 where
  given : {i : Item} {a : ℕ} → IsListed table kernel i a → InClosure g table kernel i a
  added : {i : Item} {a b : ℕ} (n q : ℕ) (β : List Symbol) → InClosure g table kernel i a
      → rest_of g i ≡ Nonterminal n ∷ β → IsRule g q n → BeginsBefore g β a b
      → InClosure g table kernel (fresh q) b

abbrev pub kernel_of : Automaton → ℕ → List Entry
kernel_of a s = slice_index_or (map (λ (x : State). x.kernel.items) a.states.items) s []

abbrev pub transitions_of : Automaton → ℕ → List Transition
transitions_of a s = slice_index_or (map (λ (x : State). x.transitions.items) a.states.items) s []

-- [i, t] is an item of the state
abbrev pub InState : Grammar → Automaton → ℕ → Item → ℕ → Type 0
InState g a s i t = InClosure g a.tokens (kernel_of a s) i t

abbrev pub target_of : Automaton → ℕ → Symbol → Option ℕ
target_of a s x = target_in (transitions_of a s) x

-- where the symbols lead from a state
abbrev pub walk : Automaton → List Symbol → ℕ → Option ℕ
walk a [] s = Some s
walk a (x ∷ xs) s = option_and_then (λ to. walk a xs to) (target_of a s x)

-- the symbols lead from state 0 to a state with the item
pub record Leads (g : Grammar) (a : Automaton) (γ : List Symbol) (i : Item) (t : ℕ) : Type 0 where
  pub state : ℕ
  pub way : walk a γ 0 ≡ Some state
  pub item : InState g a state i t

-- each valid item is in the state that its symbols lead to
abbrev pub HasEachItem : Grammar → Automaton → Type 0
HasEachItem g a = (γ : List Symbol) (i : Item) (t : ℕ) → Valid g γ i t → Leads g a γ i t

-- ---- what is looked at in each state

-- over x the state leads to one whose kernel has the item with the dot behind x
pub record Moves (g : Grammar) (a : Automaton) (s : ℕ) (x : Symbol) (i : Item)
    (t : ℕ) : Type 0 where
  pub to : ℕ
  pub over : target_of a s x ≡ Some to
  pub kernel : IsListed a.tokens (kernel_of a to) (advanced i) t

-- an item with the tokens of a row
pub record MovesEntry (g : Grammar) (a : Automaton) (s : ℕ) (table : BitTable)
    (e : Entry) : Type 0 where
  pub moves : (x : Symbol) (β : List Symbol) (t : ℕ) → Has table e.tokens t
      → rest_of g e.item ≡ x ∷ β → Moves g a s x e.item t

abbrev pub EachMoves : Grammar → Automaton → ℕ → Type 0
EachMoves g a s = (x : Symbol) (β : List Symbol) (i : Item) (t : ℕ) → InState g a s i t
    → rest_of g i ≡ x ∷ β → Moves g a s x i t

-- state 0 has the start production
abbrev pub Starts : Grammar → Automaton → Type 0
Starts g a = IsListed a.tokens (kernel_of a 0) (fresh 0) (end_of g)
