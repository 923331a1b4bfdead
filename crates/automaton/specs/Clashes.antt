-- Lists of clashes, and what they have of a state.
use Rattle.std.specs.Prelude.{ℕ, ◌≡◌, ◌<◌, IsTrue, List, Some, Contains}
use Rattle.bit_table.specs.declared.table.BitTable.{BitTable}
use Rattle.grammar.specs.declared.symbol.Symbol.TheVariants.{Terminal}
use Rattle.grammar.specs.declared.grammar.Grammar.{Grammar}
use Rattle.automaton.specs.declared.item.Item.{Item}
use Rattle.automaton.specs.declared.automaton.Entry.{Entry}
use Rattle.automaton.specs.declared.automaton.Automaton.{Automaton}
use Rattle.automaton.specs.declared.conflict.Clash.{Clash}
use Rattle.automaton.specs.Items.{complete}
use Rattle.automaton.specs.States.{IsListed, InState, target_of}

-- a clash of the list, of the state and the token, has a shift and production p
pub record HasShift (list : List Clash) (s t p : ℕ) : Type 0 where
  pub clash : Clash
  pub listed : Contains list clash
  pub state : clash.state ≡ s
  pub token : clash.token ≡ t
  pub shifts : IsTrue clash.shifts
  pub reduction : Contains clash.reductions.items p

-- one has productions p and q
pub record HasBoth (list : List Clash) (s t p q : ℕ) : Type 0 where
  pub clash : Clash
  pub listed : Contains list clash
  pub state : clash.state ≡ s
  pub token : clash.token ≡ t
  pub first : Contains clash.reductions.items p
  pub second : Contains clash.reductions.items q

-- what is listed stays listed
abbrev pub KeepsClashes : List Clash → List Clash → Type 0
KeepsClashes old new = (c : Clash) → Contains old c → Contains new c

-- the state's clashes are in the list
pub record ListsState (g : Grammar) (a : Automaton) (list : List Clash) (s : ℕ) : Type 0 where
  pub shift_reduce : (t p to : ℕ) → InState g a s (complete g p) t
      → target_of a s (Terminal t) ≡ Some to → HasShift list s t p
  pub reduce_reduce : (t p q : ℕ) → p < q → InState g a s (complete g p) t
      → InState g a s (complete g q) t → HasBoth list s t p q

abbrev pub ListsEach : Grammar → Automaton → List Clash → Type 0
ListsEach g a list = (s : ℕ) → ListsState g a list s

-- the same of one token, by the entries of a table
pub record ListsToken (a : Automaton) (s : ℕ) (table : BitTable) (entries : List Entry)
    (list : List Clash) (t : ℕ) : Type 0 where
  pub shift : (i : Item) (to : ℕ) → IsListed table entries i t
      → target_of a s (Terminal t) ≡ Some to → HasShift list s t i.production
  pub others : (i j : Item) → i.production < j.production → IsListed table entries i t
      → IsListed table entries j t → HasBoth list s t i.production j.production
