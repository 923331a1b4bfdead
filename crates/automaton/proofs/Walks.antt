-- Symbols lead from state 0 to the items that are valid for them.
use Rattle.std.proofs.Common.{◌≡◌, ℕ, ◌<◌, inl, inr, List, [], ◌∷◌, ◌++◌, length, get_or, refl, arith, All, Option, Some, None}
use Rattle.std.specs.Prelude.{map, option_and_then}
use Rattle.std.proofs.lemmas.Bool.{cases_lt}
use Rattle.std.proofs.lemmas.List.{get_or_past, length-map}
use Rattle.std.proofs.lemmas.List.Elements.{All-contains}
use Rattle.bit_table.specs.declared.table.BitTable.{BitTable}
use Rattle.grammar.specs.declared.symbol.Symbol.{Symbol}
use Rattle.grammar.specs.declared.grammar.Grammar.{Grammar}
use Rattle.automaton.specs.declared.item.Item.{Item}
use Rattle.automaton.specs.declared.automaton.Entry.{Entry}
use Rattle.automaton.specs.declared.automaton.State.{State}
use Rattle.automaton.specs.declared.automaton.Automaton.{Automaton}
use Rattle.automaton.specs.Valid.{Valid, start, closed, moved}
use Rattle.automaton.specs.States.{IsListed, given, added, InState, target_of, walk, Leads, HasEachItem, MovesEntry, EachMoves, Starts}

-- each item of the closure is listed, and the state leads on from each that is
pub each_moves_of : (g : Grammar) (a : Automaton) (s : ℕ) (table : BitTable) (entries : List Entry) → ((i : Item) (t : ℕ) → InState g a s i t → IsListed table entries i t)
    → All (MovesEntry g a s table) entries → EachMoves g a s
each_moves_of g a s table entries covers all x β i t has e =
    let k = covers i t has in
    rw (← k.item) ((All-contains (MovesEntry g a s table) entries k.entry all k.listed).moves x β t k.has (rw k.item e))

-- a state with items is one of the automaton's
pub within : (g : Grammar) (a : Automaton) (s : ℕ) {i : Item} {t : ℕ} → InState g a s i t → s < length a.states.items
within g a s (added n q β d e rule begins) = within g a s d
within g a s (given h) = elim (cases_lt s (length a.states.items)) [
  | inl l ↦ l
  | inr past ↦
      let kernels = map (λ (x : State). x.kernel.items) a.states.items in
      let none : get_or kernels s [] ≡ [] = get_or_past kernels s [] (simp length-map (omega arith)) in
      let listed = rw none at h.listed in
      absurd (omega (arith, listed.1))
]

pub walk_more : (a : Automaton) (γ : List Symbol) (x : Symbol) (s to from : ℕ) → walk a γ from ≡ Some s → target_of a s x ≡ Some to → walk a (γ ++ x ∷ []) from ≡ Some to
walk_more a [] x s to from w t = let same : from ≡ s = cc in rw (same, t)
walk_more a (y ∷ γ) x s to from w t = behind (λ n h. walk_more a γ x s to n h t) (target_of a from y) w
  where
    behind : ((n : ℕ) → walk a γ n ≡ Some s → walk a (γ ++ x ∷ []) n ≡ Some to) → (o : Option ℕ) → option_and_then (λ n. walk a γ n) o ≡ Some s
        → option_and_then (λ n. walk a (γ ++ x ∷ []) n) o ≡ Some to
    behind more None h = cc
    behind more (Some n) h = more n h

-- where the last of the symbols leads
pub walk_last : (a : Automaton) (γ : List Symbol) (x : Symbol) (s to from : ℕ) → walk a γ from ≡ Some s → walk a (γ ++ x ∷ []) from ≡ Some to → target_of a s x ≡ Some to
walk_last a [] x s to from w v = last (target_of a s x) (let same : from ≡ s = cc in rw same at v)
  where
    last : (o : Option ℕ) → option_and_then (λ n. walk a [] n) o ≡ Some to → o ≡ Some to
    last None h = cc
    last (Some n) h = h
walk_last a (y ∷ γ) x s to from w v = behind (walk_last a γ x s to) (target_of a from y) w v
  where
    behind : ((n : ℕ) → walk a γ n ≡ Some s → walk a (γ ++ x ∷ []) n ≡ Some to → target_of a s x ≡ Some to) → (o : Option ℕ) → option_and_then (λ n. walk a γ n) o ≡ Some s
        → option_and_then (λ n. walk a (γ ++ x ∷ []) n) o ≡ Some to → target_of a s x ≡ Some to
    behind more None h k = cc
    behind more (Some n) h k = more n h k

module _ (g : Grammar) (a : Automaton) (starts : Starts g a) (moves : (s : ℕ) → s < length a.states.items → EachMoves g a s) where
  leads : {γ : List Symbol} {i : Item} {t : ℕ} → Valid g γ i t → Leads g a γ i t
  leads start = record { state = 0; way = refl; item = given starts }
  leads (closed n q β d e rule begins) =
      let l = leads d in record { state = l.state; way = l.way; item = added n q β l.item e rule begins }
  leads (moved {γ} {i} {a = t} x β d e) =
      let l = leads d in
      let m = moves l.state (within g a l.state l.item) x β i t l.item e in
      record { state = m.to; way = walk_more a γ x l.state m.to 0 l.way m.over; item = given m.kernel }

  pub each_item : HasEachItem g a
  each_item γ i t d = leads d
