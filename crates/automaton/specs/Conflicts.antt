-- The conflicts of clashes, and what a list of conflicts may not miss.
use Rattle.std.specs.Prelude.{ℕ, ◌≡◌, if◌then◌else◌, List, [], ◌∷◌, ◌++◌, Some, map, filter, nat_lt, Contains}
use Rattle.std.specs.List.{flat_map}
use Rattle.grammar.specs.declared.symbol.Symbol.{Symbol}
use Rattle.grammar.specs.declared.grammar.Grammar.{Grammar}
use Rattle.automaton.specs.declared.automaton.Automaton.{Automaton}
use Rattle.automaton.specs.declared.conflict.Clash.{Clash}
use Rattle.automaton.specs.declared.conflict.Other.{Other}
use Rattle.automaton.specs.declared.conflict.Other.TheVariants.{Shift, Reduce}
use Rattle.automaton.specs.declared.conflict.Conflict.{Conflict}
use Rattle.automaton.specs.Valid.{IsShiftReduce, IsReduceReduce}
use Rattle.automaton.specs.States.{walk}

abbrev pub pair : Clash → ℕ → Other → Conflict
pair c p o = record { state = c.state; token = c.token; production = p; other = o }

-- a production with the shift, if there is one, and with each production of a higher number
abbrev pub pairs_of : Clash → ℕ → List Conflict
pairs_of c p = (if c.shifts then pair c p Shift ∷ [] else [])
    ++ map (λ q. pair c p (Reduce q)) (filter (λ q. nat_lt p q) c.reductions.items)

abbrev pub conflicts_of : Clash → List Conflict
conflicts_of c = flat_map (pairs_of c) c.reductions.items

abbrev pub conflicts_in : List Clash → List Conflict
conflicts_in cs = flat_map conflicts_of cs

-- ---- what may not be missed

-- the list has a conflict of the production, the token and the other action, in the state that γ
-- leads to
pub record Names (a : Automaton) (list : List Conflict) (γ : List Symbol) (t p : ℕ)
    (o : Other) : Type 0 where
  pub conflict : Conflict
  pub listed : Contains list conflict
  pub state : walk a γ 0 ≡ Some conflict.state
  pub token : conflict.token ≡ t
  pub production : conflict.production ≡ p
  pub other : conflict.other ≡ o

-- no conflict of the grammar is missing
pub record MissesNone (g : Grammar) (a : Automaton) (list : List Conflict) : Type 0 where
  pub shift_reduce : (γ : List Symbol) (t p : ℕ) → IsShiftReduce g γ t p → Names a list γ t p Shift
  pub reduce_reduce : (γ : List Symbol) (t p q : ℕ) → IsReduceReduce g γ t p q
      → Names a list γ t p (Reduce q)
