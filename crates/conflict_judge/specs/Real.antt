-- Conflicts that each LR(1) automaton of a grammar has.
use Rattle.std.specs.Prelude.{◌≡◌, ℕ, List, Some, slice_get}
use Rattle.grammar.specs.declared.symbol.Symbol.{Symbol}
use Rattle.grammar.specs.declared.symbol.Production.{Production}
use Rattle.grammar.specs.declared.grammar.Grammar.{Grammar}
use Rattle.automaton.specs.declared.conflict.Other.{Other}
use Rattle.automaton.specs.declared.conflict.Other.TheVariants as other
use Rattle.automaton.specs.declared.conflict.Conflict.{Conflict}
use Rattle.automaton.specs.Items.{complete}
use Rattle.automaton.specs.Valid.{Valid, IsShiftReduce}
use Rattle.certificate.specs.declared.reading.Action.{Action}
use Rattle.certificate.specs.declared.reading.Action.TheVariants as action
use Rattle.certificate.specs.declared.judging.Fork.{Fork}

-- only production 0 has the start symbol, its left side, on its left
abbrev pub IsAugmented : List Production → Type 0
IsAugmented ps = (k : ℕ) (p start : Production) → slice_get ps 0 ≡ Some start → slice_get ps k ≡ Some p → p.left ≡ start.left → k ≡ 0

-- After some symbols the production may be reduced before the token, and the other action may be taken there too: both
-- items are valid. So each automaton that has all valid items has this conflict.
abbrev pub IsReal : Grammar → ℕ → ℕ → Action → Type 0
IsReal g t p action.Shift = (γ : List Symbol) × IsShiftReduce g γ t p
IsReal g t p (action.Reduce q) = (γ : List Symbol) × Valid g γ (complete g p) t × Valid g γ (complete g q) t

abbrev pub action_of : Other → Action
action_of other.Shift = action.Shift
action_of (other.Reduce q) = action.Reduce q

-- the fork of a conflict
abbrev pub fork_of : Conflict → Fork
fork_of c = record { token = c.token; production = c.production; other = action_of c.other }
