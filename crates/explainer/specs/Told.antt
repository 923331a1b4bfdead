-- What a report tells of the conflicts of a grammar.
use Rattle.std.specs.Prelude.{◌≡◌, ℕ, Bool, List, Some, Contains}
use Rattle.std.specs.List.{flat_map}
use Rattle.grammar.specs.declared.symbol.Symbol.{Symbol}
use Rattle.grammar.specs.declared.grammar.Grammar.{Grammar}
use Rattle.automaton.specs.declared.automaton.Automaton.{Automaton}
use Rattle.automaton.specs.declared.conflict.Clash.{Clash}
use Rattle.automaton.specs.declared.conflict.Conflict.{Conflict}
use Rattle.automaton.specs.declared.conflict.Other.{Other}
use Rattle.automaton.specs.declared.conflict.Other.TheVariants.{Shift, Reduce}
use Rattle.automaton.specs.declared.resolution.Resolution.{Resolution}
use Rattle.automaton.specs.declared.resolution.Resolution.TheVariants.{Open, ShiftKept, ReductionKept, NeitherKept, ShiftGone, ReductionGone}
use Rattle.automaton.specs.States.{walk}
use Rattle.automaton.specs.Valid.{IsShiftReduce, IsReduceReduce}
use Rattle.automaton.specs.Resolutions.{resolved_in}
use Rattle.conflict_report.specs.declared.report.Report.{Report}
use Rattle.conflict_report.specs.Entries.{conflicts_in}

-- an entry of the report has the conflict: one of those that are left where it is open, one of the settled where
-- precedence settles it. Where a reduction is gone since precedence settled another conflict, that one tells it.
abbrev pub IsToldAs : Report → Conflict → Resolution → Type 0
IsToldAs r c Open = Contains (flat_map conflicts_in r.entries.items) (record { conflict = c; resolution = Open })
IsToldAs r c ShiftKept = Contains (flat_map conflicts_in r.settled.items) (record { conflict = c; resolution = ShiftKept })
IsToldAs r c ReductionKept = Contains (flat_map conflicts_in r.settled.items) (record { conflict = c; resolution = ReductionKept })
IsToldAs r c NeitherKept = Contains (flat_map conflicts_in r.settled.items) (record { conflict = c; resolution = NeitherKept })
IsToldAs r c (ShiftGone q) = Unit {0}
IsToldAs r c (ReductionGone q) = Unit {0}

-- the report tells the conflict of a production with another action before a token, in the state that γ leads to, as it comes
-- out by precedence, if that is used
pub record Tells (g : Grammar) (used : Bool) (a : Automaton) (clashes : List Clash) (r : Report) (γ : List Symbol) (t p : ℕ) (o : Other) : Type 0 where
  pub conflict : Conflict
  pub state : walk a γ 0 ≡ Some conflict.state
  pub token : conflict.token ≡ t
  pub production : conflict.production ≡ p
  pub other : conflict.other ≡ o
  pub resolution : Resolution
  pub resolved : Contains (resolved_in g used clashes) (record { conflict = conflict; resolution = resolution })
  pub told : IsToldAs r conflict resolution

-- each conflict of the textbook's LR(1) items is told
pub record TellsAll (g : Grammar) (used : Bool) (a : Automaton) (clashes : List Clash) (r : Report) : Type 0 where
  pub shift_reduce : (γ : List Symbol) (t p : ℕ) → IsShiftReduce g γ t p → Tells g used a clashes r γ t p Shift
  pub reduce_reduce : (γ : List Symbol) (t p q : ℕ) → IsReduceReduce g γ t p q → Tells g used a clashes r γ t p (Reduce q)
