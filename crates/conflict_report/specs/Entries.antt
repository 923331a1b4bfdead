-- What entries say of the conflicts of their groups.
use Rattle.std.specs.Prelude.{◌↔◌, ℕ, List, map, Contains, IsPermutation}
use Rattle.std.specs.List.{flat_map}
use Rattle.std.specs.declared.vec.Vec.{Vec}
use Rattle.std.specs.declared.alloc.Global.{Global}
use Rattle.automaton.specs.declared.resolution.Resolved.{Resolved}
use Rattle.conflict_report.specs.declared.group.Spot.{Spot}
use Rattle.conflict_report.specs.declared.entry.Entry.{Entry}
use Rattle.conflict_report.specs.Groups.{conflicts_at}

-- the tokens are those of the spots
abbrev pub AreTokensOf : List Spot → Vec ℕ Global → Type 0
AreTokensOf spots v = (t : ℕ) → Contains v.items t ↔ Contains (map (λ (s : Spot). s.token) spots) t

-- the states are those of the spots
abbrev pub AreStatesOf : List Spot → Vec ℕ Global → Type 0
AreStatesOf spots v = (n : ℕ) → Contains v.items n ↔ Contains (map (λ (s : Spot). s.state) spots) n

-- an entry shows all tokens and all states of its group, and no others
pub record IsWholeEntry (e : Entry) : Type 0 where
  pub tokens : AreTokensOf e.group.spots.items e.tokens
  pub states : AreStatesOf e.group.spots.items e.states

-- the conflicts of an entry
abbrev pub conflicts_in : Entry → List Resolved
conflicts_in e = conflicts_at e.group

-- the entries have the conflicts of the list and no others: one behind another they are the list, in some order
abbrev pub Shows : List Resolved → List Entry → Type 0
Shows list entries = IsPermutation list (flat_map conflicts_in entries)
