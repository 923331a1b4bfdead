-- Which conflicts groups have.
use Rattle.std.specs.Prelude.{Bool, true, false, List, map, filter, IsPermutation}
use Rattle.std.specs.List.{flat_map}
use Rattle.automaton.specs.declared.resolution.Resolution.{Resolution}
use Rattle.automaton.specs.declared.resolution.Resolution.TheVariants.{Open, ShiftKept, ReductionKept, NeitherKept, ShiftGone, ReductionGone}
use Rattle.automaton.specs.declared.resolution.Resolved.{Resolved}
use Rattle.conflict_report.specs.declared.group.Group.{Group}
use Rattle.conflict_report.specs.declared.group.Spot.{Spot}

-- the conflict of a group in one of its states before one of its tokens
abbrev pub conflict_at : Group → Spot → Resolved
conflict_at g s = record {
  conflict = record { state = s.state; token = s.token; production = g.production; other = g.other };
  resolution = g.resolution;
}

-- all conflicts of a group
abbrev pub conflicts_at : Group → List Resolved
conflicts_at g = map (conflict_at g) g.spots.items

-- the groups have the conflicts of the list and no others: one behind another they are the list, in some order
abbrev pub AreGroupsOf : List Resolved → List Group → Type 0
AreGroupsOf list groups = IsPermutation list (flat_map conflicts_at groups)

-- ---- open and settled

abbrev pub is_left : Resolution → Bool
is_left Open = true
is_left ShiftKept = false
is_left ReductionKept = false
is_left NeitherKept = false
is_left (ShiftGone q) = false
is_left (ReductionGone q) = false

-- what precedence says of the production and the token themselves
abbrev pub is_kept : Resolution → Bool
is_kept Open = false
is_kept ShiftKept = true
is_kept ReductionKept = true
is_kept NeitherKept = true
is_kept (ShiftGone q) = false
is_kept (ReductionGone q) = false

-- the conflicts that are left
abbrev pub open_of : List Resolved → List Resolved
open_of list = filter (λ (r : Resolved). is_left r.resolution) list

-- those that precedence settles
abbrev pub settled_of : List Resolved → List Resolved
settled_of list = filter (λ (r : Resolved). is_kept r.resolution) list
