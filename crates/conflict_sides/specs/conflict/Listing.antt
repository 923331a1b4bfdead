-- One listing of a side read off the plain lister (docs/RULES.md, "Classes"): what `listing_side` of specs/conflict/Sides is by `listing_side_lem` of proofs/conflict/Listing.
use Rattle.std.specs.Prelude.{ℕ, ◌+◌, true, false, List, map, length, nat_lt}
use Rattle.lr1_base.specs.repr.Sizes.{edge_limit, example_limit}
use Rattle.lr1_base.specs.repr.Meaning.{Table}
use Rattle.trace_graph.specs.Graph.{TraceEdge}
use Rattle.enumerator.specs.trials.Lister.{labels_of, Out}
use Rattle.enumerator.specs.trials.Told.{handed, ends, count_after}
use Rattle.conflict_sides.specs.conflict.Sides.{Side, gathered, stopped}

-- os: what the plain lister answers, with the paths in the place of their words; k examples are on the side already. Example 193 is 14; a listing that has not ended is 13;
-- else the labels of the paths handed out, and the count at the end
unfoldable pub side_told : Table → List TraceEdge → ℕ → List Out → Side
side_told T es k os = elim (nat_lt edge_limit (length es)) [
  | true ↦ stopped 12
  | false ↦ elim (nat_lt example_limit (k + length (handed os))) [
    | true ↦ stopped 14
    | false ↦ elim (ends os) [
      | true ↦ gathered (map (labels_of T.productions es) (handed os)) (count_after 0 os)
      | false ↦ stopped 13
    ]
  ]
]
