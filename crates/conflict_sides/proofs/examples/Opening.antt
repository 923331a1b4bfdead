-- The ways through `open_view` and `list_item`: the trace's edges have a view, and their listing is that of conflict_sides/specs/conflict/Sides.
use Rattle.std.specs.Prelude.{Result, Err, ◌≡◌, ℕ, ◌<◌, ◌≤◌, Bool, List, length, take, drop}
use native.Mathlib.Omega.{arith}
use mathlib.Core.Path.{subst, refl}
use mathlib.Core.Option.{Option}
use lib.Seq.{take_all}
use Rattle.lr1_base.specs.repr.Sizes.{edge_limit, example_limit}
use Rattle.lr1_base.specs.repr.Meaning.{Item}
use Rattle.lr1_base.specs.repr.Packed.{productions_in}
use Rattle.table.specs.Decoded.{meaning}
use Rattle.table.proofs.Decoding.{fits}
use Rattle.trace_graph.specs.Graph.{TraceEdge}
use Rattle.trace.specs.edge_codes.Coded.{Coded}
use Rattle.trace.specs.edge_codes.Carried.{Carried}
use Rattle.trace.specs.Held.{Working}
use Rattle.enumerator.specs.declared.graph_view.View.{View as ViewOf}
use Rattle.enumerator.specs.graph_view.View.{View, Labelled}
use Rattle.conflict_sides.specs.conflict.Sides.{Side, listing_side}
use Rattle.conflict_sides.specs.declared.examples.Gathered.{Gathered}
use Rattle.lr1_base.specs.declared.repr.refusals.Refusal.{Refusal}
use Rattle.lr1_base.specs.declared.repr.refusals.Refusal.TheVariants.{TooManyEdges}
use Rattle.conflict_sides.specs.examples.Reads.{Reads}
use Rattle.conflict_sides.specs.examples.Listing.{listed_by, Listable}
use Rattle.conflict_sides.specs.examples.Gathers.{ListedOn}
use Rattle.conflict_sides.proofs.examples.Traces.{listing-over, listing_is}

module _ (t g : List ℕ) (productions terminals : ℕ) (sets least ends : List ℕ) (R : Reads t g productions terminals sets least ends) where
  -- `open_view`: what tracing asks, and what its words hold
  pub reads_working : Working t g productions least
  reads_working = record { accepted = R.accepted; packed = R.packed; same = R.same; least = R.leasts; small = R.small }

  pub carried : (ws fs : List ℕ) (es : List TraceEdge) → Coded (meaning t) ws fs es → Carried g productions ws (meaning t) es
  carried ws fs es C = record {
    fits = fits t R.accepted;
    packed = R.packed;
    same = R.same;
    long = C.long;
    few = C.few;
    count = C.count;
    codes = C.codes;
    traced = C.traced;
  }

  module _ (es : List TraceEdge) (i : Item) where
    pub listable : (owners codes sources older latest : List ℕ) → View es i sources older latest × Labelled (meaning t).productions es owners codes → Listable (meaning t).productions es owners codes sources older latest i
    listable owners codes sources older latest h = record { labelled = h.1; view = h.0 }

    -- the view that is searched has the words of the edges without their count
    pub listable_in : (owners words sources older latest : List ℕ) → Listable (meaning t).productions es owners (drop 1 words) sources older latest i
        → Listable (productions_in g productions) es owners (take edge_limit (drop 1 words)) sources older latest i
    listable_in owners words sources older latest L = let d = L.labelled.by_code in rw (R.same, take_all edge_limit (drop 1 words) (omega arith)) L

    -- the same by a filter's productions and a view
    pub listable_view : (owners words sources older latest : List ℕ) → Listable (meaning t).productions es owners (drop 1 words) sources older latest i → (g' : List ℕ) (n' : ℕ) → (g' ≡ g) × (n' ≡ productions)
        → (v : ViewOf) → (v.sources.bytes.now ≡ sources) × (v.older.now ≡ older) × (v.latest.now ≡ latest) × (v.labels.owners.now ≡ owners) → v.labels.codes.now ≡ take edge_limit (drop 1 words)
        → Listable (productions_in g' n') es v.labels.owners.now v.labels.codes.now v.sources.bytes.now v.older.now v.latest.now i
    listable_view owners words sources older latest L g' n' a v e c = rw (a.0, a.1, e.0, e.1, e.2, e.3, c) (listable_in owners words sources older latest L)

    -- `list_item`
    module _ (ahead : Option ℕ) (shift : Bool) (count : ℕ) (kept prints kept' prints' : List ℕ) where
      pub item-listed : (r : Result Gathered Refusal) → length es ≤ edge_limit → count ≤ example_limit
          → ListedOn (productions_in g productions) shift r count kept prints kept' prints' (listed_by terminals sets (productions_in g productions) es ahead i count)
          → ListedOn (meaning t).productions shift r count kept prints kept' prints' (listing_side (meaning t) es i ahead count)
      item-listed r h l S =
          let S₁ = rw (R.same, R.tokens, R.firsts) at S in
          subst (λ (q : Side). ListedOn (meaning t).productions shift r count kept prints kept' prints' q) (listing_is (meaning t) es i ahead count h l) S₁

      -- 12
      pub item-full : edge_limit < length es → ListedOn (meaning t).productions shift (Err TooManyEdges) count kept prints kept' prints' (listing_side (meaning t) es i ahead count)
      unfolding ListedOn
      item-full h = (listing-over (meaning t) es i ahead count h, refl)
