-- The ways through `item_again`, `reduce_again` and `action_again`: an example of a listing made again (specs/examples/Again, `Made` of specs/examples/Gathers).
use Rattle.std.specs.Prelude.{◌≡◌, ℕ, zero, suc, ◌/◌, ◌%◌, ◌<◌, ◌≤◌, Bool, true, false, eqb, List, ◌++◌, length}
use native.Mathlib.Omega.{arith}
use mathlib.Core.Path.{refl, sym, ap, ◌∙◌}
use mathlib.Core.Option.{Option}
use Rattle.lr1_base.specs.repr.Sizes.{edge_limit, example_limit, index_limit}
use Rattle.lr1_base.specs.repr.Meaning.{Production, Item, Table}
use Rattle.lr1_base.specs.repr.Packed.{productions_in}
use Rattle.lr1_base.specs.words.Lent.{in_front}
use Rattle.table.specs.Decoded.{meaning}
use Rattle.trace_graph.specs.Graph.{TraceEdge}
use Rattle.trace_graph.specs.Fits.{item_is_fit}
use Rattle.trace.proofs.Traced.{item_fits}
use Rattle.trace.specs.declared.Action.TheVariants.{Shift}
use Rattle.trace.specs.Built.{edges_by}
use Rattle.enumerator.specs.example.Example.{example_words}
use Rattle.enumerator.specs.trials.Lister.{labels_of}
use Rattle.enumerator.specs.trials.Advance.{set_of}
use Rattle.std.specs.Prelude.{None}
use Rattle.enumerator.specs.graph_view.Trial.{trial_words}
use Rattle.enumerator.specs.filter.Given.{Tried}
use Rattle.conflict_sides.specs.declared.conflict.Conflict.{Conflict}
use Rattle.conflict_sides.specs.conflict.Sides.{Side, listing_side, reduce_side}
use Rattle.conflict_sides.specs.conflict.Judge.{Example}
use Rattle.conflict_sides.specs.outline.Inline.{symbols_at, CodeFits}
use Rattle.conflict_sides.specs.examples.Reads.{Reads}
use Rattle.conflict_sides.specs.examples.Listing.{listed_by}
use Rattle.conflict_sides.specs.examples.Again.{Listed, Finds}
use Rattle.conflict_sides.specs.examples.Gathers.{shift_made, reduce_made, made_by, action_made, is_shift}
use Rattle.conflict_sides.proofs.examples.Traces.{listing-over, listing_is}
use Rattle.conflict_sides.proofs.examples.Seeking.{not_stopped}
use Rattle.lr1_base.specs.item.Places.{item_at_place}

listed_by_lem : {listing other : Side} (k : ℕ) (x : Example) → other ≡ listing → Listed listing k x → Listed other k x
listed_by_lem k x e L = record { examples = L.examples; trials = L.trials; is = e ∙ L.is; inside = L.inside; there = L.there }

module _ (t g : List ℕ) (productions terminals : ℕ) (sets least ends : List ℕ) (R : Reads t g productions terminals sets least ends) where
  -- one item's listing
  module _ (es : List TraceEdge) (i : Item) where
    module _ (ahead : Option ℕ) where
      listing_same : length es ≤ edge_limit → (k : ℕ) → k ≤ example_limit → listed_by terminals sets (productions_in g productions) es ahead i k ≡ listing_side (meaning t) es i ahead k
      listing_same few k h = rw (R.same, R.tokens, R.firsts) (listing_is (meaning t) es i ahead k few h)

      -- w: the words that the search leaves
      module _ (few : length es ≤ edge_limit) (owners codes w : List ℕ) (wanted : ℕ) (r : Bool)
          (F : Finds (productions_in g productions) es owners codes r (λ k. listed_by terminals sets (productions_in g productions) es ahead i k) wanted w) where
        pub found-tried : r ≡ true → Tried (productions_in g productions) es owners codes w
        unfolding Finds
        found-tried e = let G = rw e at F in G.0

        pub again_made : r ≡ true → (b b' : List ℕ)
            → ((es' : List TraceEdge) → Tried (productions_in g productions) es' owners codes w → (p rest : List ℕ) → w ≡ trial_words p ++ rest
            → b' ≡ in_front (example_words (productions_in g productions) (labels_of (productions_in g productions) es' p)) b)
            → (k : ℕ) (x : Example) → k ≤ example_limit → Listed (listing_side (meaning t) es i ahead k) wanted x → b' ≡ in_front (example_words (meaning t).productions x) b
        unfolding Finds
        again_made e b b' W k x h L =
            let G = rw e at F in
            let H = G.1 k x h (listed_by_lem wanted x (listing_same few k h) L) in
            W es G.0 H.path H.rest H.words
            ∙ ap (λ (y : Example). in_front (example_words (productions_in g productions) y) b) H.labels
            ∙ ap (λ (q : List Production). in_front (example_words q x) b) R.same

        pub again_none : {C : Type 0} → r ≡ false → (k : ℕ) (x : Example) → k ≤ example_limit → Listed (listing_side (meaning t) es i ahead k) wanted x → C
        unfolding Finds
        again_none e k x h L = let G = rw e at F in absurd (G k x h (listed_by_lem wanted x (listing_same few k h) L))

      -- 12
      pub again_full : {C : Type 0} → edge_limit < length es → (k wanted : ℕ) (x : Example) → Listed (listing_side (meaning t) es i ahead k) wanted x → C
      again_full o k wanted x L = not_stopped 12 L.trials L.examples (sym (listing-over (meaning t) es i ahead k o) ∙ L.is)

-- `reduce_again`
pub reduce_listed : (T : Table) (s p token label wanted : ℕ) (x : Example) (side : Side) → side ≡ reduce_side T s p token → reduce_made T s p token label wanted x → Listed side wanted x
unfolding reduce_made
reduce_listed T s p token label wanted x side e M = listed_by_lem wanted x e M

-- `action_again`

pub is_shift_lem : (c : Conflict) → c.action ≡ 0 → is_shift c ≡ true
unfolding is_shift
is_shift_lem c e = ap (λ (a : ℕ). eqb a 0) e

pub code-item : (T : Table) (code : ℕ) → CodeFits T.productions code → item_is_fit T.productions (code / index_limit) (code % index_limit) ≡ true
unfolding symbols_at
code-item T code C = item_fits T (record { production = code / index_limit; index = code % index_limit }) (record { production = C.production; index = C.index })

made_shift : (T : Table) (s a o token label k : ℕ) (x : Example) → a ≡ 0 → made_by T s a o token label k x → shift_made T s label k x
unfolding made_by
made_shift T s zero o token label k x e M = M
made_shift T s (suc a) o token label k x e M = absurd (omega arith)

made_reduce : (T : Table) (s a o token label k : ℕ) (x : Example) → (a ≡ 0 → ⊥) → made_by T s a o token label k x → reduce_made T s o token label k x
unfolding made_by
made_reduce T s zero o token label k x e M = absurd (e refl)
made_reduce T s (suc a) o token label k x e M = M

module _ (T : Table) (c : Conflict) (label wanted : ℕ) (b b' : List ℕ) where
  pub action_shift : c.action ≡ 0
      → ((k : ℕ) (x : Example) → k ≤ example_limit
      → Listed (listing_side T (edges_by Shift T c.state.0 (record { production = label / index_limit; index = label % index_limit })) (record { production = label / index_limit; index = label % index_limit }) (set_of None) k) wanted x
      → b' ≡ in_front (example_words T.productions x) b)
      → (x : Example) → action_made T c label wanted x → b' ≡ in_front (example_words T.productions x) b
  unfolding set_of item_at_place shift_made action_made
  action_shift e A x M =
      let S = made_shift T c.state.0 c.action c.operand c.token label wanted x e M in
      A S.before x S.few S.listed

  pub action_reduce : (c.action ≡ 0 → ⊥) → ((l : ℕ) (x : Example) → reduce_made T c.state.0 c.operand c.token l wanted x → b' ≡ in_front (example_words T.productions x) b)
      → (x : Example) → action_made T c label wanted x → b' ≡ in_front (example_words T.productions x) b
  unfolding action_made
  action_reduce ne A x M = A label x (made_reduce T c.state.0 c.action c.operand c.token label wanted x ne M)
