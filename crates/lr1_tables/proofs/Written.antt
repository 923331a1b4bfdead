-- The table that is written is accepted, means what was built and is its own spelling; its records are those that were counted.
use mathlib.Core.Path.{◌≡◌, refl, sym, ap, ◌∙◌}
use mathlib.Core.List.{List, [], ◌∷◌, map}
use Prim.Native.Nat.{ℕ, ◌+◌, ◌≤◌, ◌<◌, min}
use native.Mathlib.Omega.{arith}
use lib.ListN.{length}
use lib.Seq.{ext_get_or}
use Rattle.lr1_base.specs.repr.Sizes.{record_limit}
use Rattle.lr1_base.specs.repr.Lists.{below}
use Rattle.lr1_base.specs.repr.Meaning.{Production, Edge, State, Table, no_state, TableFits}
use Rattle.lr1_base.proofs.repr.Lists.{length_mapped, length-map-below, get_d_map, get_d_map-below}
use Rattle.table.specs.Checked.{Accepted}
use Rattle.table.specs.Decoded.{meaning}
use Rattle.table.specs.Refusals.{check_of}
use Rattle.table.proofs.Decoding.{fits}
use Rattle.table_rewrite.specs.spelling.Spelled.{size_of, symbol_lists, item_lists, edge_lists, states_at, productions_at, symbols_at, items_place, edges_at, records_of, spell, Ordered}
use Rattle.table_rewrite.proofs.spelling.Accepted.{spell_accepted}
use Rattle.table_rewrite.proofs.spelling.Meaning.{spell-meaning}
use Rattle.table_rewrite.proofs.spelling.Rising.{meaning_ordered}
use Rattle.table_rewrite.proofs.spelling.Same.{ordered_parts}
use Rattle.lr1_states.specs.canonical.States.{built, build, written}
use Rattle.lr1_states.specs.canonical.Built.{built_state, built_table}
use Rattle.lr1_states.specs.canonical.Outcome.{sum, records, full, outcome}
use Rattle.lr1_states.proofs.canonical.Collection.{build_right}
use Rattle.lr1_states.proofs.canonical.Built.{built-fits}
use Rattle.lr1_states.proofs.canonical.Refusals.{outcome-full}

-- records counted as found and as spelled

pub size-map {ℓ} : {A : Type ℓ} {B : Type 0} (f : A → List B) (xs : List A) → size_of (map f xs) ≡ sum (λ x. length (f x)) xs
unfolding size_of sum
size-map f [] = refl
size-map f (x ∷ xs) = ap (λ (n : ℕ). length (f x) + n) (size-map f xs)

size_sum : (es : List (List Edge)) → size_of es ≡ sum (λ (ds : List Edge). length ds) es
unfolding size_of sum
size_sum [] = refl
size_sum (ds ∷ es) = ap (λ (n : ℕ). length ds + n) (size_sum es)

module _ (T : Table) (Rs : List (List ℕ)) (es : List (List Edge)) where
  abbrev U : Table
  U = built_table T Rs es

  pub items_are : item_lists U ≡ map written Rs
  unfolding built_table built_state
  items_are =
      ext_get_or [] (map (λ (s : State). s.items) (map (built_state Rs es) (below (length Rs)))) (map written Rs)
      (length_mapped (λ (s : State). s.items) (map (built_state Rs es) (below (length Rs))) ∙ length-map-below (built_state Rs es) (length Rs) ∙ sym (length_mapped written Rs))
      (λ i h.
      let l : i < length Rs = rw (length_mapped (λ (s : State). s.items) (map (built_state Rs es) (below (length Rs))), length-map-below (built_state Rs es) (length Rs)) at h in
      get_d_map (λ (s : State). s.items) (map (built_state Rs es) (below (length Rs))) i no_state [] (rw (length-map-below (built_state Rs es) (length Rs)) l)
      ∙ ap (λ (s : State). s.items) (get_d_map-below (built_state Rs es) (length Rs) i no_state l)
      ∙ sym (get_d_map written Rs i [] [] l))

  pub edges_are : length es ≡ length Rs → edge_lists U ≡ es
  unfolding built_table built_state
  edges_are e =
      ext_get_or [] (map (λ (s : State). s.edges) (map (built_state Rs es) (below (length Rs)))) es
      (length_mapped (λ (s : State). s.edges) (map (built_state Rs es) (below (length Rs))) ∙ length-map-below (built_state Rs es) (length Rs) ∙ sym e)
      (λ i h.
      let l : i < length Rs = rw (length_mapped (λ (s : State). s.edges) (map (built_state Rs es) (below (length Rs))), length-map-below (built_state Rs es) (length Rs)) at h in
      get_d_map (λ (s : State). s.edges) (map (built_state Rs es) (below (length Rs))) i no_state [] (rw (length-map-below (built_state Rs es) (length Rs)) l)
      ∙ ap (λ (s : State). s.edges) (get_d_map-below (built_state Rs es) (length Rs) i no_state l))

  -- what is refused by 17 is what would be written
  pub records_are : length es ≡ length Rs → records_of U ≡ records T Rs + sum (λ (ds : List Edge). length ds) es
  unfolding records_of edges_at items_place symbols_at productions_at states_at records built_table
  records_are e =
      let s : length (map (built_state Rs es) (below (length Rs))) ≡ length Rs = length-map-below (built_state Rs es) (length Rs) in
      let i : size_of (item_lists U) ≡ sum (λ (S : List ℕ). length (written S)) Rs = ap size_of items_are ∙ size-map written Rs in
      let d : size_of (edge_lists U) ≡ sum (λ (ds : List Edge). length ds) es = ap size_of (edges_are e) ∙ size_sum es in
      let y : size_of (symbol_lists T) ≡ sum (λ (p : Production). length p.symbols) T.productions = size-map (λ (p : Production). p.symbols) T.productions in
      rw (s, i, d, y) (omega arith)

module _ (t : List ℕ) (accepted : check_of t ≡ Accepted) (start room words : ℕ) (h : start < length (meaning t).productions) (Rs : List (List ℕ)) (es : List (List Edge))
    (e : outcome (meaning t) start room words ≡ full Rs es) where
  whole : build (meaning t) start ≡ built Rs es
  whole = (outcome-full (meaning t) start room words Rs es e).0

  taken : length es ≡ length Rs
  taken = let r = build_right (meaning t) (fits t accepted) start h Rs es whole in omega (arith, r.0.taken, r.1)

  written-fits : TableFits (built_table (meaning t) Rs es)
  written-fits = built-fits (meaning t) (fits t accepted) start h Rs es whole

  written_ordered : Ordered (built_table (meaning t) Rs es)
  unfolding built_table
  written_ordered = ordered_parts (meaning t) (built_table (meaning t) Rs es) refl refl (meaning_ordered t accepted)

  -- 17 is not met by what is written
  pub build-room : records_of (built_table (meaning t) Rs es) ≤ min room record_limit
  build-room = rw (records_are (meaning t) Rs es taken) (outcome-full (meaning t) start room words Rs es e).1

  pub build_accepted : check_of (spell (built_table (meaning t) Rs es)) ≡ Accepted
  build_accepted = spell_accepted (built_table (meaning t) Rs es) written-fits (omega (arith, build-room))

  pub build-meaning : meaning (spell (built_table (meaning t) Rs es)) ≡ built_table (meaning t) Rs es
  build-meaning = spell-meaning (built_table (meaning t) Rs es) written-fits written_ordered

  -- its own spelling (docs/RULES.md, "One spelling")
  pub build_spelling : spell (meaning (spell (built_table (meaning t) Rs es))) ≡ spell (built_table (meaning t) Rs es)
  build_spelling = ap spell build-meaning
