-- A search that goes from one trial of a listing to the next: where the words of a trial stand (`Walk`), and what the answers say of the listing that is left (specs/examples/Listing).
use Rattle.std.specs.Prelude.{◌≡◌, ℕ, suc, ◌-◌, ◌≤◌, Bool, List, [], ◌++◌, drop, replicate}
use native.Mathlib.Omega.{arith}
use mathlib.Core.Path.{refl, sym, ap, ◌∙◌}
use mathlib.Core.Option.{Option}
use mathlib.Core.List.{Memᴰ}
use Rattle.lr1_base.specs.repr.Sizes.{trial_limit}
use Rattle.lr1_base.specs.repr.Meaning.{Production, Item}
use Rattle.trace_graph.specs.Graph.{TraceEdge, Node, at_item}
use Rattle.enumerator.specs.example.Example.{Label}
use Rattle.enumerator.specs.trials.Trials.{Path, ends_of, trials}
use Rattle.enumerator.specs.trials.Lister.{search, labels_of}
use Rattle.enumerator.proofs.trials.After.{after_trial}
use Rattle.enumerator.specs.graph_view.Trial.{trial_room, trial_words}
use Rattle.enumerator.specs.declared.filter.Searched.{Searched}
use Rattle.enumerator.specs.declared.filter.Searched.TheVariants.{Hit, Out, Over}
use Rattle.enumerator.specs.filter.Filter.{hands_by}
use Rattle.enumerator.specs.filter.Given.{Begun, Searching, Tried}
use Rattle.enumerator.specs.filter.Found.{searched, searched_of, later_than}
use Rattle.enumerator.proofs.filter.Calling.{begun-none, begun_trial, later-none, later_trial, searched-hit, searched-out, searched-over, search_trial, tried_trial}
use Rattle.conflict_sides.specs.conflict.Sides.{Side, gathered, stopped}
use Rattle.conflict_sides.specs.examples.Listing.{next_example, walk_side, listed_by, Listable}
use Rattle.conflict_sides.proofs.examples.Walking.{walk-out, walk_past, walk-hit}

module _ (e : ℕ) (sets : List ℕ) (ps : List Production) (ahead : Option ℕ) (es : List TraceEdge) (start : Item) where
  abbrev from : Node
  from = at_item start

  abbrev ts : List Path
  ts = trials (ends_of es) (at_item start)

  abbrev test : Path → Bool
  test = hands_by e sets ps es ahead

  abbrev say : Path → List Label
  say = labels_of ps es

  -- the listing past c trials, k examples being on its side
  unfoldable pub rest_side : ℕ → ℕ → Side
  rest_side c k = walk_side (hands_by e sets ps es ahead) (labels_of ps es) (trial_limit - c) c k (drop c (trials (ends_of es) (at_item start)))

  pub rest-first : (k : ℕ) → rest_side 0 k ≡ listed_by e sets ps es ahead start k
  unfolding rest_side listed_by
  rest-first k = refl

  -- the words after c trials made
  pub record Walk (w : List ℕ) (c : ℕ) : Type 0 where
    pub path : Path
    pub rest : List ℕ
    pub words : w ≡ trial_words path ++ rest
    pub begun : Begun (ends_of es) (at_item start) path
    pub later : later_than path (trials (ends_of es) (at_item start)) ≡ drop c (trials (ends_of es) (at_item start))
    pub made : c ≤ trial_limit

  pub walk_first : (w rest : List ℕ) → w ≡ trial_words [] ++ rest → Walk w 0
  walk_first w rest h = record { path = []; rest = rest; words = h; begun = begun-none (ends_of es) from; later = later-none ts; made = omega arith }

  module _ (owners codes sources older latest : List ℕ) (L : Listable ps es owners codes sources older latest start) (w : List ℕ) (c : ℕ) (U : Walk w c) where
    pub walk_searching : Searching ps es owners codes sources older latest w start
    walk_searching = record { labelled = L.labelled; view = L.view; path = U.path; rest = U.rest; words = U.words; begun = U.begun }

    -- a search that was made, r its answer and w' the words that it leaves
    module _ (r : Searched) (w' : List ℕ) (a : (p rest : List ℕ) → w ≡ trial_words p ++ rest → searched r w' ≡ searched_of rest (search test (trial_limit - c) c (later_than p ts))) where
      answer : searched r w' ≡ searched_of U.rest (search test (trial_limit - c) c (later_than U.path ts))
      answer = a U.path U.rest U.words

      pub record Hits (n : ℕ) : Type 0 where
        pub found : Path
        pub words : w' ≡ trial_words found ++ U.rest
        pub trial : Memᴰ found (trials (ends_of es) (at_item start))
        pub later : later_than found (trials (ends_of es) (at_item start)) ≡ drop n (trials (ends_of es) (at_item start))
        pub made : n ≤ trial_limit
        pub next : (k : ℕ) → rest_side c k ≡ next_example k (labels_of ps es found) (rest_side n (suc k))

      pub hits : (n : ℕ) → r ≡ Hit n → Hits n
      unfolding rest_side
      hits n er =
          let x = searched-hit n w' U.rest (search test (trial_limit - c) c (later_than U.path ts)) (ap (λ (y : Searched). searched y w') (sym er) ∙ answer) in
          let f = x.0 in
          let m = search_trial test (ends_of es) from U.path (trial_limit - c) c n f x.1 in
          let q = ap (search test (trial_limit - c) c) (sym U.later) ∙ x.1 in
          let N = walk-hit test say ts (trial_limit - c) c 0 n f (drop c ts) refl q in
          let b = U.made in
          let d = N.limit in
          record {
            found = f;
            words = x.2;
            trial = m.0;
            later = later_trial (ends_of es) from f m.0 ts ∙ after_trial (ends_of es) from N.number f (drop n ts) N.here ∙ ap (λ (y : ℕ). drop y ts) (sym N.is_next);
            made = omega arith;
            next = λ k.
                let M = walk-hit test say ts (trial_limit - c) c k n f (drop c ts) refl q in
                let l = M.limit in
                let z : M.left ≡ trial_limit - n = omega arith in
                M.walk ∙ ap (λ (y : ℕ). next_example k (say f) (walk_side test say y n (suc k) (drop n ts))) z;
          }

      pub hit-tried : (n : ℕ) → r ≡ Hit n → Tried ps es owners codes w'
      hit-tried n er = let H = hits n er in tried_trial L.labelled from H.found U.rest w' H.trial H.words

      pub walk_on : (n : ℕ) → r ≡ Hit n → Walk w' n
      walk_on n er =
          let H = hits n er in
          record { path = H.found; rest = U.rest; words = H.words; begun = begun_trial (ends_of es) from H.found H.trial; later = H.later; made = H.made }

      pub out-rest : (n : ℕ) → r ≡ Out n → (k : ℕ) → rest_side c k ≡ gathered [] n
      unfolding rest_side
      out-rest n er k =
          let x = searched-out n w' U.rest (search test (trial_limit - c) c (later_than U.path ts)) (ap (λ (y : Searched). searched y w') (sym er) ∙ answer) in
          (walk-out test say (trial_limit - c) c k n (drop c ts) (ap (search test (trial_limit - c) c) (sym U.later) ∙ x.0)).0

      pub over-rest : r ≡ Over → (k : ℕ) → rest_side c k ≡ stopped 13
      unfolding rest_side
      over-rest er k =
          let x = searched-over w' U.rest (search test (trial_limit - c) c (later_than U.path ts)) (ap (λ (y : Searched). searched y w') (sym er) ∙ answer) in
          walk_past test say (trial_limit - c) c k (drop c ts) (ap (search test (trial_limit - c) c) (sym U.later) ∙ x.0)

-- zeros are the words of no edge
pub no_edge : ◌≡◌ {A = List ℕ} (replicate trial_room 0) (trial_words [] ++ [])
unfolding trial_words
no_edge = refl
