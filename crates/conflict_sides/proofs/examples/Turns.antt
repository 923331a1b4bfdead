-- The ways through a turn of `list_outlines`: what is kept of the example that a search finds, and what of the listing is left (specs/examples/Listing, specs/examples/Gathers).
use Rattle.std.specs.Prelude.{Ok, Err, ◌≡◌, ℕ, suc, ◌+◌, ◌-◌, ◌<◌, ◌≤◌, Bool, List, [], ◌∷◌, ◌++◌, length, drop, set, replicate}
use native.Mathlib.Omega.{arith}
use mathlib.Core.Path.{refl, sym, ap, ◌∙◌}
use mathlib.Core.Option.{Option}
use mathlib.Core.List.{append-nil, append_assoc}
use lib.ListN.{length-append}
use Rattle.lr1_base.specs.repr.Sizes.{trial_limit, example_limit}
use Rattle.lr1_base.specs.repr.Meaning.{Production, Item}
use Rattle.trace_graph.specs.Graph.{TraceEdge, at_item}
use Rattle.enumerator.specs.example.Example.{Label}
use Rattle.enumerator.specs.example.Labels.{labels_in, LabelsFit}
use Rattle.enumerator.specs.trials.Trials.{ends_of, trials}
use Rattle.enumerator.specs.trials.Lister.{search, labels_of}
use Rattle.enumerator.specs.graph_view.Trial.{trial_room, trial_words}
use Rattle.enumerator.specs.declared.filter.Searched.{Searched}
use Rattle.enumerator.specs.declared.filter.Searched.TheVariants.{Out}
use Rattle.enumerator.specs.filter.Filter.{hands_by}
use Rattle.enumerator.specs.filter.Found.{searched, searched_of, later_than}
use Rattle.enumerator.proofs.filter.Calling.{searched-out}
use Rattle.conflict_sides.specs.conflict.Sides.{Side, gathered, stopped}
use Rattle.conflict_sides.specs.conflict.Judge.{Example}
use Rattle.conflict_sides.specs.declared.outline.Outline.{Outline}
use Rattle.conflict_sides.specs.outline.Outline.{outline_from}
use Rattle.conflict_sides.specs.outline.Kept.{outline_in, turn_in, kept_with, labelled_limit, kept_room, KeptLabels, LabelsPut, Room}
use Rattle.conflict_sides.proofs.outline.Keeping.{keep-length, keep_here, keep_turn, keep_there, keep_turn_there}
use Rattle.conflict_sides.proofs.outline.Labelled.{put_outline, put_turn, put_labels, put_others, outlined_labels}
use Rattle.lr1_base.specs.declared.repr.refusals.Refusal.{Refusal}
use Rattle.lr1_base.specs.declared.repr.refusals.Refusal.TheVariants.{TooManyTrials, TooManyExamples}
use Rattle.conflict_sides.specs.examples.Listing.{more, onto, next_example, listed_by}
use Rattle.conflict_sides.specs.examples.Gathers.{PutBehind, Behind, ListedOn, TrialsIn}
use Rattle.conflict_sides.proofs.examples.Walking.{next-room, next-none, walk-out}
use Rattle.conflict_sides.proofs.examples.Walks.{rest_side, rest-first, Walk, walk_first, no_edge}
use Rattle.conflict_sides.proofs.examples.Behind.{behind-none, behind_more}

-- `keep_trial`: the outline of the labels read, kept; and the labels of the side's first examples
module _ (ps : List Production) (shift : Bool) (ws : List ℕ) (x : Example) (F : LabelsFit ps ws) (e : labels_in ws ≡ x) (o : Outline) (eo : o ≡ outline_from ps shift (labels_in ws)) (turn k : ℕ)
    (h : k < example_limit) (kept prints : List ℕ) (R : Room kept prints) (mid prints' : List ℕ) (em : mid ≡ kept_with kept k o turn) (ep : prints' ≡ set prints k o.print) where
  -- the outline alone
  outline_here : outline_in mid prints' k ≡ outline_from ps shift x
  outline_here = rw (em, ep, keep_here kept k o turn prints R h, eo, e)

  number_here : turn_in mid k ≡ turn
  number_here = rw (em, keep_turn kept k o turn prints R h)

  outlines_there : (j : ℕ) → (j ≡ k → ⊥) → outline_in mid prints' j ≡ outline_in kept prints j
  outlines_there j ne = rw (em, ep, keep_there kept k o turn j ne prints)

  numbers_there : (j : ℕ) → (j ≡ k → ⊥) → turn_in mid j ≡ turn_in kept j
  numbers_there j ne = rw (em, keep_turn_there kept k o turn j ne)

  labels_there : (j : ℕ) → j < labelled_limit → (y : Example) → KeptLabels ps kept j y → KeptLabels ps mid j y
  labels_there j l y K = rw em (outlined_labels kept k o turn h ps R.by_words j l y K)

  pub trial_unlabelled : labelled_limit ≤ k → PutBehind ps shift x turn k kept prints mid prints'
  trial_unlabelled l = record {
    outline = outline_here;
    number = number_here;
    labels = λ q. absurd (omega arith);
    other_outlines = λ j ne q. outlines_there j ne;
    other-numbers = λ j ne q. numbers_there j ne;
    other_labels = λ j ne q y K. labels_there j q y K;
  }

  pub trial_labelled : k < labelled_limit → (kept' : List ℕ) → LabelsPut ws k mid kept' → PutBehind ps shift x turn k kept prints kept' prints'
  trial_labelled l kept' P =
      let r : kept_room ≤ length mid = rw (em, keep-length kept k o turn) R.by_words in
      record {
        outline = put_outline ws k mid kept' P prints' k h ∙ outline_here;
        number = put_turn ws k mid kept' P k h ∙ number_here;
        labels = λ q. put_labels ws k mid kept' P ps l r x F e;
        other_outlines = λ j ne q. put_outline ws k mid kept' P prints' j q ∙ outlines_there j ne;
        other-numbers = λ j ne q. put_turn ws k mid kept' P j q ∙ numbers_there j ne;
        other_labels = λ j ne q y K. put_others ws k mid kept' P ps l r j ne q F.few y (labels_there j q y K);
      }

-- examples put behind others

onto-stopped : (xs : List Example) (n : ℕ) → onto xs (stopped n) ≡ stopped n
unfolding onto
onto-stopped xs n = refl

onto-none : (L : Side) → onto [] L ≡ L
unfolding onto
onto-none (gathered ys m) = refl
onto-none (stopped x) = refl

onto_end : (xs : List Example) (n : ℕ) → onto xs (gathered [] n) ≡ gathered xs n
unfolding onto
onto_end xs n = ap (λ (l : List (List Label)). gathered l n) (append-nil xs)

onto-more : (xs : List Example) (x : Example) (s : Side) → onto (xs ++ x ∷ []) s ≡ onto xs (more x s)
unfolding onto more
onto-more xs x (gathered ys m) = ap (λ (l : List (List Label)). gathered l m) (append_assoc xs (x ∷ []) ys)
onto-more xs x (stopped n) = refl

module _ (e : ℕ) (sets : List ℕ) (ps : List Production) (ahead : Option ℕ) (es : List TraceEdge) (start : Item) where
  pub walk_zeros : Walk e sets ps ahead es start (replicate trial_room 0) 0
  walk_zeros = walk_first e sets ps ahead es start (replicate trial_room 0) [] no_edge

  -- the trials of a listing that has ended
  pub out_few : (w : List ℕ) (c : ℕ) → Walk e sets ps ahead es start w c → (r : Searched) (w' : List ℕ)
      → ((p rest : List ℕ) → w ≡ trial_words p ++ rest → searched r w' ≡ searched_of rest (search (hands_by e sets ps es ahead) (trial_limit - c) c (later_than p (trials (ends_of es) (at_item start)))))
      → (n : ℕ) → r ≡ Out n → n ≤ trial_limit
  out_few w c U r w' a n er =
      let ts = trials (ends_of es) (at_item start) in
      let test = hands_by e sets ps es ahead in
      let x = searched-out n w' U.rest (search test (trial_limit - c) c (later_than U.path ts)) (ap (λ (y : Searched). searched y w') (sym er) ∙ a U.path U.rest U.words) in
      let d = (walk-out test (labels_of ps es) (trial_limit - c) c 0 n (drop c ts) (ap (search test (trial_limit - c) c) (sym U.later) ∙ x.0)).1 in
      let b = U.made in
      omega arith

  abbrev left : ℕ → ℕ → Side
  left = rest_side e sets ps ahead es start

  -- the examples so far, `turn` behind the first `count`; kept₀, prints₀: what was kept at the beginning
  pub record Turn (shift : Bool) (count : ℕ) (kept₀ prints₀ kept prints : List ℕ) (turn c : ℕ) : Type 0 where
    pub examples : List Example
    pub many : length examples ≡ turn
    pub behind : Behind ps shift count (count + turn) examples kept₀ prints₀ kept prints
    pub same : onto examples (rest_side e sets ps ahead es start c (count + turn)) ≡ listed_by e sets ps es ahead start count

  pub turn_first : (shift : Bool) (count : ℕ) (kept prints : List ℕ) → count ≤ example_limit → Turn shift count kept prints kept prints 0 0
  turn_first shift count kept prints h =
      let z : count + 0 ≡ count = omega arith in
      record { examples = []; many = refl; behind = behind-none ps shift count kept prints h; same = onto-none (left 0 (count + 0)) ∙ ap (left 0) z ∙ rest-first e sets ps ahead es start count }

  module _ (shift : Bool) (count : ℕ) (kept₀ prints₀ kept prints : List ℕ) (turn c : ℕ) (U : Turn shift count kept₀ prints₀ kept prints turn c) where
    -- 14
    pub turn_full : (x : Example) (s : Side) → left c (count + turn) ≡ next_example (count + turn) x s → example_limit ≤ count + turn
        → ListedOn ps shift (Err TooManyExamples) count kept₀ prints₀ kept prints (listed_by e sets ps es ahead start count)
    unfolding ListedOn
    turn_full x s h f = (sym U.same ∙ ap (onto U.examples) (h ∙ next-none (count + turn) x s f) ∙ onto-stopped U.examples 14, refl)

    pub turn_more : (x : Example) (n : ℕ) → left c (count + turn) ≡ next_example (count + turn) x (left n (suc (count + turn))) → count + turn < example_limit → (kept' prints' : List ℕ)
        → PutBehind ps shift x turn (count + turn) kept prints kept' prints' → Turn shift count kept₀ prints₀ kept' prints' (turn + 1) n
    turn_more x n h f kept' prints' P =
        let z : suc (count + turn) ≡ count + (turn + 1) = omega arith in
        let l : length (U.examples ++ x ∷ []) ≡ length U.examples + 1 = length-append U.examples (x ∷ []) in
        let m = U.many in
        record {
          examples = U.examples ++ x ∷ [];
          many = omega arith;
          behind = rw (← z) (behind_more ps shift count (count + turn) turn U.examples kept₀ prints₀ kept prints U.behind U.many f x kept' prints' P);
          same =
              ap (λ (q : ℕ). onto (U.examples ++ x ∷ []) (left n q)) (sym z) ∙ onto-more U.examples x (left n (suc (count + turn)))
              ∙ ap (onto U.examples) (sym (h ∙ next-room (count + turn) x (left n (suc (count + turn))) f)) ∙ U.same;
        }

    -- the end
    pub turn_out : (n : ℕ) → left c (count + turn) ≡ gathered [] n → ListedOn ps shift (Ok (record { examples = count + turn; trials = n })) count kept₀ prints₀ kept prints (listed_by e sets ps es ahead start count)
    unfolding ListedOn
    turn_out n h = record { examples = U.examples; is = sym U.same ∙ ap (onto U.examples) h ∙ onto_end U.examples n; behind = U.behind }

    -- 13
    pub turn_over : left c (count + turn) ≡ stopped 13 → ListedOn ps shift (Err TooManyTrials) count kept₀ prints₀ kept prints (listed_by e sets ps es ahead start count)
    unfolding ListedOn
    turn_over h = (sym U.same ∙ ap (onto U.examples) h ∙ onto-stopped U.examples 13, refl)

-- what a listing says of its trials
pub trials-told : (k n : ℕ) → n ≤ trial_limit → TrialsIn trial_limit (Ok (record { examples = k; trials = n }))
unfolding TrialsIn
trials-told k n h = h

pub trials-none : (x : Refusal) → TrialsIn trial_limit (Err x)
unfolding TrialsIn
trials-none x = tt
