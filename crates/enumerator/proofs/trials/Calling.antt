-- One call of a list of calls (specs/trials/Calls), over a listing that opening gave and words that fit it: the graph and the scratch are lent whole or only a beginning of them.
use Rattle.std.proofs.Common.{◌≡◌, ℕ, zero, suc, ◌-◌, ◌≤◌, Bool, true, false, not, ◌&&◌, eqb, leb, List, ◌∷◌, length, take, drop, refl, ap, ◌∙◌, arith, length-take, leb-true}
use mathlib.Core.Bool.{and-false}
use Rattle.lr1_base.specs.repr.Reply.{answered, refused}
use Rattle.lr1_base.specs.repr.Sizes.{graph_room, scratch_words, trial_limit, example_room}
use Rattle.lr1_base.specs.repr.Meaning.{Item}
use Rattle.table.specs.Decoded.{meaning}
use Rattle.trace_graph.specs.Graph.{at_item, TraceEdge, is_node_of}
use Rattle.trace_graph.specs.Words.{edges_in}
use Rattle.enumerator.specs.trials.Trials.{Path, ends_of}
use Rattle.enumerator.specs.trials.Words.{path_in, has_trial, after, path_room}
use Rattle.enumerator.specs.trials.Lister.{Call, enough, hands, says, search}
use Rattle.enumerator.specs.trials.Advance.{outcome, set_of, start_of, found_outcome, rest_of, lost, advance_in, advance_by, advance_of}
use Rattle.enumerator.specs.trials.Calls.{Lent, called, lengths}
use Rattle.enumerator.specs.trials.Opening.{listing, Ready}
use Rattle.enumerator.specs.trials.Behind.{trials_in, Fit}
use Rattle.enumerator.specs.trials.Lookahead.{Lookahead}
use Rattle.enumerator.specs.declared.trials.Listing.{Listing}
use Rattle.enumerator.specs.declared.trials.Advanced.TheVariants.{End}
use Rattle.lr1_base.proofs.laws.Bools.{and_left, and_right}
use Rattle.enumerator.proofs.trials.Short.{short_trial}
use Rattle.enumerator.proofs.trials.Edges.{few_edges}
use Rattle.enumerator.proofs.trials.After.{drop_in, drop_more, after_trial}
use Rattle.enumerator.proofs.trials.WordsOf.{path_in-words, words_hold}
use Rattle.enumerator.proofs.trials.Taken.{edges_taken, asked_taken, asked_graph}
use Rattle.enumerator.proofs.trials.Scratch.{Kept, kept_taken, front_holds, rest-front, rest-zeroed}
use Rattle.enumerator.proofs.trials.Outcomes.{advance_short, advance_ended, advance_open}

-- the test and the words of a listing over a graph's words
abbrev pub hands_in : List ℕ → Lookahead → List ℕ → Path → Bool
hands_in t ahead g = hands (meaning t) (edges_in g) (set_of ahead)

abbrev pub says_in : List ℕ → List ℕ → Path → List ℕ
says_in t g = says (meaning t) (edges_in g)

enough-parts : (c : Call) → enough c ≡ true → (graph_room ≤ c.graph) × (scratch_words ≤ c.scratch) × (example_room ≤ c.buffer)
unfolding enough
enough-parts c e =
    let r = and_right (leb graph_room c.graph) (leb scratch_words c.scratch && leb example_room c.buffer) e in (
      leb-true graph_room c.graph (and_left (leb graph_room c.graph) (leb scratch_words c.scratch && leb example_room c.buffer) e),
      leb-true scratch_words c.scratch (and_left (leb scratch_words c.scratch) (leb example_room c.buffer) r),
      leb-true example_room c.buffer (and_right (leb scratch_words c.scratch) (leb example_room c.buffer) r),
    )

lent_lengths : (g ws ws₀ : List ℕ) (k : Lent) → length ws ≡ length ws₀
    → ◌≡◌ {A = Call} (record { graph = length (take k.graph g); scratch = length (take k.scratch ws); buffer = length k.buffer }) (lengths g ws₀ k)
unfolding lengths
lent_lengths g ws ws₀ k e = rw (length-take k.graph g, length-take k.scratch ws, e)

module _ (t : List ℕ) (i : Item) (ahead : Lookahead) (g : List ℕ) (R : Ready t i ahead g) where
  fit_short : (m : ℕ) (p : Path) → drop m (trials_in i g) ≡ p ∷ drop (suc m) (trials_in i g) → length p ≤ path_room
  fit_short m p d = let s = short_trial (ends_of (edges_in g)) (at_item i) p (drop_in m (trials_in i g) p (drop (suc m) (trials_in i g)) d) in omega arith

  -- the words lose nothing
  not-lost : (ws₀ : List ℕ) (c : ℕ) (o : Bool) (ws : List ℕ) (m : ℕ) → Fit i g ws₀ c o ws → scratch_words ≤ m → lost (edges_in g) (listing i ahead c o) (take m ws) ≡ false
  unfolding Fit Kept lost start_of
  not-lost ws₀ c false ws m f h = refl
  not-lost ws₀ zero true ws m f h = refl
  not-lost ws₀ (suc c) true ws m (p, d, x, k) h =
      let q = kept_taken p ws m (fit_short c p d) h (front_holds p ws ws₀ k) in
      let w : has_trial (ends_of (edges_in g)) (at_item i) (take m ws) ≡ true =
      ap (has_trial (ends_of (edges_in g)) (at_item i)) q.1
      ∙ words_hold (ends_of (edges_in g)) (at_item i) p q.0 (drop_in c (trials_in i g) p (drop (suc c) (trials_in i g)) d) x in
      rw w (and-false (not (eqb (suc c) 0)))

  -- what is left are the trials past the count
  rest_is : (ws₀ : List ℕ) (c : ℕ) (ws : List ℕ) (m : ℕ) → Fit i g ws₀ c true ws → scratch_words ≤ m → rest_of c (take m ws) (trials_in i g) ≡ drop c (trials_in i g)
  unfolding Fit Kept rest_of
  rest_is ws₀ zero ws m f h = refl
  rest_is ws₀ (suc c) ws m (p, d, x, k) h =
      let q = kept_taken p ws m (fit_short c p d) h (front_holds p ws ws₀ k) in
      ap (λ (w : Path). after w (trials_in i g)) (ap path_in q.1 ∙ path_in-words p q.0) ∙ after_trial (ends_of (edges_in g)) (at_item i) c p (drop (suc c) (trials_in i g)) d

  pub fit_count : (ws₀ : List ℕ) (c : ℕ) (ws : List ℕ) → Fit i g ws₀ c true ws → c ≤ length (trials_in i g)
  unfolding Fit
  fit_count ws₀ zero ws f = omega arith
  fit_count ws₀ (suc c) ws (p, d, x, k) = drop_more c (trials_in i g) p (drop (suc c) (trials_in i g)) d

  -- behind the first 32,000 words the scratch is as it was
  pub fit_rest : (ws₀ : List ℕ) (c : ℕ) (o : Bool) (ws : List ℕ) → Fit i g ws₀ c o ws → drop scratch_words ws ≡ drop scratch_words ws₀
  unfolding Fit
  fit_rest ws₀ c false ws f = ap (drop scratch_words) f ∙ rest-zeroed ws₀
  fit_rest ws₀ zero true ws f = ap (drop scratch_words) f
  fit_rest ws₀ (suc c) true ws (p, d, x, k) = ap (drop scratch_words) k ∙ rest-front p ws₀ (fit_short c p d)

  -- one call
  called_in : (l : Listing) (ws : List ℕ) (k : Lent) → called t g l ws k ≡ advance_in (take k.graph g) l (take k.scratch ws) k.buffer (meaning t)
  unfolding called advance_of advance_by
  called_in l ws k = rw R.accepted

  module _ (ws₀ : List ℕ) (k : Lent) (c : ℕ) (ws : List ℕ) (len : length ws ≡ length ws₀) where
    pub call_short : (o : Bool) → enough (lengths g ws₀ k) ≡ false
        → called t g (listing i ahead c o) ws k ≡ outcome (refused 11 0) (listing i ahead c o) (take k.scratch ws) k.buffer
    unfolding start_of
    call_short o e =
        called_in (listing i ahead c o) ws k
        ∙ advance_short (take k.graph g) (listing i ahead c o) (take k.scratch ws) k.buffer (meaning t)
        (asked_taken (meaning t) i (set_of ahead) k.graph g R.long R.asks) (ap enough (lent_lengths g ws ws₀ k len) ∙ e)

    module _ (e : enough (lengths g ws₀ k) ≡ true) where
      pub lent_parts : (graph_room ≤ k.graph) × (scratch_words ≤ length (take k.scratch ws)) × (example_room ≤ length k.buffer)
      unfolding lengths
      lent_parts =
          let r = enough-parts (lengths g ws₀ k) e in
          let a = length-take k.scratch ws in
          (omega (arith, r.0), omega (arith, r.1), r.2)

      same_edges : edges_in (take k.graph g) ≡ edges_in g
      same_edges =
          edges_taken k.graph g lent_parts.0
          (few_edges (length (meaning t).nonterminals) (meaning t).productions g (asked_graph (meaning t) i (set_of ahead) g R.long R.asks))

      scratch_lent : scratch_words ≤ k.scratch
      scratch_lent = let a = length-take k.scratch ws in omega (arith, lent_parts.1)

      pub call_ended : called t g (listing i ahead c false) ws k ≡ outcome (answered End) (listing i ahead c false) (take k.scratch ws) k.buffer
      unfolding start_of lost
      call_ended =
          called_in (listing i ahead c false) ws k
          ∙ advance_ended (take k.graph g) (listing i ahead c false) (take k.scratch ws) k.buffer (meaning t)
          (asked_taken (meaning t) i (set_of ahead) k.graph g R.long R.asks) (ap enough (lent_lengths g ws ws₀ k len) ∙ e) refl
          (ap (is_node_of (at_item i)) same_edges ∙ R.node) refl

      pub call_open : Fit i g ws₀ c true ws
          → called t g (listing i ahead c true) ws k
          ≡ found_outcome (meaning t) (edges_in g) (listing i ahead c true) (take k.scratch ws) k.buffer
          (search (hands_in t ahead g) (trial_limit - c) c (drop c (trials_in i g)))
      unfolding start_of
      call_open f =
          called_in (listing i ahead c true) ws k
          ∙ advance_open (take k.graph g) (listing i ahead c true) (take k.scratch ws) k.buffer (meaning t)
          (asked_taken (meaning t) i (set_of ahead) k.graph g R.long R.asks) (ap enough (lent_lengths g ws ws₀ k len) ∙ e)
          (ap (λ (es : List TraceEdge). lost es (listing i ahead c true) (take k.scratch ws)) same_edges ∙ not-lost ws₀ c true ws k.scratch f scratch_lent)
          (ap (is_node_of (at_item i)) same_edges ∙ R.node) refl
          ∙ rw (same_edges, rest_is ws₀ c ws k.scratch f scratch_lent)
