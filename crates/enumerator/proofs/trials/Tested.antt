-- The test that a path is a trial, edge by edge, is the test that it is among the trials.
use Rattle.std.proofs.Common.{◌≡◌, ℕ, ◌<◌, true, not, ◌&&◌, ltb, List, [], ◌∷◌, take, sym, refl, true≢false, ltb-true, lt-ltb}
use borrow.Author.Tests.{not-true}
use Rattle.lr1_base.specs.repr.Sizes.{scratch_words}
use Rattle.lr1_base.specs.words.Same.{same_words}
use Rattle.lr1_base.specs.repr.Lists.{mem, some?}
use Rattle.trace_graph.specs.Graph.{Node, at_nonterminal, at_item, is_same_node}
use Rattle.enumerator.specs.trials.Trials.{Path, Ends, TrialFrom, trials, is_example_in, Small}
use Rattle.enumerator.specs.trials.Words.{words_of, path_in, has_trial}
use Rattle.enumerator.specs.trials.Machine.{goes_on_byte, trial_from?}
use Rattle.lr1_base.proofs.laws.Bools.{and_left, and_right, agree}
use Rattle.enumerator.proofs.trials.Exact.{sound, complete}
use Rattle.enumerator.proofs.trials.SameWords.{found_of_member, member_of_found}
use Rattle.trace_graph.proofs.Labels.{node_refl, node_equal}

module _ (G : Ends) where
  -- the edge's number, and the node that it enters
  enters : (e : ℕ) (v : Node) → (ltb e G.count && is_same_node (G.target e) v) ≡ true → (e < G.count) × (G.target e ≡ v)
  enters e v h =
      (ltb-true e G.count (and_left (ltb e G.count) (is_same_node (G.target e) v) h), node_equal (G.target e) v (and_right (ltb e G.count) (is_same_node (G.target e) v) h))

  pub trial_passes : (p : Path) (us : List ℕ) (v : Node) → TrialFrom G us v p → trial_from? G us v p ≡ true
  unfolding trial_from? goes_on_byte
  trial_passes [] us v t = absurd t
  trial_passes (e ∷ []) us v t = rw (lt-ltb e G.count t.0, t.1, node_refl v)
  trial_passes (e ∷ f ∷ p) us v (n, a, b, c, d, t) = rw (lt-ltb e G.count a, b, node_refl v, c, d) (trial_passes (f ∷ p) (n ∷ us) (at_nonterminal n) t)

  pub passes_trial : (p : Path) (us : List ℕ) (v : Node) → trial_from? G us v p ≡ true → TrialFrom G us v p
  unfolding trial_from? goes_on_byte
  passes_trial [] us v h = absurd (true≢false (sym h))
  passes_trial (e ∷ []) us v h = enters e v h
  passes_trial (e ∷ f ∷ p) us v h =
      let first = ltb e G.count && is_same_node (G.target e) v in
      let rest = goes_on_byte us (G.source e) (λ n. trial_from? G (n ∷ us) (at_nonterminal n) (f ∷ p)) in
      by (λ n. passes_trial (f ∷ p) (n ∷ us) (at_nonterminal n)) (G.source e) refl (enters e v (and_left first rest h)) (and_right first rest h)
    where
      by : ((n : ℕ) → trial_from? G (n ∷ us) (at_nonterminal n) (f ∷ p) ≡ true → TrialFrom G (n ∷ us) (at_nonterminal n) (f ∷ p))
          → (x : Node) → G.source e ≡ x → (e < G.count) × (G.target e ≡ v) → goes_on_byte us x (λ n. trial_from? G (n ∷ us) (at_nonterminal n) (f ∷ p)) ≡ true
          → TrialFrom G us v (e ∷ f ∷ p)
      by ih (at_item i) q r k = absurd (true≢false (sym k))
      by ih (at_nonterminal n) q r k =
          let t = trial_from? G (n ∷ us) (at_nonterminal n) (f ∷ p) in
          (n, r.0, r.1, q, not-true (mem n us) (and_left (not (mem n us)) t k), ih n (and_right (not (mem n us)) t k))

module _ (G : Ends) (start : Node) (small : Small G) where
  pub trial_test : (p : Path) → some? (same_words p) (trials G start) ≡ trial_from? G [] start p
  trial_test p =
      agree (some? (same_words p) (trials G start)) (trial_from? G [] start p)
      (λ h. trial_passes G p [] start (sound G start p (member_of_found p (trials G start) h)))
      (λ h. found_of_member p (trials G start) (complete G small start p (passes_trial G p [] start h)))

  -- what the code tests of the words
  pub holds_test : (ws : List ℕ)
      → has_trial G start ws ≡ (same_words (take scratch_words ws) (words_of (path_in ws)) && (is_example_in G (path_in ws) && trial_from? G [] start (path_in ws)))
  unfolding has_trial
  holds_test ws = rw (trial_test (path_in ws))
