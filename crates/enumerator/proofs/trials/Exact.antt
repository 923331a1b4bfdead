-- The trials enumerated are exactly the paths that are trials: the fuel never cuts (docs/RULES.md, "Listing").
use Rattle.std.proofs.Common.{◌≡◌, ℕ, zero, suc, ◌<◌, ◌≤◌, Bool, true, false, eqb, ◌⊎◌, List, [], ◌∷◌, ◌++◌, map, sym, refl, ◌∙◌, inl, inr, not-suc-le-zero, arith, eqb-true}
use mathlib.Core.List.Memᴰ
use mathlib.Core.List.{Memᴰ}
use borrow.Author.Tests.{eqb-false}
use Rattle.lr1_base.specs.repr.Lists.{mem}
use Rattle.trace_graph.specs.Graph.{Node, at_nonterminal, at_item, is_same_node}
use Rattle.enumerator.specs.trials.Trials.{Path, Ends, TrialFrom, IsTrial, AllPaths, level, within, trials_from, walk_fuel, trials, Small}
use Rattle.enumerator.proofs.trials.Level.{level-hit, level_miss, within_on, within_in, free, free_lt, free_all}
use Rattle.enumerator.proofs.trials.Paths.{all_in, all_append, all_map, all_weak}
use Rattle.trace_graph.proofs.Labels.{node_refl, node_equal}

module _ (G : Ends) where
  -- e can go before each way on that ch gives at it
  Goes : List ℕ → Node → (ℕ → List Path) → Type 0
  Goes us v ch = (e : ℕ) → e < G.count → G.target e ≡ v → AllPaths (λ p. TrialFrom G us v (e ∷ p)) (ch e)

  level_sound : (ch : ℕ → List Path) (us : List ℕ) (v : Node) → Goes us v ch → (k : ℕ) → k ≤ G.count → AllPaths (TrialFrom G us v) (level G ch v k)
  unfolding Goes
  level_sound ch us v g zero h = tt
  level_sound ch us v g (suc k) h = by (level_sound ch us v g k (omega arith)) (is_same_node (G.target k) v) refl
    where
      by : AllPaths (TrialFrom G us v) (level G ch v k) → (b : Bool) → is_same_node (G.target k) v ≡ b → AllPaths (TrialFrom G us v) (level G ch v (suc k))
      by ih true e =
          let t = node_equal (G.target k) v e in
          rw (level-hit G ch v k e) (
            (h, t),
            all_append (TrialFrom G us v) (map (λ p. k ∷ p) (ch k)) (level G ch v k)
                (all_map (λ p. TrialFrom G us v (k ∷ p)) (TrialFrom G us v) (λ p. k ∷ p) (ch k) (λ p a. a) (g k h t)) ih,
          )
      by ih false e = rw (level_miss G ch v k e) ih

  put : (us : List ℕ) (v : Node) (e n : ℕ) → e < G.count → G.target e ≡ v → G.source e ≡ at_nonterminal n → mem n us ≡ false → (p : Path)
      → TrialFrom G (n ∷ us) (at_nonterminal n) p → TrialFrom G us v (e ∷ p)
  put us v e n a b c d [] t = absurd t
  put us v e n a b c d (f ∷ p) t = (n, a, b, c, d, t)

  sound_from : (f : ℕ) (us : List ℕ) (v : Node) → AllPaths (TrialFrom G us v) (trials_from G f us v)
  unfolding Goes
  sound_from zero us v = tt
  sound_from (suc f) us v =
      level_sound (λ e. within us (λ u w. trials_from G f u w) (G.source e)) us v (λ e h t. go (sound_from f) e h t (G.source e) refl) G.count (omega arith)
    where
      go : ((u : List ℕ) (w : Node) → AllPaths (TrialFrom G u w) (trials_from G f u w)) → (e : ℕ) → e < G.count → G.target e ≡ v
          → (x : Node) → G.source e ≡ x → AllPaths (λ p. TrialFrom G us v (e ∷ p)) (within us (λ u w. trials_from G f u w) x)
      go ih e h t (at_item i) q = tt
      go ih e h t (at_nonterminal n) q = by (mem n us) refl
        where
          by : (b : Bool) → mem n us ≡ b → AllPaths (λ p. TrialFrom G us v (e ∷ p)) (within us (λ u w. trials_from G f u w) (at_nonterminal n))
          by true m = rw (within_on n us (λ u w. trials_from G f u w) m) tt
          by false m = rw (within_in n us (λ u w. trials_from G f u w) m)
              (all_weak (TrialFrom G (n ∷ us) (at_nonterminal n)) (λ p. TrialFrom G us v (e ∷ p)) (trials_from G f (n ∷ us) (at_nonterminal n)) (put us v e n h t q m) (ih (n ∷ us) (at_nonterminal n)))

  pub sound : (start : Node) (p : Path) → Memᴰ p (trials G start) → IsTrial G start p
  unfolding trials
  sound start p m = all_in (IsTrial G start) (trials G start) p (sound_from walk_fuel [] start) m

  -- the path of one edge, and each way on at that edge, is in the level
  level-has : (ch : ℕ → List Path) (v : Node) (e : ℕ) → G.target e ≡ v → (p : Path) → (p ≡ []) ⊎ Memᴰ p (ch e) → (k : ℕ) → e < k → Memᴰ (e ∷ p) (level G ch v k)
  level-has ch v e t p m zero h = absurd (not-suc-le-zero h)
  level-has ch v e t p m (suc k) h = by (level-has ch v e t p m k) (is_same_node (G.target k) v) refl (eqb e k) refl
    where
      here : (p ≡ []) ⊎ Memᴰ p (ch e) → e ≡ k → Memᴰ (e ∷ p) ((k ∷ []) ∷ (map (λ q. k ∷ q) (ch k) ++ level G ch v k))
      here (inl a) q = let z : ◌≡◌ {A = Path} (e ∷ p) (k ∷ []) = cc in Memᴰ.head z
      here (inr a) q = rw (← q) (Memᴰ.tail (Memᴰ.append_left (level G ch v e) (Memᴰ.map (λ (r : Path). e ∷ r) a)))

      by : (e < k → Memᴰ (e ∷ p) (level G ch v k)) → (b : Bool) → is_same_node (G.target k) v ≡ b → (c : Bool) → eqb e k ≡ c → Memᴰ (e ∷ p) (level G ch v (suc k))
      by ih true s true q = rw (level-hit G ch v k s) (here m (eqb-true e k q))
      by ih true s false q = rw (level-hit G ch v k s) (Memᴰ.tail (Memᴰ.append_right (map (λ r. k ∷ r) (ch k)) (ih (less (eqb-false e k q)))))
        where
          less : (e ≡ k → ⊥) → e < k
          less a = omega arith
      by ih false s true q =
          let a : is_same_node (G.target k) v ≡ true = rw (← eqb-true e k q, t) (node_refl v) in
          let z : true ≡ false = sym a ∙ s in
          absurd (no_way z)
        where
          no_way : true ≡ false → ⊥
          no_way z = let y : ◌≡◌ {A = ℕ} 0 1 = cc in omega arith
      by ih false s false q = rw (level_miss G ch v k s) (ih (less (eqb-false e k q)))
        where
          less : (e ≡ k → ⊥) → e < k
          less a = omega arith

  module _ (small : Small G) where
    complete-from : (f : ℕ) (us : List ℕ) (v : Node) → free 32 us < f → (p : Path) → TrialFrom G us v p → Memᴰ p (trials_from G f us v)
    complete-from zero us v h p t = absurd (not-suc-le-zero h)
    complete-from (suc f) us v h [] t = absurd t
    complete-from (suc f) us v h (e ∷ []) t =
        level-has (λ e. within us (λ u w. trials_from G f u w) (G.source e)) v e t.1 [] (inl refl) G.count t.0
    complete-from (suc f) us v h (e ∷ g ∷ p) (n, a, b, c, d, t) =
        level-has (λ e. within us (λ u w. trials_from G f u w) (G.source e)) v e b (g ∷ p)
        (inr (rw (c, within_in n us (λ u w. trials_from G f u w) d) (complete-from f (n ∷ us) (at_nonterminal n) (let z = free_lt n us d 32 (small e n a c) in omega arith) (g ∷ p) t)))
        G.count a

    pub complete : (start : Node) (p : Path) → IsTrial G start p → Memᴰ p (trials G start)
    unfolding trials
    complete start p t = complete-from walk_fuel [] start free_all p t
