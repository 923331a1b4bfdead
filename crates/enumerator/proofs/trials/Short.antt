-- A trial has at most 33 edges: 32 nonterminals and one edge more (behind 528 symbols and 33 reductions).
use Rattle.std.proofs.Common.{◌≡◌, ℕ, zero, suc, ◌≤◌, Bool, true, false, List, [], ◌∷◌, map, length, refl, arith}
use mathlib.Core.List.{Memᴰ}
use Rattle.lr1_base.specs.repr.Sizes.{reduction_limit}
use Rattle.lr1_base.specs.repr.Lists.{mem}
use Rattle.trace_graph.specs.Graph.{Node, at_nonterminal, at_item, is_same_node}
use Rattle.enumerator.specs.trials.Trials.{Path, Ends, AllPaths, level, within, trials_from, walk_fuel, trials}
use Rattle.enumerator.proofs.trials.Level.{level-hit, level_miss, within_on, within_in}
use Rattle.enumerator.proofs.trials.Paths.{all_in, all_append, all_map, all_weak}

module _ (G : Ends) where
  level_short : (ch : ℕ → List Path) (n : ℕ) (v : Node) → 1 ≤ n → ((e : ℕ) → AllPaths (λ p. suc (length p) ≤ n) (ch e)) → (k : ℕ) → AllPaths (λ p. length p ≤ n) (level G ch v k)
  level_short ch n v h c zero = tt
  level_short ch n v h c (suc k) = by (level_short ch n v h c k) (is_same_node (G.target k) v) refl
    where
      by : AllPaths (λ p. length p ≤ n) (level G ch v k) → (b : Bool) → is_same_node (G.target k) v ≡ b → AllPaths (λ p. length p ≤ n) (level G ch v (suc k))
      by ih true e = rw (level-hit G ch v k e)
          (h, all_append (λ p. length p ≤ n) (map (λ p. k ∷ p) (ch k)) (level G ch v k) (all_map (λ p. suc (length p) ≤ n) (λ p. length p ≤ n) (λ p. k ∷ p) (ch k) (λ p a. a) (c k)) ih)
      by ih false e = rw (level_miss G ch v k e) ih

  short_from_lem : (f : ℕ) (us : List ℕ) (v : Node) → AllPaths (λ p. length p ≤ f) (trials_from G f us v)
  short_from_lem zero us v = tt
  short_from_lem (suc f) us v =
      level_short (λ e. within us (λ u w. trials_from G f u w) (G.source e)) (suc f) v (omega arith) (λ e. go (short_from_lem f) (G.source e)) G.count
    where
      go : ((u : List ℕ) (w : Node) → AllPaths (λ p. length p ≤ f) (trials_from G f u w)) → (x : Node) → AllPaths (λ p. suc (length p) ≤ suc f) (within us (λ u w. trials_from G f u w) x)
      go ih (at_item i) = tt
      go ih (at_nonterminal n) = by (mem n us) refl
        where
          by : (b : Bool) → mem n us ≡ b → AllPaths (λ p. suc (length p) ≤ suc f) (within us (λ u w. trials_from G f u w) (at_nonterminal n))
          by true m = rw (within_on n us (λ u w. trials_from G f u w) m) tt
          by false m = rw (within_in n us (λ u w. trials_from G f u w) m)
              (all_weak (λ p. length p ≤ f) (λ p. suc (length p) ≤ suc f) (trials_from G f (n ∷ us) (at_nonterminal n)) (λ p a. omega arith) (ih (n ∷ us) (at_nonterminal n)))

  pub at_most_33 : (start : Node) → AllPaths (λ p. length p ≤ reduction_limit) (trials G start)
  unfolding trials
  at_most_33 start = short_from_lem walk_fuel [] start

  pub short_trial : (start : Node) (p : Path) → Memᴰ p (trials G start) → length p ≤ reduction_limit
  short_trial start p m = all_in (λ q. length q ≤ reduction_limit) (trials G start) p (at_most_33 start) m
