-- Iterating `next` (specs/trials/Machine) from the empty stack gives the trials in their order.
use Rattle.std.proofs.Common.{◌≡◌, ℕ, zero, suc, ◌<◌, ◌≤◌, Bool, true, false, List, [], ◌∷◌, ◌++◌, map, reverse, sym, refl, ap, subst, append-nil, not-suc-le-zero, arith}
use mathlib.Core.List.{reverse_aux}
use Rattle.lr1_base.specs.repr.Lists.{mem}
use Rattle.trace_graph.specs.Graph.{Node, at_nonterminal, at_item, is_same_node}
use Rattle.enumerator.specs.trials.Trials.{Ends, level, within, trials_from, walk_fuel, trials, Small}
use Rattle.enumerator.specs.trials.Machine.{on_walk, below, back, seek, used_of, onward, next, Run}
use Rattle.enumerator.proofs.trials.Level.{level-hit, level_miss, within_on, within_in, free, free_lt, free_all}
use Rattle.enumerator.proofs.trials.Steps.{seek_hit, seek_miss, onward_on, onward_in}
use Rattle.trace_graph.proofs.Labels.{node_equal}

-- the stack of a path over a stack
abbrev pub onto : List ℕ → List ℕ → List ℕ
onto st p = reverse_aux p st

onto-split : (e : ℕ) (st : List ℕ) (ps qs rest : List (List ℕ))
    → map (onto st) (map (λ p. e ∷ p) ps ++ qs) ++ rest ≡ map (onto (e ∷ st)) ps ++ (map (onto st) qs ++ rest)
onto-split e st [] qs rest = refl
onto-split e st (p ∷ ps) qs rest = ap {B = List (List ℕ)} (λ r. onto st (e ∷ p) ∷ r) (onto-split e st ps qs rest)

module _ (G : Ends) (start : Node) (small : Small G) where
  Ways : List ℕ → Node → (ℕ → List (List ℕ)) → Type 0
  Ways st v ch = (e : ℕ) (rest : List (List ℕ)) → e < G.count → G.target e ≡ v → Run G start (back G (e ∷ st)) rest
      → Run G start (next G start (e ∷ st)) (map (onto (e ∷ st)) (ch e) ++ rest)

  level-run : (ch : ℕ → List (List ℕ)) (st : List ℕ) (v : Node) (k : ℕ) (rest : List (List ℕ)) → k ≤ G.count → Ways st v ch
      → Run G start (back G st) rest → Run G start (seek G v k st) (map (onto st) (level G ch v k) ++ rest)
  unfolding Ways below seek back
  level-run ch st v zero rest h w r = r
  level-run ch st v (suc k) rest h w r = by (level-run ch st v k rest (omega arith) w r) (is_same_node (G.target k) v) refl
    where
      by : Run G start (seek G v k st) (map (onto st) (level G ch v k) ++ rest) → (b : Bool) → is_same_node (G.target k) v ≡ b
          → Run G start (seek G v (suc k) st) (map (onto st) (level G ch v (suc k)) ++ rest)
      by ih true e = rw (level-hit G ch v k e, seek_hit G v k st e) (
        refl,
        rw (onto-split k st (ch k) (level G ch v k) rest)
            (w k (map (onto st) (level G ch v k) ++ rest) h (node_equal (G.target k) v e)
            (subst (λ x. Run G start (seek G x k st) (map (onto st) (level G ch v k) ++ rest)) (sym (node_equal (G.target k) v e)) ih)),
      )
      by ih false e = rw (level_miss G ch v k e, seek_miss G v k st e) ih

  Enters : (List ℕ → Node → List (List ℕ)) → List ℕ → ℕ → List (List ℕ) → Type 0
  Enters go st e rest = (n : ℕ) → G.source e ≡ at_nonterminal n → mem n (used_of G st) ≡ false
      → Run G start (seek G (at_nonterminal n) G.count (e ∷ st)) (map (onto (e ∷ st)) (go (n ∷ used_of G st) (at_nonterminal n)) ++ rest)

  way : (go : List ℕ → Node → List (List ℕ)) (st : List ℕ) (e : ℕ) (rest : List (List ℕ)) → Enters go st e rest
      → (x : Node) → G.source e ≡ x → Run G start (back G (e ∷ st)) rest
      → Run G start (onward G x e st) (map (onto (e ∷ st)) (within (used_of G st) go x) ++ rest)
  unfolding Enters onward
  way go st e rest enter (at_item i) q r = r
  way go st e rest enter (at_nonterminal n) q r = by (mem n (used_of G st)) refl
    where
      by : (b : Bool) → mem n (used_of G st) ≡ b
          → Run G start (onward G (at_nonterminal n) e st) (map (onto (e ∷ st)) (within (used_of G st) go (at_nonterminal n)) ++ rest)
      by true m = rw (onward_on G n e st m, within_on n (used_of G st) go m) r
      by false m = rw (onward_in G n e st m, within_in n (used_of G st) go m) (enter n q m)

  trials-run : (f : ℕ) (st : List ℕ) (v : Node) (rest : List (List ℕ)) → free 32 (used_of G st) < f
      → Run G start (back G st) rest → Run G start (seek G v G.count st) (map (onto st) (trials_from G f (used_of G st) v) ++ rest)
  unfolding Ways Enters next used_of on_walk
  trials-run zero st v rest h r = absurd (not-suc-le-zero h)
  trials-run (suc f) st v rest h r =
      level-run (λ e. within (used_of G st) (λ u w. trials_from G f u w) (G.source e)) st v G.count rest (omega arith) (ways (trials-run f)) r
    where
      ways : ((st' : List ℕ) (v' : Node) (rest' : List (List ℕ)) → free 32 (used_of G st') < f → Run G start (back G st') rest'
          → Run G start (seek G v' G.count st') (map (onto st') (trials_from G f (used_of G st') v') ++ rest'))
          → Ways st v (λ e. within (used_of G st) (λ u w. trials_from G f u w) (G.source e))
      ways ih e rest' l t r' = way (λ u w. trials_from G f u w) st e rest'
          (λ n q m.
          let d = free_lt n (used_of G st) m 32 (small e n l q) in
          let u : used_of G (e ∷ st) ≡ n ∷ used_of G st = ap (λ x. on_walk x (used_of G st)) q in
          rw u at (ih (e ∷ st) (at_nonterminal n) rest' (rw u (omega arith)) r'))
          (G.source e) refl r'

  -- the machine, from the empty stack, gives the stacks of the trials in their order
  pub next_runs : Run G start (next G start []) (map reverse (trials G start))
  unfolding next trials used_of back
  next_runs = rw append-nil at (trials-run walk_fuel [] start [] free_all tt)
