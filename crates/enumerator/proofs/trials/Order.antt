-- The trials come in strictly increasing order, each once (docs/RULES.md, "Listing").
use Rattle.std.proofs.Common.{◌≡◌, ℕ, zero, suc, ◌<◌, Bool, true, false, List, [], ◌∷◌, ◌++◌, map, refl, arith}
use Rattle.lr1_base.specs.repr.Lists.{mem}
use Rattle.trace_graph.specs.Graph.{Node, at_nonterminal, at_item, is_same_node}
use Rattle.enumerator.specs.trials.Trials.{Path, Ends, Before, shorter, later, alike, AllPaths, Increasing, Distinct, level, within, trials_from, walk_fuel, trials}
use Rattle.enumerator.proofs.trials.Level.{level-hit, level_miss, within_on, within_in}
use Rattle.enumerator.proofs.trials.Paths.{all_map, all_append, all_weak}

increasing_map : (e : ℕ) (ps : List Path) → Increasing ps → Increasing (map (λ p. e ∷ p) ps)
increasing_map e [] i = tt
increasing_map e (p ∷ ps) i = (all_map (Before p) (Before (e ∷ p)) (λ q. e ∷ q) ps (λ q b. alike refl b) i.0, increasing_map e ps i.1)

increasing_append : (ps qs : List Path) → Increasing ps → Increasing qs → AllPaths (λ p. AllPaths (Before p) qs) ps → Increasing (ps ++ qs)
increasing_append [] qs i j a = j
increasing_append (p ∷ ps) qs i j a = (all_append (Before p) ps qs i.0 a.0, increasing_append ps qs i.1 j a.1)

-- the path's first edge is below k
abbrev HeadBelow : ℕ → Path → Type 0
HeadBelow k [] = ⊥
HeadBelow k (e ∷ p) = e < k

abbrev Some : Path → Type 0
Some [] = ⊥
Some (e ∷ p) = Unit {0}

head_weak : (k : ℕ) (p : Path) → HeadBelow k p → HeadBelow (suc k) p
head_weak k [] h = h
head_weak k (e ∷ p) h = omega arith

head-some : (k : ℕ) (p : Path) → HeadBelow k p → Some p
head-some k [] h = h
head-some k (e ∷ p) h = tt

later-head : (k : ℕ) (p q : Path) → HeadBelow k q → Before (k ∷ p) q
later-head k p [] h = absurd h
later-head k p (f ∷ q) h = later h

longer : (k : ℕ) (p : Path) → Some p → Before (k ∷ []) (k ∷ p)
longer k [] h = absurd h
longer k (e ∷ p) h = alike refl shorter

module _ (G : Ends) where
  level_heads : (ch : ℕ → List Path) (v : Node) (k : ℕ) → AllPaths (HeadBelow k) (level G ch v k)
  level_heads ch v zero = tt
  level_heads ch v (suc k) = by (level_heads ch v k) (is_same_node (G.target k) v) refl
    where
      by : AllPaths (HeadBelow k) (level G ch v k) → (b : Bool) → is_same_node (G.target k) v ≡ b → AllPaths (HeadBelow (suc k)) (level G ch v (suc k))
      by ih true e = rw (level-hit G ch v k e)
          (omega arith, all_append (HeadBelow (suc k)) (map (λ p. k ∷ p) (ch k)) (level G ch v k) (own (ch k)) (all_weak (HeadBelow k) (HeadBelow (suc k)) (level G ch v k) (head_weak k) ih))
        where
          own : (ps : List Path) → AllPaths (HeadBelow (suc k)) (map (λ p. k ∷ p) ps)
          own [] = tt
          own (p ∷ ps) = (omega arith, own ps)
      by ih false e = rw (level_miss G ch v k e) (all_weak (HeadBelow k) (HeadBelow (suc k)) (level G ch v k) (head_weak k) ih)

  level_increasing : (ch : ℕ → List Path) (v : Node) (k : ℕ) → ((e : ℕ) → AllPaths Some (ch e) × Increasing (ch e)) → Increasing (level G ch v k)
  level_increasing ch v zero h = tt
  level_increasing ch v (suc k) h = by (level_increasing ch v k h) (is_same_node (G.target k) v) refl
    where
      cross : (ps : List Path) → AllPaths (λ p. AllPaths (Before p) (level G ch v k)) (map (λ p. k ∷ p) ps)
      cross [] = tt
      cross (p ∷ ps) = (all_weak (HeadBelow k) (Before (k ∷ p)) (level G ch v k) (later-head k p) (level_heads ch v k), cross ps)

      by : Increasing (level G ch v k) → (b : Bool) → is_same_node (G.target k) v ≡ b → Increasing (level G ch v (suc k))
      by ih true e = rw (level-hit G ch v k e) (
        all_append (Before (k ∷ [])) (map (λ p. k ∷ p) (ch k)) (level G ch v k)
            (all_map Some (Before (k ∷ [])) (λ p. k ∷ p) (ch k) (longer k) (h k).0)
            (all_weak (HeadBelow k) (Before (k ∷ [])) (level G ch v k) (later-head k []) (level_heads ch v k)),
        increasing_append (map (λ p. k ∷ p) (ch k)) (level G ch v k) (increasing_map k (ch k) (h k).1) ih (cross (ch k)),
      )
      by ih false e = rw (level_miss G ch v k e) ih

  within_increasing : (us : List ℕ) (go : List ℕ → Node → List Path) → ((u : List ℕ) (w : Node) → AllPaths Some (go u w) × Increasing (go u w)) → (x : Node)
      → AllPaths Some (within us go x) × Increasing (within us go x)
  within_increasing us go h (at_item i) = (tt, tt)
  within_increasing us go h (at_nonterminal n) = by (mem n us) refl
    where
      by : (b : Bool) → mem n us ≡ b → AllPaths Some (within us go (at_nonterminal n)) × Increasing (within us go (at_nonterminal n))
      by true e = rw (within_on n us go e) (tt, tt)
      by false e = rw (within_in n us go e) (h (n ∷ us) (at_nonterminal n))

  trials_increasing : (f : ℕ) (us : List ℕ) (v : Node) → AllPaths Some (trials_from G f us v) × Increasing (trials_from G f us v)
  trials_increasing zero us v = (tt, tt)
  trials_increasing (suc f) us v =
      let ch : ℕ → List Path = λ e. within us (λ u w. trials_from G f u w) (G.source e) in (
        all_weak (HeadBelow G.count) Some (level G ch v G.count) (head-some G.count) (level_heads ch v G.count),
        level_increasing ch v G.count (λ e. within_increasing us (λ u w. trials_from G f u w) (trials_increasing f) (G.source e)),
      )

  pub increasing : (start : Node) → Increasing (trials G start)
  unfolding trials
  increasing start = (trials_increasing walk_fuel [] start).1

pub before-apart : {p q : Path} → Before p q → p ≡ q → ⊥
before-apart (shorter {f = f} {q = q}) e = let z : ◌≡◌ {A = ℕ} 0 1 = cc in omega arith
before-apart (later {e = e} {f = f} {p = p} {q = q} h) d = let z : e ≡ f = cc in omega arith
before-apart (alike {e = e} {f = f} {p = p} {q = q} r b) d = let z : p ≡ q = cc in before-apart b z

distinct_of : (ps : List Path) → Increasing ps → Distinct ps
distinct_of [] i = tt
distinct_of (p ∷ ps) i = (all_weak (Before p) (λ q. p ≡ q → ⊥) ps (λ q b. before-apart b) i.0, distinct_of ps i.1)

pub each_once : (G : Ends) (start : Node) → Distinct (trials G start)
each_once G start = distinct_of (trials G start) (increasing G start)
