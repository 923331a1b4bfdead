-- The machine that steps from trial to trial, the second level under specs/trials/Trials: a stack is a path, its last edge first.
use Rattle.std.specs.Prelude.{◌≡◌, ℕ, zero, suc, Bool, true, false, not, ◌&&◌, List, [], ◌∷◌, reverse, nat_lt}
use Rattle.std.proofs.Math.Option.{Option, none, some}
use Rattle.lr1_base.specs.repr.Lists.{mem}
use Rattle.trace_graph.specs.Graph.{Node, at_nonterminal, at_item, is_same_node}
use Rattle.enumerator.specs.trials.Trials.{Path, Ends}
use Rattle.enumerator.specs.trials.Lister.{Found, hit, out, over}
use Rattle.enumerator.specs.trials.Words.{path_in}

-- the nonterminals of a walk with one node more
unfoldable pub on_walk : Node → List ℕ → List ℕ
on_walk (at_item i) us = us
on_walk (at_nonterminal n) us = n ∷ us

module _ (G : Ends) where
  -- the latest edge into v of those below k
  unfoldable pub below : Node → ℕ → Option ℕ
  below v zero = none
  below v (suc k) = elim (is_same_node (G.target k) v) [ true ↦ some k | false ↦ below v k ]

  -- the last edge gives way to the next older one into the same node; where there is none, the edge before it does
  unfoldable pub back : List ℕ → Option (List ℕ)
  back [] = none
  back (e ∷ st) = elim (below (G.target e) e) [ none ↦ back st | some f ↦ some (f ∷ st) ]

  -- one edge more, the latest into v of those below k
  unfoldable pub seek : Node → ℕ → List ℕ → Option (List ℕ)
  seek v k st = elim (below v k) [ none ↦ back st | some f ↦ some (f ∷ st) ]

  -- the nonterminals that the edges of the stack come from
  unfoldable pub used_of : List ℕ → List ℕ
  used_of [] = []
  used_of (e ∷ st) = on_walk (G.source e) (used_of st)

  -- on from the node that the last edge comes from: no further at an item, nor at a nonterminal of the walk
  unfoldable pub onward : Node → ℕ → List ℕ → Option (List ℕ)
  onward (at_item i) e st = back (e ∷ st)
  onward (at_nonterminal n) e st = elim (mem n (used_of st)) [ true ↦ back (e ∷ st) | false ↦ seek (at_nonterminal n) G.count (e ∷ st) ]

module _ (G : Ends) (start : Node) where
  -- the trial after the one given; after the empty stack, the first
  unfoldable pub next : List ℕ → Option (List ℕ)
  next [] = seek G start G.count []
  next (e ∷ st) = onward G (G.source e) e st

  -- the list holds what `next` gives, one after the other, to the end
  abbrev pub Run : Option (List ℕ) → List (List ℕ) → Type 0
  Run none [] = Unit {0}
  Run none (x ∷ xs) = ⊥
  Run (some s) [] = ⊥
  Run (some s) (x ∷ xs) = (s ≡ x) × Run (next s) xs

-- past c trials made, with l more allowed: the machine's search (`search` of specs/trials/Lister, without the list of trials)
unfoldable pub walk : Ends → Node → (Path → Bool) → ℕ → ℕ → Option (List ℕ) → Found
walk G start t zero c none = out c
walk G start t zero c (some s) = over
walk G start t (suc l) c none = out c
walk G start t (suc l) c (some s) = elim (t (reverse s)) [ true ↦ hit (suc c) (reverse s) | false ↦ walk G start t l (suc c) (next G start s) ]

-- the stack that an open listing goes on from: the empty one at count 0, whatever the words hold
unfoldable pub stack_from : ℕ → List ℕ → List ℕ
stack_from zero ws = []
stack_from (suc c) ws = reverse (path_in ws)

-- a walk goes on at a nonterminal that is not on it
unfoldable pub goes_on_byte : List ℕ → Node → (ℕ → Bool) → Bool
goes_on_byte us (at_item i) k = false
goes_on_byte us (at_nonterminal n) k = not (mem n us) && k n

-- the test that a path is a trial, edge by edge
unfoldable pub trial_from? : Ends → List ℕ → Node → Path → Bool
trial_from? G us v [] = false
trial_from? G us v (e ∷ []) = nat_lt e G.count && is_same_node (G.target e) v
trial_from? G us v (e ∷ f ∷ p) =
    (nat_lt e G.count && is_same_node (G.target e) v) && goes_on_byte us (G.source e) (λ n. trial_from? G (n ∷ us) (at_nonterminal n) (f ∷ p))

-- an edge or none, as the words of an index link it (specs/Index of trace_graph)
unfoldable pub link_of : Option ℕ → ℕ
link_of none = 0
link_of (some k) = suc k
