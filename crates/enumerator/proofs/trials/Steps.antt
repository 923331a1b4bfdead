-- The ways through each step of the machine (specs/trials/Machine).
use Rattle.std.proofs.Common.{◌≡◌, ℕ, zero, suc, ◌<◌, Bool, true, false, List, [], ◌∷◌, sym, refl, ◌∙◌, arith}
use mathlib.Core.Option.{Option, none, some}
use Rattle.lr1_base.specs.repr.Lists.{mem}
use Rattle.lr1_base.specs.repr.Meaning.{Item}
use Rattle.trace_graph.specs.Graph.{Node, at_nonterminal, at_item, is_same_node}
use Rattle.enumerator.specs.trials.Trials.{Ends}
use Rattle.enumerator.specs.trials.Machine.{on_walk, below, back, seek, used_of, onward, next}

module _ (G : Ends) where
  pub below-hit : (v : Node) (k : ℕ) → is_same_node (G.target k) v ≡ true → below G v (suc k) ≡ some k
  unfolding below
  below-hit v k e = rw (e, below)

  pub below_miss : (v : Node) (k : ℕ) → is_same_node (G.target k) v ≡ false → below G v (suc k) ≡ below G v k
  unfolding below
  below_miss v k e = rw (e, below)

  pub seek_hit : (v : Node) (k : ℕ) (st : List ℕ) → is_same_node (G.target k) v ≡ true → seek G v (suc k) st ≡ some (k ∷ st)
  unfolding seek
  seek_hit v k st e = rw (below-hit v k e, seek)

  pub seek_miss : (v : Node) (k : ℕ) (st : List ℕ) → is_same_node (G.target k) v ≡ false → seek G v (suc k) st ≡ seek G v k st
  unfolding seek
  seek_miss v k st e = rw (below_miss v k e, seek)

  -- an older edge has a smaller number
  pub below_lt : (v : Node) (k f : ℕ) → below G v k ≡ some f → f < k
  unfolding below
  below_lt v zero f e = let z : ◌≡◌ {A = ℕ} 0 1 = cc in omega arith
  below_lt v (suc k) f e = by (below_lt v k f) (is_same_node (G.target k) v) refl
    where
      by : (below G v k ≡ some f → f < k) → (b : Bool) → is_same_node (G.target k) v ≡ b → f < suc k
      by ih true t = let z : ◌≡◌ {A = Option ℕ} (some k) (some f) = sym (below-hit v k t) ∙ e in let y : k ≡ f = cc in omega arith
      by ih false t = let y : f < k = ih (sym (below_miss v k t) ∙ e) in omega arith

  pub back_end : back G [] ≡ none
  unfolding back
  back_end = refl

  pub back_some : (e f : ℕ) (st : List ℕ) → below G (G.target e) e ≡ some f → back G (e ∷ st) ≡ some (f ∷ st)
  unfolding back
  back_some e f st h = rw (h, back)

  pub back_none : (e : ℕ) (st : List ℕ) → below G (G.target e) e ≡ none → back G (e ∷ st) ≡ back G st
  unfolding back
  back_none e st h = rw (h, back)

  pub seek-some : (v : Node) (k f : ℕ) (st : List ℕ) → below G v k ≡ some f → seek G v k st ≡ some (f ∷ st)
  unfolding seek
  seek-some v k f st h = rw (h, seek)

  pub seek-none : (v : Node) (k : ℕ) (st : List ℕ) → below G v k ≡ none → seek G v k st ≡ back G st
  unfolding seek
  seek-none v k st h = rw (h, seek)

  pub onward_on : (n e : ℕ) (st : List ℕ) → mem n (used_of G st) ≡ true → onward G (at_nonterminal n) e st ≡ back G (e ∷ st)
  unfolding onward
  onward_on n e st m = rw (m, onward)

  pub onward_in : (n e : ℕ) (st : List ℕ) → mem n (used_of G st) ≡ false → onward G (at_nonterminal n) e st ≡ seek G (at_nonterminal n) G.count (e ∷ st)
  unfolding onward
  onward_in n e st m = rw (m, onward)

  pub used_end : used_of G [] ≡ []
  unfolding used_of
  used_end = refl

  pub used-item : (e : ℕ) (st : List ℕ) (i : Item) → G.source e ≡ at_item i → used_of G (e ∷ st) ≡ used_of G st
  unfolding used_of on_walk
  used-item e st i q = rw q

  pub used_in : (e : ℕ) (st : List ℕ) (n : ℕ) → G.source e ≡ at_nonterminal n → used_of G (e ∷ st) ≡ n ∷ used_of G st
  unfolding used_of on_walk
  used_in e st n q = rw q

module _ (G : Ends) (start : Node) where
  pub next-first : next G start [] ≡ seek G start G.count []
  unfolding next
  next-first = refl

  -- from an item, or from a nonterminal that is on the walk already, back
  pub next_item_lem : (e : ℕ) (st : List ℕ) (i : Item) → G.source e ≡ at_item i → next G start (e ∷ st) ≡ back G (e ∷ st)
  unfolding next onward
  next_item_lem e st i q = rw q

  pub next_on : (e : ℕ) (st : List ℕ) (n : ℕ) → G.source e ≡ at_nonterminal n → mem n (used_of G st) ≡ true → next G start (e ∷ st) ≡ back G (e ∷ st)
  unfolding next
  next_on e st n q m = rw q (onward_on G n e st m)

  -- else one edge more
  pub next_in : (e : ℕ) (st : List ℕ) (n : ℕ) → G.source e ≡ at_nonterminal n → mem n (used_of G st) ≡ false
      → next G start (e ∷ st) ≡ seek G (at_nonterminal n) G.count (e ∷ st)
  unfolding next
  next_in e st n q m = rw q (onward_in G n e st m)
