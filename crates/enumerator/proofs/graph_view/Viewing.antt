-- Over the view of a graph the steps by its words (specs/graph_view/Steps) are those of the machine (specs/trials/Machine).
use Prim.Native.Nat.{ℕ, suc, ◌≤◌, ◌<◌}
use native.Mathlib.Omega.{arith}
use mathlib.Core.Path.{◌≡◌, refl, sym, ap, subst, ◌∙◌}
use mathlib.Core.Bool.{Bool, true, false}
use mathlib.Core.List.{List, [], ◌∷◌, ◌++◌, reverse, reverse-cons, Memᴰ}
use mathlib.Core.Option.{Option, none, some}
use lib.ListN.{length, get_or}
use lib.Dec.{eqb}
use borrow.Author.Tests.{ne_eqb}
use Rattle.lr1_base.specs.repr.Sizes.{nonterminal_limit, edge_limit, reduction_limit}
use Rattle.lr1_base.specs.repr.Lists.{mem}
use Rattle.lr1_base.specs.repr.Meaning.{Item}
use Rattle.lr1_base.proofs.repr.Lists.{cases}
use Rattle.trace_graph.specs.Graph.{Node, at_nonterminal, at_item, TraceEdge}
use Rattle.enumerator.specs.trials.Trials.{Path, Ends, ends_of, TrialFrom, trials, from_item, is_example_in, Small}
use Rattle.enumerator.specs.trials.Machine.{on_walk, below, back, seek, used_of, next, link_of}
use Rattle.enumerator.specs.trials.Stacks.{Within, stepped}
use Rattle.enumerator.proofs.trials.Exact.{sound}
use Rattle.enumerator.proofs.trials.Steps as machine
use Rattle.enumerator.specs.graph_view.View.{view_nodes, view_node, source_of, View, Sourced}
use Rattle.enumerator.specs.graph_view.Trial.{trial_words, Held, Fitting, step_words}
use Rattle.enumerator.specs.graph_view.Steps.{edge_in, joined_by, used_by, back_by, seek_by, next_by, example_by}
use Rattle.enumerator.proofs.graph_view.Trial.{stack_once}
use Rattle.enumerator.proofs.graph_view.Steps.{back_end, back_some, back_none, seek-some, seek-none, next-first, next_item_lem, next_on, next_in}
use Rattle.enumerator.proofs.graph_view.Made.{start_node, nonterminal_node}
use Rattle.enumerator.proofs.trials.Stepping.{example-last}

-- an edge of the graph into a node of the view
pub record Entered (G : Ends) (start : Item) (e : ℕ) : Type 0 where
  pub inside : e < G.count
  pub slot : ℕ
  pub low : slot < view_nodes
  pub into : G.target e ≡ view_node start slot

abbrev pub Entering : Ends → Item → List ℕ → Type 0
Entering G start [] = Unit {0}
Entering G start (e ∷ st) = Entered G start e × Entering G start st

link_edge : (o : Option ℕ) → edge_in (link_of o) ≡ o
unfolding edge_in link_of
link_edge none = refl
link_edge (some k) = refl

joined_walk : (v : Node) (us : List ℕ) → joined_by (source_of v) us ≡ on_walk v us
unfolding joined_by source_of on_walk
joined_walk (at_item i) us = refl
joined_walk (at_nonterminal n) us = refl

source-item : (i : Item) → source_of (at_item i) ≡ 0
unfolding source_of
source-item i = refl

source-nonterminal : (n : ℕ) → source_of (at_nonterminal n) ≡ suc n
unfolding source_of
source-nonterminal n = refl

source-example : (v : Node) → eqb (source_of v) 0 ≡ from_item v
unfolding source_of
source-example (at_item i) = refl
source-example (at_nonterminal n) = ne_eqb (suc n) 0 (λ e. omega arith)

by_option : {A : Type 0} (o : Option A) (P : Type 0) → (o ≡ none → P) → ((x : A) → o ≡ some x → P) → P
by_option none P f g = f refl
by_option (some x) P f g = g x refl

module _ {es : List TraceEdge} {start : Item} {sources older latest : List ℕ} (W : View es start sources older latest) where
  abbrev G : Ends
  G = ends_of es

  -- the next older edge, and the latest
  older_edge : (e : ℕ) → Entered G start e → edge_in (get_or older e 0) ≡ below G (G.target e) e
  older_edge e E =
      ap edge_in (W.viewed.linked e E.slot E.inside E.low E.into) ∙ link_edge (below G (view_node start E.slot) e)
      ∙ ap (λ (v : Node). below G v e) (sym E.into)

  latest_edge : (s : ℕ) → s < view_nodes → edge_in (get_or latest s 0) ≡ below G (view_node start s) G.count
  latest_edge s h = ap edge_in (W.viewed.headed s h) ∙ link_edge (below G (view_node start s) G.count)

  back_view : (st : List ℕ) → Entering G start st → back_by older st ≡ back G st
  back_view [] E = back_end older ∙ sym (machine.back_end G)
  back_view (e ∷ st) E =
      let T = E in
      let o = older_edge e T.0 in
      let ih = back_view st T.1 in
      by_option (below G (G.target e) e) (back_by older (e ∷ st) ≡ back G (e ∷ st))
      (λ q. back_none older e st (o ∙ q) ∙ ih ∙ sym (machine.back_none G e st q))
      (λ f q. back_some older e f st (o ∙ q) ∙ sym (machine.back_some G e f st q))

  used_view : (st : List ℕ) → Entering G start st → used_by sources st ≡ used_of G st
  unfolding used_by used_of
  used_view [] E = refl
  used_view (e ∷ st) E =
      let T = E in
      ap (λ (w : ℕ). joined_by w (used_by sources st)) (W.viewed.sourced e T.0.inside) ∙ ap (joined_by (source_of (G.source e))) (used_view st T.1) ∙ joined_walk (G.source e) (used_of G st)

  seek_view : (s : ℕ) → s < view_nodes → (st : List ℕ) → Entering G start st → seek_by older (get_or latest s 0) st ≡ seek G (view_node start s) G.count st
  seek_view s h st E =
      let o = latest_edge s h in
      by_option (below G (view_node start s) G.count) (seek_by older (get_or latest s 0) st ≡ seek G (view_node start s) G.count st)
      (λ q. seek-none older (get_or latest s 0) st (o ∙ q) ∙ back_view st E ∙ sym (machine.seek-none G (view_node start s) G.count st q))
      (λ f q. seek-some older (get_or latest s 0) f st (o ∙ q) ∙ sym (machine.seek-some G (view_node start s) G.count f st q))

  -- the trial after the one given
  pub next_view : (st : List ℕ) → Entering G start st → next_by sources older latest st ≡ next G (at_item start) st
  next_view [] E =
      next-first sources older latest ∙ seek_view nonterminal_limit (omega arith) [] E
      ∙ ap (λ (v : Node). seek G v G.count []) (start_node start) ∙ sym (machine.next-first G (at_item start))
  next_view (e ∷ st) E = go (G.source e) refl
    where
      T : Entered G start e × Entering G start st
      T = E

      used : used_by sources st ≡ used_of G st
      used = used_view st T.1

      go : (v : Node) → G.source e ≡ v → next_by sources older latest (e ∷ st) ≡ next G (at_item start) (e ∷ st)
      go (at_item i) q =
          next_item_lem sources older latest e st (W.viewed.sourced e T.0.inside ∙ ap source_of q ∙ source-item i) ∙ back_view (e ∷ st) E
          ∙ sym (machine.next_item_lem G (at_item start) e st i q)
      go (at_nonterminal n) q =
          let w = W.viewed.sourced e T.0.inside ∙ ap source_of q ∙ source-nonterminal n in
          let l = W.small e n T.0.inside q in
          cases (mem n (used_of G st))
          (λ m. next_on sources older latest e n st w (ap (mem n) used ∙ m) ∙ back_view (e ∷ st) E ∙ sym (machine.next_on G (at_item start) e st n q m))
          (λ m. next_in sources older latest e n st w (ap (mem n) used ∙ m) ∙ seek_view n (omega arith) (e ∷ st) E
          ∙ ap (λ (v : Node). seek G v G.count (e ∷ st)) (nonterminal_node start n l) ∙ sym (machine.next_in G (at_item start) e st n q m))

  pub view_sourced : Sourced es sources
  view_sourced = record { few = W.few; bounded = W.viewed.tidy.by_source; sourced = W.viewed.sourced }

  -- what the code is given: words of edges into the view's nodes
  within_view : (st : List ℕ) → Entering G start st → Within edge_limit st
  unfolding Within
  within_view [] E = tt
  within_view (e ∷ st) E = let T = E in (omega (arith, T.0.inside, W.few), within_view st T.1)

  pub held_view : {ws : List ℕ} (st rest : List ℕ) → Entering G start st → length st ≤ reduction_limit → ws ≡ trial_words (reverse st) ++ rest → Held ws
  held_view st rest E h w = record { stack = st; rest = rest; words = w; short = h; edges = within_view st E }

  pub fitting_view : {ws : List ℕ} (st rest : List ℕ) → Entering G start st → ((s : List ℕ) → next G (at_item start) st ≡ some s → length s ≤ reduction_limit)
      → ws ≡ trial_words (reverse st) ++ rest → Fitting (next_by sources older latest) ws
  fitting_view st rest E f w = record {
    room = λ tt r x s q.
        let e = (stack_once tt st r rest (sym x ∙ w)).0 in
        f s (sym (next_view st E) ∙ ap (next_by sources older latest) (sym e) ∙ q);
  }

-- the trial of a stack is an example
pub example_by_lem : {es : List TraceEdge} {sources : List ℕ} → Sourced es sources → (st : List ℕ) → Within (length es) st → example_by sources st ≡ is_example_in (ends_of es) (reverse st)
unfolding example_by Within
example_by_lem S [] w = refl
example_by_lem {es} S (e ∷ st) w =
    ap (λ (k : ℕ). eqb k 0) (S.sourced e w.0) ∙ source-example ((ends_of es).source e)
    ∙ sym (ap (is_example_in (ends_of es)) (reverse-cons e st) ∙ example-last (ends_of es) (reverse st) e)

-- what a step's answer says: none, or a stack and its words
pub step-ends : (o : Option (List ℕ)) (rest ws : List ℕ) → stepped false ws ≡ step_words o rest → (o ≡ none) × (ws ≡ trial_words [] ++ rest)
unfolding step_words
step-ends none rest ws e = (refl, cc)
step-ends (some s) rest ws e = let z : ◌≡◌ {A = Bool} false true = cc in absurd (mathlib.Core.Bool.true≢false (sym z))

pub step-goes : (o : Option (List ℕ)) (rest ws : List ℕ) → stepped true ws ≡ step_words o rest → (s : List ℕ) × (o ≡ some s) × (ws ≡ trial_words (reverse s) ++ rest)
unfolding step_words
step-goes none rest ws e = let z : ◌≡◌ {A = Bool} true false = cc in absurd (mathlib.Core.Bool.true≢false z)
step-goes (some s) rest ws e = (s, refl, cc)

-- the edges of a trial enter the view's nodes

module _ (G : Ends) (start : Item) where
  entering_append : (xs ys : List ℕ) → Entering G start xs → Entering G start ys → Entering G start (xs ++ ys)
  entering_append [] ys a b = b
  entering_append (x ∷ xs) ys a b = (a.0, entering_append xs ys a.1 b)

  entering_reverse : (xs : List ℕ) → Entering G start xs → Entering G start (reverse xs)
  entering_reverse [] a = tt
  entering_reverse (x ∷ xs) a = subst (Entering G start) (sym (reverse-cons x xs)) (entering_append (reverse xs) (x ∷ []) (entering_reverse xs a.1) (a.0, tt))

trial_path : (G : Ends) (start : Item) → Small G → (p : Path) (us : List ℕ) (s : ℕ) → s < view_nodes → TrialFrom G us (view_node start s) p → Entering G start p
trial_path G start small [] us s h t = tt
trial_path G start small (e ∷ []) us s h t = (record { inside = t.0; slot = s; low = h; into = t.1 }, tt)
trial_path G start small (e ∷ f ∷ p) us s h (n, a, b, c, d, t) =
    let l = small e n a c in
    (record { inside = a; slot = s; low = h; into = b }, trial_path G start small (f ∷ p) (n ∷ us) n (omega arith) (subst (λ (v : Node). TrialFrom G (n ∷ us) v (f ∷ p)) (sym (nonterminal_node start n l)) t))

pub entering_trial : (G : Ends) (start : Item) → Small G → (p : Path) → Memᴰ p (trials G (at_item start)) → Entering G start (reverse p)
entering_trial G start small p m =
    entering_reverse G start p (trial_path G start small p [] nonterminal_limit (omega arith) (subst (λ (v : Node). TrialFrom G [] v p) (sym (start_node start)) (sound G (at_item start) p m)))
