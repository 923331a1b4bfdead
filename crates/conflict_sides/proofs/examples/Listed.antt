-- The examples of a traced item's listing (`listing_side` of conflict_sides/specs/conflict/Sides) are in range, begin with the item, and shift where it does.
use Rattle.std.specs.Prelude.{◌≡◌, ℕ, ◌+◌, ◌*◌, ◌<◌, ◌≤◌, true, ltb, List, [], ◌∷◌, map, length, get_or, take}
use native.Mathlib.Omega.{arith}
use mathlib.Core.Path.{refl, sym, ap, ◌∙◌, subst}
use mathlib.Core.List.{Memᴰ}
use mathlib.Core.Option.{Option}
use Rattle.lr1_base.specs.repr.Sizes.{edge_limit, trial_limit, example_limit, index_limit}
use Rattle.lr1_base.specs.repr.Lists.{keep}
use Rattle.lr1_base.specs.repr.Meaning.{Production, no_production, Item, Table, TableFits, ProductionFits, All, production_at}
use Rattle.lr1_base.proofs.repr.Lists.{cases, length_mapped}
use Rattle.lr1_base.proofs.repr.Tests.{All_at}
use Rattle.trace_graph.specs.Graph.{Node, at_nonterminal, at_item, TraceEdge, no_edge}
use Rattle.trace_graph.specs.Fits.{item_is_fit}
use Rattle.trace_graph.proofs.Fits.{item-parts}
use Rattle.trace.specs.Traced.{owner_of}
use Rattle.trace.specs.Sound.{owner_of_node as owner_at, EdgeSound, Sound}
use Rattle.trace.proofs.Traced.{fits-item, shift_sound, reduce_sound}
use Rattle.trace.specs.declared.Action.{Action}
use Rattle.trace.specs.declared.Action.TheVariants.{Shift, Reduce}
use Rattle.trace.specs.Built.{edges_by}
use Rattle.enumerator.specs.example.Labels.{LabelFits}
use Rattle.enumerator.specs.trials.Stacks.{Within}
use Rattle.enumerator.specs.trials.Trials.{Path, ends_of, TrialFrom, trials}
use Rattle.enumerator.specs.trials.Lister.{hands, owner_of_node, label_at, labels_of}
use Rattle.enumerator.proofs.trials.Exact.{sound}
use Rattle.enumerator.proofs.trials.Short.{short_trial}
use Rattle.enumerator.proofs.trials.Holding.{trial_within}
use Rattle.conflict_sides.specs.conflict.Sides.{Side, gathered, stopped, listing_side}
use Rattle.conflict_sides.specs.conflict.Judge.{Example}
use Rattle.conflict_sides.proofs.conflict.Pairwise.{all_keep}
use Rattle.conflict_sides.specs.outline.Outline.{item_code, label_of}
use Rattle.conflict_sides.specs.outline.Inline.{Shifts}
use Rattle.conflict_sides.specs.outline.Kept.{nth}
use Rattle.conflict_sides.specs.examples.Gathers.{ExampleFits}

-- all examples of a side, if it has not stopped
unfoldable AllIn : (Example → Type 0) → Side → Type 0
AllIn P (gathered xs m) = All P xs
AllIn P (stopped n) = Unit {0}

all-gathered : (P : Example → Type 0) (so : Side) (xs : List Example) (m : ℕ) → AllIn P so → so ≡ gathered xs m → (k : ℕ) → k < length xs → P (nth xs k)
unfolding AllIn nth
all-gathered P so xs m a e k h = let b : All P xs = rw e at a in All_at P xs k [] b h

all-members : {A : Type 0} (P : A → Type 0) (xs : List A) → ((x : A) → Memᴰ x xs → P x) → All P xs
unfolding All
all-members P [] f = tt
all-members P (x ∷ xs) f = (f x (Memᴰ.head refl), all-members P xs (λ y m. f y (Memᴰ.tail m)))

all_mapped : {A B : Type 0} (P : B → Type 0) (f : A → B) (xs : List A) → All (λ x. P (f x)) xs → All P (map f xs)
unfolding All
all_mapped P f [] a = tt
all_mapped P f (x ∷ xs) a = (a.0, all_mapped P f xs a.1)

-- the two definitions of a node's nonterminal
owner_same : (T : Table) (v : Node) → owner_of_node T.productions v ≡ owner_at T v
unfolding owner_of_node owner_at owner_of
owner_same T (at_nonterminal n) = refl
owner_same T (at_item i) = refl

-- what holds of every trial's labels holds of every example
module _ (T : Table) (es : List TraceEdge) (i : Item) (ahead : Option ℕ) (k : ℕ) (P : Example → Type 0) (h : (p : Path) → Memᴰ p (trials (ends_of es) (at_item i)) → P (labels_of T.productions es p)) where
  abbrev ts : List Path
  ts = trials (ends_of es) (at_item i)

  all_labels : All P (map (labels_of T.productions es) (keep (hands T es ahead) ts))
  all_labels =
      all_mapped P (labels_of T.productions es) (keep (hands T es ahead) ts)
      (all_keep (λ p. P (labels_of T.productions es p)) (hands T es ahead) ts (all-members (λ p. P (labels_of T.productions es p)) ts h))

  listing-all : AllIn P (listing_side T es i ahead k)
  unfolding listing_side AllIn
  listing-all =
      cases (ltb edge_limit (length es))
      (λ e. rw (e, listing_side) tt)
      (λ e. cases (ltb example_limit (k + length (keep (hands T es ahead) (take trial_limit ts))))
      (λ f. rw (e, f, listing_side) tt)
      (λ f. cases (ltb trial_limit (length ts)) (λ g. rw (e, f, g, listing_side) tt) (λ g. rw (e, f, g, listing_side) all_labels)))

-- the labels of a trial over a traced graph
module _ (T : Table) (F : TableFits T) (es : List TraceEdge) (i : Item) (S : Sound T i es) where
  abbrev ps : List Production
  ps = T.productions

  edge_sound : (k : ℕ) → k < length es → EdgeSound T (get_or es k no_edge)
  edge_sound k h = All_at (EdgeSound T) es k no_edge S.edges h

  label_fits : (k : ℕ) → k < length es → LabelFits ps (label_at ps es k)
  unfolding label_at owner_of
  label_fits k h =
      let E = edge_sound k h in
      let p = item-parts ps (get_or es k no_edge).label.production (get_or es k no_edge).label.index E.label in
      let o = owner_same T (get_or es k no_edge).source ∙ E.owner in
      let b = (All_at (ProductionFits T) ps (get_or es k no_edge).label.production no_production F.productions p.0).owner in
      let n = F.few_nonterminals in
      record { nonterminal = rw o (omega arith); production = p.0; index = p.1 }

  labels_fit : (p : Path) → Within (length es) p → All (LabelFits ps) (labels_of ps es p)
  unfolding Within labels_of All
  labels_fit [] w = tt
  labels_fit (e ∷ p) w = (label_fits e w.0, labels_fit p w.1)

  some_edge : (p : Path) → TrialFrom (ends_of es) [] (at_item i) p → 1 ≤ length p
  some_edge [] t = absurd t
  some_edge (e ∷ p) t = omega arith

  example-fits : (p : Path) → Memᴰ p (trials (ends_of es) (at_item i)) → ExampleFits ps (labels_of ps es p)
  unfolding labels_of
  example-fits p m =
      let t = sound (ends_of es) (at_item i) p m in
      let l = length_mapped (label_at ps es) p in
      let a = some_edge p t in
      let b = short_trial (ends_of es) (at_item i) p m in
      record { some_label = omega arith; few = omega arith; each = labels_fit p (trial_within (ends_of es) p [] (at_item i) t) }

  -- a trial's first edge leads into the item
  enters : (Q : Path → Type 0) → ((e : ℕ) (p : Path) → e < length es → (get_or es e no_edge).target ≡ at_item i → Q (e ∷ p)) → (p : Path) → TrialFrom (ends_of es) [] (at_item i) p → Q p
  enters Q f [] t = absurd t
  enters Q f (e ∷ []) t = f e [] t.0 t.1
  enters Q f (e ∷ d ∷ p) (n, a, b, c, u, r) = f e (d ∷ p) a b

  first_label : (e : ℕ) (p : Path) → e < length es → (get_or es e no_edge).target ≡ at_item i → label_of ps true (labels_of ps es (e ∷ p)) ≡ i.production * index_limit + i.index
  unfolding label_of item_code labels_of label_at
  first_label e p h t = let q = (edge_sound e h).to_item i t in ap (λ (j : Item). j.production * index_limit + j.index) (sym q)

  example-first : (p : Path) → Memᴰ p (trials (ends_of es) (at_item i)) → label_of ps true (labels_of ps es p) ≡ i.production * index_limit + i.index
  example-first p m = enters (λ q. label_of ps true (labels_of ps es q) ≡ i.production * index_limit + i.index) first_label p (sound (ends_of es) (at_item i) p m)

  module _ (l : i.index < length (production_at T i.production).symbols) where
    first-shifts : (e : ℕ) (p : Path) → e < length es → (get_or es e no_edge).target ≡ at_item i → Shifts ps (labels_of ps es (e ∷ p))
    unfolding Shifts labels_of label_at
    first-shifts e p h t = subst (λ (j : Item). j.index < length (get_or ps j.production no_production).symbols) ((edge_sound e h).to_item i t) l

    example-shifts : (p : Path) → Memᴰ p (trials (ends_of es) (at_item i)) → Shifts ps (labels_of ps es p)
    example-shifts p m = enters (λ q. Shifts ps (labels_of ps es q)) first-shifts p (sound (ends_of es) (at_item i) p m)

trace_sound : (T : Table) → TableFits T → (s : ℕ) (i : Item) → item_is_fit T.productions i.production i.index ≡ true → (action : Action) → Sound T i (edges_by action T s i)
trace_sound T fits s i f Shift = shift_sound T fits s i (fits-item T i f)
trace_sound T fits s i f Reduce = reduce_sound T fits s i (fits-item T i f)

module _ (T : Table) (fits : TableFits T) (action : Action) (s : ℕ) (i : Item) (f : item_is_fit T.productions i.production i.index ≡ true) where
  module _ (ahead : Option ℕ) (k m : ℕ) (xs : List Example) (e : listing_side T (edges_by action T s i) i ahead k ≡ gathered xs m) (j : ℕ) (h : j < length xs) where
    by_trials : (P : Example → Type 0) → ((p : Path) → Memᴰ p (trials (ends_of (edges_by action T s i)) (at_item i)) → P (labels_of T.productions (edges_by action T s i) p)) → P (nth xs j)
    by_trials P all = all-gathered P (listing_side T (edges_by action T s i) i ahead k) xs m (listing-all T (edges_by action T s i) i ahead k P all) e j h

    pub listed-fits : ExampleFits T.productions (nth xs j)
    listed-fits = by_trials (ExampleFits T.productions) (example-fits T fits (edges_by action T s i) i (trace_sound T fits s i f action))

    pub listed-first : label_of T.productions true (nth xs j) ≡ i.production * index_limit + i.index
    listed-first =
        by_trials (λ x. label_of T.productions true x ≡ i.production * index_limit + i.index) (example-first T fits (edges_by action T s i) i (trace_sound T fits s i f action))

    pub listed-shifts : i.index < length (production_at T i.production).symbols → Shifts T.productions (nth xs j)
    listed-shifts l = by_trials (Shifts T.productions) (example-shifts T fits (edges_by action T s i) i (trace_sound T fits s i f action) l)
