-- The ways through the code that tests a trial (src/machine.rt), over its words.
use Rattle.std.proofs.Common.{◌≡◌, ℕ, zero, suc, ◌+◌, ◌<◌, Bool, true, false, not, ◌||◌, eqb, List, [], ◌∷◌, ◌++◌, reverse, get_or, take, drop, sym, refl, ap, ◌∙◌, arith, ne_eqb}
use mathlib.Core.List.{reverse-cons}
use borrow.Author.Tests.{eqb-false}
use Rattle.std.specs.List.{list_any}
use Rattle.std.proofs.lemmas.List.Folds.{list_any-append}
use Rattle.lr1_base.specs.repr.Sizes.{edge_place}
use Rattle.lr1_base.specs.repr.Lists.{mem}
use Rattle.lr1_base.specs.repr.Meaning.{Item}
use Rattle.lr1_base.proofs.repr.Lists.{cases, mem-cons_here, mem_no, mem-nil}
use Rattle.trace_graph.specs.declared.Node.{Node as NodeValue}
use Rattle.trace_graph.specs.declared.TraceEdge.{TraceEdge as EdgeValue}
use Rattle.trace_graph.specs.Graph.{Node, at_nonterminal, at_item, is_same_node}
use Rattle.trace_graph.specs.Words.{node_of, node_at, edges_in}
use Rattle.trace_graph.specs.Fits.{node_fits}
use Rattle.trace_graph.specs.Values.{node_is, node_read, edge_read, node_value_fits, value_fits}
use Rattle.trace_graph.proofs.Fits.{source_fits}
use Rattle.trace_graph.proofs.Words.{fits_read, node_read_lem}
use Rattle.enumerator.specs.trials.Trials.{Ends, ends_of, from_item, is_example_in}
use Rattle.enumerator.specs.trials.Words.{words_of}
use Rattle.enumerator.specs.trials.Machine.{used_of}
use Rattle.enumerator.specs.trials.Stacks.{Ground, Started, Within, Stacked, stack_in}
use Rattle.enumerator.proofs.trials.Edges.{source_at}
use Rattle.enumerator.proofs.trials.Steps.{used_end, used-item, used_in}
use Rattle.enumerator.proofs.trials.StackWords.{stack_once, empty, upper, upper_below, upper_is}
use Rattle.trace_graph.proofs.Labels.{node_equal}

abbrev pub ends : List ℕ → Ends
ends g = ends_of (edges_in g)

-- the graph's words

module _ (g : List ℕ) (e : ℕ) (v : EdgeValue) (q : v ≡ edge_read g e) where
  pub read_source : (node_is v.source ≡ node_at g (edge_place e)) × (v.source ≡ node_read g (edge_place e))
  unfolding edge_read
  read_source = let s = ap (λ (x : EdgeValue). x.source) q in (ap node_is s ∙ node_read_lem g (edge_place e), s)

  pub read_target : (node_is v.target ≡ node_at g (edge_place e + 3)) × (v.target ≡ node_read g (edge_place e + 3))
  unfolding edge_read
  read_target = let t = ap (λ (x : EdgeValue). x.target) q in (ap node_is t ∙ node_read_lem g (edge_place e + 3), t)

-- the node that an edge comes from
pub source_value : (g : List ℕ) (e : ℕ) (v : NodeValue) → e < get_or g 0 0 → node_is v ≡ node_at g (edge_place e) → (ends g).source e ≡ node_is v
source_value g e v h q = source_at g e h ∙ sym q

pub value_nonterminal : (v : NodeValue) → v.kind ≡ 0 → node_is v ≡ at_nonterminal v.number
unfolding node_is node_of
value_nonterminal v z = rw z

pub value_item : (v : NodeValue) → (v.kind ≡ 0 → ⊥) → (i : Item) × (node_is v ≡ at_item i)
unfolding node_is node_of
value_item v ne = go v.kind refl
  where
    go : (k : ℕ) → v.kind ≡ k → (i : Item) × (node_of v.kind v.number v.index ≡ at_item i)
    go zero q = absurd (ne q)
    go (suc k) q = (record { production = v.number; index = v.index }, rw q)

pub edge_value_fits : {g : List ℕ} (B : Ground g) (e : ℕ) → e < get_or g 0 0 → value_fits B.ranged.nonterminals B.productions (edge_read g e) ≡ true
edge_value_fits {g} B e h = fits_read B.ranged.nonterminals B.productions g e ∙ B.ranged.fits e h

pub source-value_fits : {g : List ℕ} (B : Ground g) {e : ℕ} {v : NodeValue} → e < get_or g 0 0 → v ≡ node_read g (edge_place e) → node_value_fits B.ranged.nonterminals B.productions v ≡ true
unfolding edge_read
source-value_fits {g} B {e} h q =
    ap (node_value_fits B.ranged.nonterminals B.productions) q ∙ source_fits B.ranged.nonterminals B.productions (edge_read g e) (edge_value_fits B e h)

-- `comes_from`
module _ (g : List ℕ) (e : ℕ) (v : NodeValue) (h : e < get_or g 0 0) (q : node_is v ≡ node_at g (edge_place e)) where
  pub from-nonterminal : (n : ℕ) → v.kind ≡ 0 → eqb v.number n ≡ is_same_node ((ends g).source e) (at_nonterminal n)
  unfolding is_same_node
  from-nonterminal n z = sym (ap (λ (x : Node). is_same_node x (at_nonterminal n)) (source_value g e v h q ∙ value_nonterminal v z))

  pub from_item_lem : (n : ℕ) → (v.kind ≡ 0 → ⊥) → false ≡ is_same_node ((ends g).source e) (at_nonterminal n)
  unfolding is_same_node
  from_item_lem n ne = sym (ap (λ (x : Node). is_same_node x (at_nonterminal n)) (source_value g e v h q ∙ (value_item v ne).1))

-- `uses`
module _ (G : Ends) (n e : ℕ) (st : List ℕ) where
  used_here : is_same_node (G.source e) (at_nonterminal n) ≡ true → mem n (used_of G (e ∷ st)) ≡ true
  used_here s = ap (mem n) (used_in G e st n (node_equal (G.source e) (at_nonterminal n) s)) ∙ mem-cons_here n (used_of G st)

  used_there : is_same_node (G.source e) (at_nonterminal n) ≡ false → mem n (used_of G (e ∷ st)) ≡ mem n (used_of G st)
  unfolding is_same_node
  used_there s = go (G.source e) refl
    where
      go : (x : Node) → G.source e ≡ x → mem n (used_of G (e ∷ st)) ≡ mem n (used_of G st)
      go (at_item i) q = ap (mem n) (used-item G e st i q)
      go (at_nonterminal m) q =
          let t : eqb m n ≡ false = sym (ap (λ (x : Node). is_same_node x (at_nonterminal n)) q) ∙ s in
          ap (mem n) (used_in G e st m q) ∙ mem_no n m (used_of G st) (ne_eqb n m (λ x. eqb-false m n t (sym x)))

or_swap : (a b : Bool) → (a || (b || false)) ≡ (b || a)
or_swap true true = refl
or_swap true false = refl
or_swap false true = refl
or_swap false false = refl

module _ (G : Ends) (n : ℕ) where
  abbrev pub comes : ℕ → Bool
  comes e = is_same_node (G.source e) (at_nonterminal n)

  used_any : (st : List ℕ) → list_any comes st ≡ mem n (used_of G st)
  used_any [] = sym (ap (mem n) (used_end G) ∙ mem-nil n)
  used_any (e ∷ st) = cases (comes e)
      (λ h. ap (λ (b : Bool). b || list_any comes st) h ∙ sym (used_here G n e st h))
      (λ h. ap (λ (b : Bool). b || list_any comes st) h ∙ used_any st ∙ sym (used_there G n e st h))

  any_reverse : (xs : List ℕ) → list_any comes (reverse xs) ≡ list_any comes xs
  any_reverse [] = refl
  any_reverse (x ∷ xs) =
      ap (list_any comes) (reverse-cons x xs) ∙ list_any-append comes (reverse xs) (x ∷ [])
      ∙ ap (λ (b : Bool). b || (comes x || false)) (any_reverse xs) ∙ or_swap (list_any comes xs) (comes x)

  pub uses_any : (ws : List ℕ) (d : ℕ) → list_any comes (take d (drop 1 ws)) ≡ mem n (used_of G (stack_in ws d))
  unfolding stack_in
  uses_any ws d = sym (any_reverse (take d (drop 1 ws))) ∙ used_any (reverse (take d (drop 1 ws)))

pub within-top : (k e : ℕ) (st : List ℕ) → Within k (e ∷ st) → (e < k) × Within k st
unfolding Within
within-top k e st w = w

-- `is_trial` begins at the start item
pub start_fits : {g : List ℕ} {production index : ℕ} (A : Started g production index)
    → node_value_fits A.ground.ranged.nonterminals A.ground.productions (record { kind = 1; number = production; index = index }) ≡ true
unfolding node_value_fits node_fits
start_fits A = A.fits

-- `is_example`
pub example-last : (G : Ends) (p : List ℕ) (e : ℕ) → is_example_in G (p ++ e ∷ []) ≡ from_item (G.source e)
example-last G [] e = refl
example-last G (a ∷ []) e = refl
example-last G (a ∷ b ∷ p) e = example-last G (b ∷ p) e

value_from : (v : NodeValue) → from_item (node_is v) ≡ not (eqb v.kind 0)
unfolding node_is node_of
value_from v = go v.kind refl
  where
    go : (k : ℕ) → v.kind ≡ k → from_item (node_of v.kind v.number v.index) ≡ not (eqb v.kind 0)
    go zero q = rw q
    go (suc k) q = rw (q, ne_eqb (suc k) 0 (λ e. omega arith))

module _ (g : List ℕ) {ws : List ℕ} (S : Stacked (get_or g 0 0) ws) {d : ℕ} (ed : d ≡ get_or ws 0 0) where
  pub example-none : d ≡ 0 → (st rest : List ℕ) → ws ≡ words_of (reverse st) ++ rest → false ≡ is_example_in (ends g) (reverse st)
  example-none z st rest q =
      let e : st ≡ [] = (stack_once st S.stack rest S.rest (sym q ∙ S.words)).0 ∙ empty S d ed z in
      sym (ap (λ (l : List ℕ). is_example_in (ends g) (reverse l)) e)

  pub example-top : (ne : d ≡ 0 → ⊥) (x : ℕ) → x ≡ get_or ws d 0 → (v : NodeValue) → node_is v ≡ node_at g (edge_place x) → (st rest : List ℕ) → ws ≡ words_of (reverse st) ++ rest
      → not (eqb v.kind 0) ≡ is_example_in (ends g) (reverse st)
  example-top ne x ex v q st rest w =
      let e = upper_is S ed ne ex st rest w in
      let u = (upper S ed ne ex).under in
      sym (ap (λ (l : List ℕ). is_example_in (ends g) (reverse l)) e ∙ ap (is_example_in (ends g)) (reverse-cons x u) ∙ example-last (ends g) (reverse u) x
      ∙ ap from_item (source_value g x v (upper_below S ed ne ex) q) ∙ value_from v)
