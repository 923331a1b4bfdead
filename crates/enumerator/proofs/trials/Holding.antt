-- Words that hold a trial, as the code tests it (src/machine.rt): zeros after the path, and the path edge by edge.
use Rattle.std.proofs.Common.{◌≡◌, ℕ, suc, ◌+◌, ◌-◌, ◌<◌, ◌≤◌, Bool, true, false, not, ◌&&◌, eqb, ltb, List, [], ◌∷◌, ◌++◌, reverse, length, get_or, take, drop, replicate, sym, refl, ap, ◌∙◌, arith, length-drop, take-append-drop, drop_of_length-le, length-take, length-take-le, get_or-drop, drop-cons, get_or-take, take-take, ltb-true, le-ltb, lt-ltb, eq-eqb, ne_eqb, eqb-true, zero, subst}
use mathlib.Core.Bool.{and-true}
use mathlib.Core.List.{reverse-cons, reverse-reverse}
use lib.ListN.{length-reverse}
use lib.Bits.{bit_or, or_add_and, and_le_l, and_le_r}
use borrow.Author.Tests.{eqb-false}
use Rattle.lr1_base.specs.repr.Sizes.{edge_place, scratch_words, reduction_limit}
use Rattle.lr1_base.proofs.words.Same.{same_words_eq, same_behind}
use Rattle.lr1_base.specs.words.Same.{same_words}
use Rattle.lr1_base.specs.repr.Lists.{mem}
use Rattle.lr1_base.specs.repr.Meaning.{Production, Item}
use Rattle.lr1_base.proofs.repr.Lists.{cases}
use Rattle.trace_graph.specs.declared.Node.{Node as NodeValue}
use Rattle.trace_graph.specs.Graph.{Node, at_nonterminal, at_item, is_same_node}
use Rattle.trace_graph.specs.Words.{node_at}
use Rattle.trace_graph.specs.Index.{InRange}
use Rattle.trace_graph.specs.Values.{node_is, node_read, edge_read, same_value, node_value_fits}
use Rattle.trace_graph.proofs.Fits.{value_range, same_value_lem, source_fits, target_fits}
use Rattle.trace_graph.proofs.Words.{node_read_lem}
use Rattle.enumerator.specs.trials.Trials.{Path, Ends, TrialFrom, is_example_in, Small}
use Rattle.enumerator.specs.trials.Words.{words_of, path_in, has_trial, path_room}
use Rattle.enumerator.specs.trials.Machine.{used_of, goes_on_byte, trial_from?}
use Rattle.enumerator.specs.trials.Stacks.{Ground, Started, Within, Stacked, stack_in}
use Rattle.lr1_base.proofs.laws.Bools.{and_left}
use Rattle.enumerator.proofs.trials.Edges.{source_at, target_at}
use Rattle.enumerator.proofs.trials.Steps.{used_end, used_in}
use Rattle.enumerator.proofs.trials.Exact.{complete}
use Rattle.enumerator.proofs.trials.Short.{short_trial}
use Rattle.enumerator.proofs.trials.Tested.{passes_trial, holds_test}
use Rattle.enumerator.proofs.trials.StackWords.{stack_more}
use Rattle.enumerator.proofs.trials.Stepping.{ends, edge_value_fits, source_value, source-value_fits, value_nonterminal, value_item, start_fits}
use Rattle.trace_graph.proofs.Front.{edges_long}

-- `only_zeros`

same_ne : (x y : ℕ) (xs ys : List ℕ) → (x ≡ y → ⊥) → same_words (x ∷ xs) (y ∷ ys) ≡ false
unfolding same_words
same_ne x y xs ys h = ap (λ (b : Bool). b && same_words xs ys) (ne_eqb x y h)

same_eq : (x y : ℕ) (xs ys : List ℕ) → x ≡ y → same_words (x ∷ xs) (y ∷ ys) ≡ same_words xs ys
unfolding same_words
same_eq x y xs ys h = ap (λ (b : Bool). b && same_words xs ys) (eq-eqb x y h)

same_none : same_words [] [] ≡ true
unfolding same_words
same_none = refl

-- the words from a place on, and as many zeros
abbrev pub zeros_from : List ℕ → ℕ → Bool
zeros_from ws at = same_words (drop at (take scratch_words ws)) (replicate (scratch_words - at) 0)

module _ (ws : List ℕ) (long : scratch_words ≤ length ws) (at : ℕ) where
  front_long : length (take scratch_words ws) ≡ scratch_words
  front_long = length-take-le scratch_words ws long

  pub zeros_end : scratch_words ≤ at → zeros_from ws at ≡ true
  zeros_end h =
      let z : scratch_words - at ≡ 0 = omega arith in
      let l : length (take scratch_words ws) ≤ at = omega (arith, front_long) in
      ap (λ (xs : List ℕ). same_words xs (replicate (scratch_words - at) 0)) (drop_of_length-le (take scratch_words ws) l)
      ∙ ap (λ (k : ℕ). same_words [] (replicate k 0)) z ∙ same_none

  module _ (h : at < scratch_words) (w : ℕ) (ew : w ≡ get_or ws at 0) where
    split : zeros_from ws at ≡ same_words (w ∷ drop (at + 1) (take scratch_words ws)) (0 ∷ replicate (scratch_words - (at + 1)) 0)
    split =
        let z : scratch_words - at ≡ suc (scratch_words - (at + 1)) = omega arith in
        let s : suc at ≡ at + 1 = omega arith in
        let l : at < length (take scratch_words ws) = omega (arith, front_long) in
        ap (λ (xs : List ℕ). same_words xs (replicate (scratch_words - at) 0))
        (drop-cons (take scratch_words ws) at 0 l ∙ ap (λ (x : ℕ). x ∷ drop (suc at) (take scratch_words ws)) (get_or-take scratch_words ws at 0 h ∙ sym ew) ∙ ap (λ (k : ℕ). w ∷ drop k (take scratch_words ws)) s)
        ∙ ap (λ (k : ℕ). same_words (w ∷ drop (at + 1) (take scratch_words ws)) (replicate k 0)) z

    pub zeros_not : (w ≡ 0 → ⊥) → zeros_from ws at ≡ false
    zeros_not n = split ∙ same_ne w 0 (drop (at + 1) (take scratch_words ws)) (replicate (scratch_words - (at + 1)) 0) n

    pub zeros_more : w ≡ 0 → zeros_from ws at ≡ zeros_from ws (at + 1)
    zeros_more z = split ∙ same_eq w 0 (drop (at + 1) (take scratch_words ws)) (replicate (scratch_words - (at + 1)) 0) z

-- the words from a place on
pub part_length : (ws : List ℕ) → scratch_words ≤ length ws → (from : ℕ) → length (take (scratch_words - from) (drop from ws)) ≡ scratch_words - from
part_length ws long from = length-take-le (scratch_words - from) (drop from ws) (omega (arith, length-drop from ws))

pub part_at : (ws : List ℕ) (from i : ℕ) → i < scratch_words - from → get_or (take (scratch_words - from) (drop from ws)) i 0 ≡ get_or ws (from + i) 0
part_at ws from i h = get_or-take (scratch_words - from) (drop from ws) i 0 h ∙ get_or-drop from ws i 0

-- `only_zeros`: what is gathered from a place up to another
none_of : (a b : ℕ) → bit_or a b ≡ 0 → (a ≡ 0) × (b ≡ 0)
none_of a b e = let s = or_add_and a b in let l = and_le_l a b in let r = and_le_r a b in (omega arith, omega arith)

pub record Gathered (ws : List ℕ) (from at all : ℕ) : Type 0 where
  pub within : at ≤ scratch_words
  pub none : all ≡ 0 → zeros_from ws at ≡ zeros_from ws from
  pub some : (all ≡ 0 → ⊥) → zeros_from ws from ≡ false

pub gathered-start : (ws : List ℕ) (from : ℕ) → from ≤ scratch_words → Gathered ws from from 0
gathered-start ws from h = record { within = h; none = λ e. refl; some = λ n. absurd (n refl) }

pub gathered-more : (ws : List ℕ) → scratch_words ≤ length ws → (from at all : ℕ) → Gathered ws from at all → at < scratch_words → Gathered ws from (at + 1) (bit_or all (get_or ws at 0))
gathered-more ws long from at all G h = record {
  within = omega arith;
  none = λ e. let z = none_of all (get_or ws at 0) e in sym (zeros_more ws long at h (get_or ws at 0) refl z.1) ∙ G.none z.0;
  some = λ n. cases (eqb all 0) (λ q. let z = eqb-true all 0 q in sym (G.none z) ∙ zeros_not ws long at h (get_or ws at 0) refl (λ w. n (rw (z, w)))) (λ q. G.some (eqb-false all 0 q));
}

pub gathered_end : (ws : List ℕ) → scratch_words ≤ length ws → (from at all : ℕ) → Gathered ws from at all → scratch_words ≤ at → eqb all 0 ≡ zeros_from ws from
gathered_end ws long from at all G h =
    cases (eqb all 0)
    (λ q. q ∙ sym (zeros_end ws long at h) ∙ G.none (eqb-true all 0 q))
    (λ q. q ∙ sym (G.some (eqb-false all 0 q)))

-- `enters`
module _ {g : List ℕ} (B : Ground g) (v : NodeValue) (fits : node_value_fits B.ranged.nonterminals B.productions v ≡ true) (e w : ℕ) (ew : w ≡ get_or g 0 0) where
  pub enters_edge : e < w → (r : Bool) (t : NodeValue) → t ≡ node_read g (edge_place e + 3) → r ≡ same_value t v
      → r ≡ (ltb e (ends g).count && is_same_node ((ends g).target e) (node_is v))
  unfolding edge_read
  enters_edge h r t et er =
      let l : e < get_or g 0 0 = omega arith in
      let c : e < (ends g).count = omega (arith, edges_long g) in
      let f : node_value_fits B.ranged.nonterminals B.productions t ≡ true =
      ap (node_value_fits B.ranged.nonterminals B.productions) et ∙ target_fits B.ranged.nonterminals B.productions (edge_read g e) (edge_value_fits B e l) in
      let n : node_is t ≡ (ends g).target e = ap node_is et ∙ node_read_lem g (edge_place e + 3) ∙ sym (target_at g e l) in
      er ∙ same_value_lem B.ranged.nonterminals B.productions t v f fits ∙ ap (λ (x : Node). is_same_node x (node_is v)) n
      ∙ sym (ap (λ (b : Bool). b && is_same_node ((ends g).target e) (node_is v)) (lt-ltb e (ends g).count c))

  pub enters_past : w ≤ e → false ≡ (ltb e (ends g).count && is_same_node ((ends g).target e) (node_is v))
  enters_past h =
      let c : (ends g).count ≤ e = omega (arith, edges_long g) in
      sym (ap (λ (b : Bool). b && is_same_node ((ends g).target e) (node_is v)) (le-ltb e (ends g).count c))

-- the ways through the test of a path
module _ (G : Ends) (us : List ℕ) (v : Node) (e f : ℕ) (p : Path) where
  trial_out : (ltb e G.count && is_same_node (G.target e) v) ≡ false → trial_from? G us v (e ∷ f ∷ p) ≡ false
  unfolding trial_from?
  trial_out h = ap (λ (b : Bool). b && goes_on_byte us (G.source e) (λ n. trial_from? G (n ∷ us) (at_nonterminal n) (f ∷ p))) h

  module _ (h : (ltb e G.count && is_same_node (G.target e) v) ≡ true) where
    trial_in : (x : Node) → G.source e ≡ x → trial_from? G us v (e ∷ f ∷ p) ≡ goes_on_byte us x (λ n. trial_from? G (n ∷ us) (at_nonterminal n) (f ∷ p))
    unfolding trial_from?
    trial_in x q =
        ap (λ (b : Bool). b && goes_on_byte us (G.source e) (λ n. trial_from? G (n ∷ us) (at_nonterminal n) (f ∷ p))) h
        ∙ ap (λ (y : Node). goes_on_byte us y (λ n. trial_from? G (n ∷ us) (at_nonterminal n) (f ∷ p))) q

    trial_item : (i : Item) → G.source e ≡ at_item i → trial_from? G us v (e ∷ f ∷ p) ≡ false
    unfolding goes_on_byte
    trial_item i q = trial_in (at_item i) q

    trial_used : (n : ℕ) → G.source e ≡ at_nonterminal n → mem n us ≡ true → trial_from? G us v (e ∷ f ∷ p) ≡ false
    unfolding goes_on_byte
    trial_used n q m = trial_in (at_nonterminal n) q ∙ ap (λ (b : Bool). not b && trial_from? G (n ∷ us) (at_nonterminal n) (f ∷ p)) m

    trial_on : (n : ℕ) → G.source e ≡ at_nonterminal n → mem n us ≡ false → trial_from? G us v (e ∷ f ∷ p) ≡ trial_from? G (n ∷ us) (at_nonterminal n) (f ∷ p)
    unfolding goes_on_byte
    trial_on n q m = trial_in (at_nonterminal n) q ∙ ap (λ (b : Bool). not b && trial_from? G (n ∷ us) (at_nonterminal n) (f ∷ p)) m

trial_one : (G : Ends) (us : List ℕ) (v : Node) (e : ℕ) → trial_from? G us v (e ∷ []) ≡ (ltb e G.count && is_same_node (G.target e) v)
unfolding trial_from?
trial_one G us v e = refl

-- the path of the first d edges in the words
module _ (ws : List ℕ) (d : ℕ) (long : d < length ws) where
  pub path_long : length (take d (drop 1 ws)) ≡ d
  path_long = length-take-le d (drop 1 ws) (omega (arith, length-drop 1 ws))

  path_at : (at : ℕ) → at < d → drop at (take d (drop 1 ws)) ≡ get_or ws (at + 1) 0 ∷ drop (at + 1) (take d (drop 1 ws))
  path_at at h =
      let s : suc at ≡ at + 1 = omega arith in
      let o : 1 + at ≡ at + 1 = omega arith in
      let P = take d (drop 1 ws) in
      drop-cons P at 0 (omega (arith, path_long))
      ∙ ap (λ (x : ℕ). x ∷ drop (suc at) P) (get_or-take d (drop 1 ws) at 0 h ∙ get_or-drop 1 ws at 0 ∙ ap (λ (k : ℕ). get_or ws k 0) o)
      ∙ ap (λ (k : ℕ). get_or ws (at + 1) 0 ∷ drop k P) s

  path_end : (at : ℕ) → d ≤ at → drop at (take d (drop 1 ws)) ≡ []
  path_end at h = let l : length (take d (drop 1 ws)) ≤ at = omega (arith, path_long) in drop_of_length-le (take d (drop 1 ws)) l

-- `is_trial`: the edges that are left pass as all do
pub record Walking (g ws : List ℕ) (d production index : ℕ) (node : NodeValue) (at : ℕ) : Type 0 where
  pub begun : Started g production index
  pub fits : node_value_fits begun.ground.ranged.nonterminals begun.ground.productions node ≡ true
  pub deep : at < d
  pub edges : Within (get_or g 0 0) (stack_in ws at)
  pub same : trial_from? (ends g) (used_of (ends g) (stack_in ws at)) (node_is node) (drop at (take d (drop 1 ws)))
      ≡ trial_from? (ends g) [] (at_item (record { production = production; index = index })) (take d (drop 1 ws))

within-cons : (k e : ℕ) (st : List ℕ) → e < k → Within k st → Within k (e ∷ st)
unfolding Within
within-cons k e st h w = (h, w)

within_none : (k : ℕ) → Within k []
unfolding Within
within_none k = tt

pub trial_first : {g ws : List ℕ} {d production index : ℕ} → Started g production index → 0 < d → Walking g ws d production index (record { kind = 1; number = production; index = index }) 0
unfolding stack_in node_is Rattle.trace_graph.specs.Words.node_of
trial_first {g} {ws} {d} {production} {index} A h = record {
  begun = A;
  fits = start_fits A;
  deep = h;
  edges = within_none (get_or g 0 0);
  same = ap (λ (us : List ℕ). trial_from? (ends g) us (at_item (record { production = production; index = index })) (take d (drop 1 ws))) (used_end (ends g));
}

module _ {g ws : List ℕ} {d production index : ℕ} {node : NodeValue} {at : ℕ} (W : Walking g ws d production index node at) (long : d < length ws)
    (x : ℕ) (ex : x ≡ get_or ws (at + 1) 0) (r : Bool) (er : r ≡ (ltb x (ends g).count && is_same_node ((ends g).target x) (node_is node))) where
  abbrev whole : Bool
  whole = trial_from? (ends g) [] (at_item (record { production = production; index = index })) (take d (drop 1 ws))

  abbrev us : List ℕ
  us = used_of (ends g) (stack_in ws at)

  here : drop at (take d (drop 1 ws)) ≡ x ∷ drop (at + 1) (take d (drop 1 ws))
  here = path_at ws d long at W.deep ∙ ap (λ (y : ℕ). y ∷ drop (at + 1) (take d (drop 1 ws))) (sym ex)

  pub trial_last : d ≤ at + 1 → r ≡ whole
  trial_last h =
      er ∙ sym (trial_one (ends g) us (node_is node) x)
      ∙ ap (trial_from? (ends g) us (node_is node)) (sym (here ∙ ap (λ (l : List ℕ). x ∷ l) (path_end ws d long (at + 1) h)))
      ∙ W.same

  module _ (more : at + 1 < d) where
    abbrev beyond : List ℕ
    beyond = drop (at + 1 + 1) (take d (drop 1 ws))

    abbrev second : ℕ
    second = get_or ws (at + 1 + 1) 0

    there : drop (at + 1) (take d (drop 1 ws)) ≡ second ∷ beyond
    there = path_at ws d long (at + 1) more

    opened : trial_from? (ends g) us (node_is node) (x ∷ second ∷ beyond) ≡ whole
    opened = ap (trial_from? (ends g) us (node_is node)) (sym (here ∙ ap (λ (l : List ℕ). x ∷ l) there)) ∙ W.same

    pub trial_stops : r ≡ false → false ≡ whole
    trial_stops h = sym (trial_out (ends g) us (node_is node) x second beyond (sym er ∙ h)) ∙ opened

    module _ (h : r ≡ true) where
      passed : (ltb x (ends g).count && is_same_node ((ends g).target x) (node_is node)) ≡ true
      passed = sym er ∙ h

      pub trial_edge : x < get_or g 0 0
      trial_edge = omega (arith, ltb-true x (ends g).count (and_left (ltb x (ends g).count) (is_same_node ((ends g).target x) (node_is node)) passed), edges_long g)

      module _ (s : NodeValue) (es : node_is s ≡ node_at g (edge_place x)) where
        pub trial_ends : (s.kind ≡ 0 → ⊥) → false ≡ whole
        trial_ends z =
            let i = value_item s z in
            sym (trial_item (ends g) us (node_is node) x second beyond passed i.0 (source_value g x s trial_edge es ∙ i.1)) ∙ opened

        module _ (z : s.kind ≡ 0) (u : Bool) (eu : u ≡ mem s.number us) where
          source_is : (ends g).source x ≡ at_nonterminal s.number
          source_is = source_value g x s trial_edge es ∙ value_nonterminal s z

          pub trial_cycles : u ≡ true → false ≡ whole
          trial_cycles t = sym (trial_used (ends g) us (node_is node) x second beyond passed s.number source_is (sym eu ∙ t)) ∙ opened

          pub trial_again : u ≡ false → s ≡ node_read g (edge_place x) → Walking g ws d production index s (at + 1)
          trial_again t q =
              let k : at + 1 ≡ suc at = omega arith in
              let e : stack_in ws (at + 1) ≡ x ∷ stack_in ws at =
              ap (stack_in ws) k ∙ stack_more ws at (omega arith) ∙ ap (λ (y : ℕ). y ∷ stack_in ws at) (ap (λ (m : ℕ). get_or ws m 0) (sym k) ∙ sym ex) in
              let n : used_of (ends g) (stack_in ws (at + 1)) ≡ s.number ∷ us = ap (used_of (ends g)) e ∙ used_in (ends g) x (stack_in ws at) s.number source_is in
              record {
                begun = W.begun;
                fits = source-value_fits W.begun.ground trial_edge q;
                deep = more;
                edges = rw e (within-cons (get_or g 0 0) x (stack_in ws at) trial_edge W.edges);
                same =
                    ap (λ (l : List ℕ). trial_from? (ends g) l (node_is s) (drop (at + 1) (take d (drop 1 ws)))) n
                    ∙ ap (λ (y : Node). trial_from? (ends g) (s.number ∷ us) y (drop (at + 1) (take d (drop 1 ws)))) (value_nonterminal s z)
                    ∙ ap (trial_from? (ends g) (s.number ∷ us) (at_nonterminal s.number)) there
                    ∙ sym (trial_on (ends g) us (node_is node) x second beyond passed s.number source_is (sym eu ∙ t))
                    ∙ opened;
              }

-- a path's words as a stack

within-append : (k : ℕ) (xs ys : List ℕ) → Within k xs → Within k ys → Within k (xs ++ ys)
unfolding Within
within-append k [] ys a b = b
within-append k (x ∷ xs) ys a b = (a.0, within-append k xs ys a.1 b)

pub within-reverse : (k : ℕ) (xs : List ℕ) → Within k xs → Within k (reverse xs)
unfolding Within
within-reverse k [] a = tt
within-reverse k (x ∷ xs) a = rw (reverse-cons x xs) (within-append k (reverse xs) (x ∷ []) (within-reverse k xs a.1) (a.0, tt))

pub within_at : (k : ℕ) (p : List ℕ) (i d : ℕ) → Within k p → i < length p → get_or p i d < k
unfolding Within
within_at k [] i d w h = absurd (omega arith)
within_at k (e ∷ p) zero d w h = w.0
within_at k (e ∷ p) (suc i) d w h = within_at k p i d w.1 (omega arith)

-- the edges of a stack, as the words have them
pub uses_edge : {k : ℕ} (ws : List ℕ) (d : ℕ) → Within k (stack_in ws d) → (i x : ℕ) → i < length (take d (drop 1 ws)) → x ≡ get_or (take d (drop 1 ws)) i x → x < k
unfolding stack_in
uses_edge {k} ws d w i x h e =
    let p = take d (drop 1 ws) in
    let v = subst (Within k) (reverse-reverse p) (within-reverse k (reverse p) w) in
    omega (arith, within_at k p i x v h)

pub trial_within : (G : Ends) (p : Path) (us : List ℕ) (v : Node) → TrialFrom G us v p → Within G.count p
unfolding Within
trial_within G [] us v t = tt
trial_within G (e ∷ []) us v t = (t.0, tt)
trial_within G (e ∷ f ∷ p) us v (n, a, b, c, d, t) = (a, trial_within G (f ∷ p) (n ∷ us) (at_nonterminal n) t)

pub stacked_of : {k : ℕ} {ws : List ℕ} (p rest : List ℕ) → ws ≡ words_of p ++ rest → length p ≤ reduction_limit → Within k p → Stacked k ws
stacked_of {k} p rest w s e = record {
  stack = reverse p;
  rest = rest;
  words = w ∙ ap (λ (l : List ℕ). words_of l ++ rest) (sym (reverse-reverse p));
  short = omega (arith, length-reverse p);
  edges = within-reverse k p e;
}

pub nonterminal_range : (n : ℕ) (ps : List Production) (m : ℕ) → InRange n ps (at_nonterminal m) → m < n
unfolding InRange
nonterminal_range n ps m h = h

pub small_ground : {g : List ℕ} → Ground g → Small (ends g)
unfolding edge_read
small_ground {g} B e m h q =
    let l : e < get_or g 0 0 = omega (arith, edges_long g) in
    let v = node_read g (edge_place e) in
    let r = value_range B.ranged.nonterminals B.productions v (source_fits B.ranged.nonterminals B.productions (edge_read g e) (edge_value_fits B e l)) in
    let s : node_is v ≡ at_nonterminal m = node_read_lem g (edge_place e) ∙ sym (source_at g e l) ∙ q in
    omega (arith, nonterminal_range B.ranged.nonterminals B.productions m (rw s at r), B.ranged.few_nonterminals)

-- all the words: the path's, and zeros after them
words_same : (w : ℕ) (ws : List ℕ) → w ≤ reduction_limit → path_room ≤ length ws
    → same_words (take scratch_words (w ∷ ws)) (words_of (take w ws)) ≡ zeros_from (w ∷ ws) (w + 1)
unfolding words_of
words_same w ws h long =
    let T = take path_room ws in
    let p = take w ws in
    let n : length p ≡ w = length-take-le w ws (omega arith) in
    let l : take scratch_words (w ∷ ws) ≡ (w ∷ p) ++ drop w T = ap (λ (xs : List ℕ). w ∷ xs) (sym (take-append-drop w T) ∙ ap (λ (xs : List ℕ). xs ++ drop w T) (take-take w path_room ws (omega arith))) in
    let r : words_of p ≡ (w ∷ p) ++ replicate (path_room - w) 0 = ap (λ (k : ℕ). k ∷ (p ++ replicate (path_room - k) 0)) n in
    let s : suc w ≡ w + 1 = omega arith in
    let z : path_room - w ≡ scratch_words - (w + 1) = omega arith in
    ap (λ (xs : List ℕ). same_words xs (words_of p)) l ∙ ap (same_words ((w ∷ p) ++ drop w T)) r ∙ same_behind (w ∷ p) (drop w T) (replicate (path_room - w) 0)
    ∙ ap (λ (k : ℕ). same_words (drop w T) (replicate k 0)) z
    ∙ ap (λ (k : ℕ). same_words (drop k (w ∷ T)) (replicate (scratch_words - (w + 1)) 0)) s

pub path_words : (ws : List ℕ) (d : ℕ) → d ≡ get_or ws 0 0 → d ≤ reduction_limit → scratch_words ≤ length ws → same_words (take scratch_words ws) (words_of (path_in ws)) ≡ zeros_from ws (d + 1)
unfolding path_in
path_words [] d e h long = absurd (omega arith)
path_words (w ∷ ws) d e h long = words_same w ws (omega arith) (omega arith) ∙ ap (λ (k : ℕ). zeros_from (w ∷ ws) (k + 1)) (sym e)

path_is : (ws : List ℕ) (d : ℕ) → d ≡ get_or ws 0 0 → path_in ws ≡ take d (drop 1 ws)
unfolding path_in
path_is ws d e = ap (λ (k : ℕ). take k (drop 1 ws)) (sym e)

last-false : (a b c : Bool) → c ≡ false → (a && (b && c)) ≡ false
last-false true true c h = h
last-false true false c h = refl
last-false false b c h = refl

-- `holds_trial`
module _ {g : List ℕ} {production index : ℕ} (A : Started g production index) (ws : List ℕ) (long : scratch_words ≤ length ws) (d : ℕ) (ed : d ≡ get_or ws 0 0) where
  abbrev start : Node
  start = at_item (record { production = production; index = index })

  tested : has_trial (ends g) start ws
      ≡ (same_words (take scratch_words ws) (words_of (path_in ws)) && (is_example_in (ends g) (take d (drop 1 ws)) && trial_from? (ends g) [] start (take d (drop 1 ws))))
  tested =
      holds_test (ends g) start (small_ground A.ground) ws
      ∙ ap (λ (p : List ℕ). same_words (take scratch_words ws) (words_of (path_in ws)) && (is_example_in (ends g) p && trial_from? (ends g) [] start p)) (path_is ws d ed)

  pub holds_no_trial : trial_from? (ends g) [] start (take d (drop 1 ws)) ≡ false → false ≡ has_trial (ends g) start ws
  holds_no_trial h =
      sym (tested ∙ last-false (same_words (take scratch_words ws) (words_of (path_in ws))) (is_example_in (ends g) (take d (drop 1 ws))) (trial_from? (ends g) [] start (take d (drop 1 ws))) h)

  pub holds_none : d ≡ 0 → false ≡ has_trial (ends g) start ws
  unfolding trial_from?
  holds_none z = holds_no_trial (ap (λ (k : ℕ). trial_from? (ends g) [] start (take k (drop 1 ws))) z)

  -- what a path that passes is
  passing : trial_from? (ends g) [] start (take d (drop 1 ws)) ≡ true → TrialFrom (ends g) [] start (take d (drop 1 ws))
  passing t = passes_trial (ends g) (take d (drop 1 ws)) [] start t

  few : trial_from? (ends g) [] start (take d (drop 1 ws)) ≡ true → length (take d (drop 1 ws)) ≤ reduction_limit
  few t = short_trial (ends g) start (take d (drop 1 ws)) (complete (ends g) (small_ground A.ground) start (take d (drop 1 ws)) (passing t))

  pub holds_long : reduction_limit < d → false ≡ has_trial (ends g) start ws
  holds_long h = holds_no_trial (go (trial_from? (ends g) [] start (take d (drop 1 ws))) refl)
    where
      go : (b : Bool) → trial_from? (ends g) [] start (take d (drop 1 ws)) ≡ b → trial_from? (ends g) [] start (take d (drop 1 ws)) ≡ false
      go false q = q
      go true q =
          let f = few q in
          let l = length-take d (drop 1 ws) in
          let m = length-drop 1 ws in
          absurd (omega arith)

  module _ (short : d ≤ reduction_limit) (r : Bool) (er : r ≡ zeros_from ws (d + 1)) where
    words_are : same_words (take scratch_words ws) (words_of (path_in ws)) ≡ r
    words_are = path_words ws d ed short long ∙ sym er

    pub holds_other : r ≡ false → false ≡ has_trial (ends g) start ws
    holds_other f =
        sym (tested ∙ ap (λ (b : Bool). b && (is_example_in (ends g) (take d (drop 1 ws)) && trial_from? (ends g) [] start (take d (drop 1 ws)))) (words_are ∙ f))

    module _ (t : r ≡ true) (u : Bool) (eu : u ≡ trial_from? (ends g) [] start (take d (drop 1 ws))) where
      pub holds_not : u ≡ false → false ≡ has_trial (ends g) start ws
      holds_not f = holds_no_trial (sym eu ∙ f)

      module _ (y : u ≡ true) where
        path_front : ws ≡ words_of (take d (drop 1 ws)) ++ drop scratch_words ws
        path_front =
            sym (take-append-drop scratch_words ws)
            ∙ ap (λ (l : List ℕ). l ++ drop scratch_words ws) (same_words_eq (take scratch_words ws) (words_of (path_in ws)) (words_are ∙ t) ∙ ap words_of (path_is ws d ed))

        pub holds_stack : Stacked (get_or g 0 0) ws
        holds_stack =
            let p = take d (drop 1 ws) in
            stacked_of p (drop scratch_words ws) path_front (few (sym eu ∙ y)) (rw (sym (edges_long g)) (trial_within (ends g) p [] start (passing (sym eu ∙ y))))

        pub holds_yes : (b : Bool) → ((st rest : List ℕ) → ws ≡ words_of (reverse st) ++ rest → b ≡ is_example_in (ends g) (reverse st)) → b ≡ has_trial (ends g) start ws
        holds_yes b f =
            let p = take d (drop 1 ws) in
            let e : b ≡ is_example_in (ends g) p =
            f (reverse p) (drop scratch_words ws) (path_front ∙ ap (λ (l : List ℕ). words_of l ++ drop scratch_words ws) (sym (reverse-reverse p))) ∙ ap (is_example_in (ends g)) (reverse-reverse p) in
            sym (tested ∙ ap (λ (x : Bool). x && (is_example_in (ends g) p && trial_from? (ends g) [] start p)) (words_are ∙ t)
            ∙ ap (λ (x : Bool). is_example_in (ends g) p && x) (sym eu ∙ y) ∙ and-true (is_example_in (ends g) p) ∙ sym e)
