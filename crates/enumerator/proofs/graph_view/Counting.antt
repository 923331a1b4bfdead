-- The counts of a walk that the code of the machine keeps (specs/graph_view/Steps), by the words of a trial.
use Prim.Native.Nat.{ℕ, zero, suc, ◌+◌, ◌-◌, ◌≤◌, ◌<◌}
use native.Mathlib.Omega.{arith}
use mathlib.Core.Path.{◌≡◌, refl, sym, ap, subst, ◌∙◌}
use mathlib.Core.List.{List, [], ◌∷◌, ◌++◌, reverse, reverse-cons}
use lib.ListN.{length, get_or, set, take, drop, length-take, length-reverse}
use lib.Dec.{eqb}
use borrow.Author.Tests.{eqb-true, eqb-false}
use Rattle.lr1_base.specs.repr.Sizes.{nonterminal_limit, edge_limit, reduction_limit}
use Rattle.lr1_base.proofs.repr.Lists.{cases}
use Rattle.enumerator.specs.trials.Stacks.{Within, stack_in}
use Rattle.enumerator.specs.trials.Counts.{Counted, walk_of}
use Rattle.enumerator.proofs.trials.Stepping.{within-top}
use Rattle.enumerator.proofs.trials.Counting.{counted_fewer}
use Rattle.enumerator.specs.graph_view.Trial.{trial_words, Held}
use Rattle.enumerator.specs.graph_view.Steps.{joined_by, used_by, CountedWalk, CountedEdges}
use Rattle.enumerator.proofs.graph_view.Trial.{stack_once, stack_depth, stack_long, empty, under_read, top-words, upper, upper_stack}
use Rattle.enumerator.proofs.graph_view.Steps.{used-more, used_few}
use Rattle.enumerator.proofs.trials.StackWords.{stack_more}

-- an edge that joins a walk or leaves it, from an item or from a nonterminal
module _ (sources : List ℕ) (e : ℕ) (us : List ℕ) {ms : List ℕ} where
  pub join-item : get_or sources e 0 ≡ 0 → Counted us ms → Counted (joined_by (get_or sources e 0) us) ms
  unfolding joined_by
  join-item z C = rw z C

  pub join-nonterminal : {n : ℕ} → get_or sources e 0 ≡ suc n → Counted (n ∷ us) ms → Counted (joined_by (get_or sources e 0) us) ms
  unfolding joined_by
  join-nonterminal q C = rw q C

  leave_same : get_or sources e 0 ≡ 0 → Counted (joined_by (get_or sources e 0) us) ms → Counted us ms
  unfolding joined_by
  leave_same z C = rw z at C

  leave_by : {n : ℕ} → get_or sources e 0 ≡ suc n → Counted (joined_by (get_or sources e 0) us) ms → Counted (n ∷ us) ms
  unfolding joined_by
  leave_by q C = rw q at C

-- counts by the stack that the words hold
module _ (sources : List ℕ) {ws ms : List ℕ} (st rest : List ℕ) (w : ws ≡ trial_words (reverse st) ++ rest) where
  pub walk_by : Counted (used_by sources (walk_of st)) ms → CountedWalk sources ws ms
  walk_by C = record { walk = λ s r x. subst (λ (l : List ℕ). Counted (used_by sources (walk_of l)) ms) (stack_once st s rest r (sym w ∙ x)).0 C }

  pub edges_by_lem : Counted (used_by sources st) ms → CountedEdges sources ws ms
  edges_by_lem C = record { edges = λ s r x. subst (λ (l : List ℕ). Counted (used_by sources l) ms) (stack_once st s rest r (sym w ∙ x)).0 C }

last-words : {ws : List ℕ} (st : List ℕ) (e : ℕ) (rest : List ℕ) → ws ≡ trial_words (reverse st ++ e ∷ []) ++ rest → ws ≡ trial_words (reverse (e ∷ st)) ++ rest
last-words st e rest w = w ∙ ap (λ (l : List ℕ). trial_words l ++ rest) (sym (reverse-cons e st))

-- the walk of words with a last edge is what stands before it
last_by : (sources : List ℕ) {ws ms : List ℕ} (st : List ℕ) (e : ℕ) (rest : List ℕ) → ws ≡ trial_words (reverse st ++ e ∷ []) ++ rest → Counted (used_by sources st) ms → CountedWalk sources ws ms
unfolding walk_of
last_by sources st e rest w C = walk_by sources (e ∷ st) rest (last-words st e rest w) C

module _ (sources : List ℕ) {ws : List ℕ} (S : Held ws) {d : ℕ} (ed : d ≡ get_or ws 0 0) where
  -- no edge: nothing leaves and nothing joins
  module _ (z : d ≡ 0) where
    none-words : ws ≡ trial_words (reverse []) ++ S.rest
    none-words = S.words ∙ ap (λ (l : List ℕ). trial_words (reverse l) ++ S.rest) (empty S d ed z)

    pub leave_none : {ms : List ℕ} → CountedEdges sources ws ms → CountedWalk sources ws ms
    unfolding walk_of
    leave_none E = walk_by sources [] S.rest none-words (E.edges [] S.rest none-words)

    pub join-none : {ms : List ℕ} → CountedWalk sources ws ms → CountedEdges sources ws ms
    unfolding walk_of
    join-none W = edges_by_lem sources [] S.rest none-words (W.walk [] S.rest none-words)

  module _ (ne : d ≡ 0 → ⊥) {x : ℕ} (ex : x ≡ get_or ws d 0) where
    abbrev under : List ℕ
    under = (upper S ed ne ex).under

    some_words : ws ≡ trial_words (reverse (x ∷ under)) ++ S.rest
    some_words = S.words ∙ ap (λ (l : List ℕ). trial_words (reverse l) ++ S.rest) (upper_stack S ed ne ex)

    pub top-counted : {ms : List ℕ} → CountedWalk sources ws ms → Counted (used_by sources under) ms
    unfolding walk_of
    top-counted W = W.walk (x ∷ under) S.rest some_words

    -- another last edge leaves the walk as it is; where it is taken off, the edges that are left are its walk
    pub replace_counts : {ms ws' : List ℕ} (o : ℕ) → ((p : List ℕ) (e : ℕ) (rest : List ℕ) → ws ≡ trial_words (p ++ e ∷ []) ++ rest → ws' ≡ trial_words (p ++ o ∷ []) ++ rest)
        → CountedWalk sources ws ms → CountedWalk sources ws' ms
    replace_counts o f W =
        let U = upper S ed ne ex in
        last_by sources under o S.rest (f (reverse under) U.edge S.rest (top-words S U)) (top-counted W)

    pub pop_counts : {ms ws' : List ℕ} → ((p : List ℕ) (e : ℕ) (rest : List ℕ) → ws ≡ trial_words (p ++ e ∷ []) ++ rest → ws' ≡ trial_words p ++ rest) → CountedWalk sources ws ms → CountedEdges sources ws' ms
    pop_counts f W =
        let U = upper S ed ne ex in
        edges_by_lem sources under S.rest (f (reverse under) U.edge S.rest (top-words S U)) (top-counted W)

    -- what `join` is given, and what it leaves
    pub join-given : {ms : List ℕ} → CountedWalk sources ws ms → (us : List ℕ) × (length us ≤ reduction_limit) × Counted us ms
    join-given W =
        (used_by sources under, omega (arith, used_few sources under, ap length (upper_stack S ed ne ex), S.short), top-counted W)

    pub join-top : {ms ms' : List ℕ} → CountedWalk sources ws ms → ((us : List ℕ) → Counted us ms → Counted (joined_by (get_or sources x 0) us) ms') → CountedEdges sources ws ms'
    unfolding used_by
    join-top W f = edges_by_lem sources (x ∷ under) S.rest some_words (f (used_by sources under) (top-counted W))

    -- `leave`
    module _ {ms : List ℕ} (E : CountedEdges sources ws ms) where
      all-counted : Counted (joined_by (get_or sources x 0) (used_by sources under)) ms
      all-counted = subst (λ (l : List ℕ). Counted l ms) (used-more sources x under) (E.edges (x ∷ under) S.rest some_words)

      pub leave_item : get_or sources x 0 ≡ 0 → CountedWalk sources ws ms
      unfolding walk_of
      leave_item z = walk_by sources (x ∷ under) S.rest some_words (leave_same sources x (used_by sources under) z all-counted)

      module _ {n : ℕ} (q : get_or sources x 0 ≡ suc n) where
        pub leave_counted : Counted (n ∷ used_by sources under) ms
        leave_counted = leave_by sources x (used_by sources under) q all-counted

        pub leave_nonterminal : n < nonterminal_limit → {y : ℕ} → y ≡ get_or ms n 0 → CountedWalk sources ws (set ms n (y - 1))
        unfolding walk_of
        leave_nonterminal h ey = walk_by sources (x ∷ under) S.rest some_words (counted_fewer h ey leave_counted)

-- one edge more: those before it are its walk
pub push_counts : (sources : List ℕ) {ws ms ws' : List ℕ} (S : Held ws) (e : ℕ) → ((p rest : List ℕ) → ws ≡ trial_words p ++ rest → ws' ≡ trial_words (p ++ e ∷ []) ++ rest)
    → CountedEdges sources ws ms → CountedWalk sources ws' ms
push_counts sources S e f E = last_by sources S.stack e S.rest (f (reverse S.stack) S.rest S.words) (E.edges S.stack S.rest S.words)

-- `count_walk`: the edges below the place are counted
within_part : (k : ℕ) (ws : List ℕ) (m j : ℕ) → j + m < length ws → Within k (stack_in ws (j + m)) → Within k (stack_in ws j)
within_part k ws zero j l w = rw (let e : j + 0 ≡ j = omega arith in e) at w
within_part k ws (suc m) j l w =
    let e : j + suc m ≡ suc (j + m) = omega arith in
    let v = rw (e, stack_more ws (j + m) (omega arith)) at w in
    within_part k ws m j (omega arith) (within-top k (get_or ws (suc (j + m)) 0) (stack_in ws (j + m)) v).1

walk-within : (k : ℕ) (st : List ℕ) → Within k st → Within k (walk_of st)
unfolding walk_of
walk-within k [] w = w
walk-within k (e ∷ st) w = (within-top k e st w).1

stack_few : (ws : List ℕ) (d : ℕ) → length (stack_in ws d) ≤ d
unfolding stack_in
stack_few ws d = omega (arith, length-reverse (take d (drop 1 ws)), length-take d (drop 1 ws))

pub record Joined (sources ws : List ℕ) (d : ℕ) (ms : List ℕ) (at : ℕ) : Type 0 where
  pub low : at ≤ d - 1
  pub counted : Counted (used_by sources (stack_in ws at)) ms

pub joined_first : (sources ws : List ℕ) (d : ℕ) {ms : List ℕ} → Counted [] ms → Joined sources ws d ms 0
unfolding stack_in used_by
joined_first sources ws d C = record { low = omega arith; counted = C }

module _ (sources : List ℕ) {ws : List ℕ} (S : Held ws) {d : ℕ} (ed : d ≡ get_or ws 0 0) where
  walk-read : stack_in ws (d - 1) ≡ walk_of S.stack
  unfolding walk_of stack_in
  walk-read = cases (eqb d 0)
      (λ q.
      let z = eqb-true d 0 q in
      let e : d - 1 ≡ 0 = omega arith in
      ap (stack_in ws) e ∙ sym (ap walk_of (empty S d ed z)))
      (λ q.
      let ne = eqb-false d 0 q in
      under_read S (upper S ed ne refl) d ed ∙ sym (ap walk_of (upper_stack S ed ne refl)))

  module _ {ms : List ℕ} {at : ℕ} (J : Joined sources ws d ms at) where
    pub joined_end : d ≤ at + 1 → CountedWalk sources ws ms
    joined_end n =
        let e : at ≡ d - 1 = omega (arith, J.low) in
        walk_by sources S.stack S.rest S.words (subst (λ (l : List ℕ). Counted (used_by sources l) ms) (ap (stack_in ws) e ∙ walk-read) J.counted)

    pub joined_given : (us : List ℕ) × (length us ≤ reduction_limit) × Counted us ms
    joined_given =
        (used_by sources (stack_in ws at), omega (arith, used_few sources (stack_in ws at), stack_few ws at, J.low, stack_depth S, S.short), J.counted)

    module _ (lt : at + 1 < d) {x : ℕ} (ex : x ≡ get_or ws (at + 1) 0) where
      joined_split : stack_in ws (at + 1) ≡ x ∷ stack_in ws at
      joined_split =
          let o : at + 1 ≡ suc at = omega arith in
          ap (stack_in ws) o ∙ stack_more ws at (omega (arith, stack_depth S, S.short, stack_long S)) ∙ ap (λ (y : ℕ). y ∷ stack_in ws at) (ap (λ (m : ℕ). get_or ws m 0) (sym o) ∙ sym ex)

      pub joined_edge : x < edge_limit
      joined_edge =
          let all = subst (Within edge_limit) (sym walk-read) (walk-within edge_limit S.stack S.edges) in
          let o : d - 1 ≡ (at + 1) + (d - 1 - (at + 1)) = omega arith in
          let part = within_part edge_limit ws (d - 1 - (at + 1)) (at + 1) (omega (arith, stack_depth S, S.short, stack_long S)) (subst (λ (j : ℕ). Within edge_limit (stack_in ws j)) o all) in
          (within-top edge_limit x (stack_in ws at) (subst (Within edge_limit) joined_split part)).0

      pub joined_again : {ms' : List ℕ} → ((us : List ℕ) → Counted us ms → Counted (joined_by (get_or sources x 0) us) ms') → Joined sources ws d ms' (at + 1)
      unfolding used_by
      joined_again {ms'} f = record {
        low = omega arith;
        counted = subst (λ (l : List ℕ). Counted (used_by sources l) ms') (sym joined_split) (f (used_by sources (stack_in ws at)) J.counted);
      }
