-- Numbers merged (specs/Walk), and the walk from each state of a set, all merged.
use mathlib.Core.Path.{◌≡◌, sym, ap, ◌∙◌}
use mathlib.Core.Bool.{Bool, true, false, ◌||◌, and-false}
use mathlib.Core.List.{List, [], ◌∷◌, ◌++◌}
use Prim.Native.Nat.{ℕ, suc, ◌+◌, ◌≤◌, ◌<◌}
use native.Mathlib.Nat.{add_comm}
use native.Mathlib.Omega.{arith}
use lib.Dec.{eqb, ltb}
use lib.ListN.{length, get_or}
use borrow.Author.Tests.{eqb-true, ne_eqb, lt-ltb, ltb-false}
use Rattle.lr1_base.specs.repr.Lists.{below, mem, keep, joined}
use Rattle.lr1_base.specs.repr.Meaning.{Symbol, Table}
use Rattle.lr1_base.proofs.repr.Lists.{cases, clash, mem-nil, mem_no, mem-append, mem-keep, mem_below, keep_agree, joined_nil, joined_cons}
use Rattle.state_graph.specs.Walk.{Ascending, leads, predecessors, walked_back, traced_back, above, merged}
use Rattle.state_graph.proofs.Exact.{kept-ascending, leads-outside, walk-nil, walk-cons, walk_exact, walk-append, walk-union}
use Rattle.state_graph.proofs.States.{one_of_range}
use Rattle.state_graph.proofs.Steps.{range_more}

mem-above : (n : ℕ) (ns : List ℕ) → mem n ns ≡ true → n < above ns
unfolding above
mem-above n [] e = clash (mem n []) e (mem-nil n)
mem-above n (m ∷ ns) e =
    cases (eqb n m)
    (λ q. let p = eqb-true n m q in omega arith)
    (λ q. let p = mem-above n ns (sym (mem_no n m ns q) ∙ e) in omega arith)

above-none : (ns : List ℕ) (n : ℕ) → above ns ≤ n → mem n ns ≡ false
above-none ns n h = cases (mem n ns) (λ y. let l = mem-above n ns y in absurd (omega arith)) (λ z. z)

-- two tests that agree keep the same, up to wherever nothing passes any more
kept_same : (t u : ℕ → Bool) (a b : ℕ) → ((k : ℕ) → t k ≡ u k) → ((k : ℕ) → a ≤ k → t k ≡ false) → ((k : ℕ) → b ≤ k → u k ≡ false) → keep t (below a) ≡ keep u (below b)
kept_same t u a b e f g =
    sym (range_more t a b f)
    ∙ keep_agree t u (below (a + b)) 0 (λ i l. e (get_or (below (a + b)) i 0))
    ∙ ap (λ (n : ℕ). keep u (below n)) (add_comm a b)
    ∙ range_more u b a g

-- it goes by membership, which it keeps; it is ascending, so each once
pub merged_same : (us vs : List ℕ) → ((k : ℕ) → mem k us ≡ mem k vs) → merged us ≡ merged vs
unfolding merged
merged_same us vs h = kept_same (λ k. mem k us) (λ k. mem k vs) (above us) (above vs) h (above-none us) (above-none vs)

pub merged-mem : (ns : List ℕ) (k : ℕ) → mem k (merged ns) ≡ mem k ns
unfolding merged
merged-mem ns k =
    mem-keep (λ n. mem n ns) k (below (above ns)) ∙ rw (mem_below k (above ns))
    (cases (mem k ns)
    (λ y. rw (y, lt-ltb k (above ns) (mem-above k ns y)))
    (λ z. rw z (and-false (ltb k (above ns)))))

pub merged-ascending : (ns : List ℕ) → Ascending (merged ns)
unfolding merged below
merged-ascending ns = kept-ascending (λ n. mem n ns) 0 (above ns)

-- what is ascending already
merged-kept : (t : ℕ → Bool) (n : ℕ) → ((k : ℕ) → n ≤ k → t k ≡ false) → keep t (below n) ≡ merged (keep t (below n))
unfolding merged
merged-kept t n f =
    kept_same t (λ k. mem k (keep t (below n))) n (above (keep t (below n)))
    (λ k. sym (mem-keep t k (below n) ∙ rw (mem_below k n) (cases (ltb k n) (λ y. rw y) (λ z. rw z (sym (f k (ltb-false k n z)))))))
    f
    (above-none (keep t (below n)))

merged_one : (s : ℕ) → s ∷ [] ≡ merged (s ∷ [])
unfolding below
merged_one s = rw (← one_of_range s 0 (suc s) (omega arith) (omega arith)) (merged-kept (λ k. eqb k s) (suc s) (λ k h. ne_eqb k s (omega arith)))

module _ (T : Table) where
  merged-walk : (s : ℕ) (xs : List Symbol) → walked_back T (s ∷ []) xs ≡ merged (walked_back T (s ∷ []) xs)
  unfolding predecessors
  merged-walk s [] = rw (walk-nil T (s ∷ [])) (merged_one s)
  merged-walk s (x ∷ xs) =
      rw (walk-cons T (s ∷ []) x xs) (merged-kept (leads T x (walked_back T (s ∷ []) xs)) (length T.states) (leads-outside T x (walked_back T (s ∷ []) xs)))

  -- from no state
  walk_none : (xs : List Symbol) (p : ℕ) → mem p (walked_back T [] xs) ≡ false
  walk_none xs p =
      cases (mem p (walked_back T [] xs))
      (λ y. let r = (walk_exact T [] xs p).0 y in clash (mem r.0 []) r.1 (mem-nil r.0))
      (λ z. z)

  -- from each state of a set
  walk_each : (ss : List ℕ) (xs : List Symbol) (p : ℕ) → mem p (walked_back T ss xs) ≡ mem p (joined (λ q. traced_back T q xs) ss)
  unfolding traced_back
  walk_each [] xs p = walk_none xs p ∙ sym (ap (mem p) (joined_nil (λ q. walked_back T (q ∷ []) xs)) ∙ mem-nil p)
  walk_each (s ∷ ss) xs p =
      walk-union T (s ∷ []) ss xs p ∙ ap (λ (b : Bool). mem p (walked_back T (s ∷ []) xs) || b) (walk_each ss xs p)
      ∙ sym (ap (mem p) (joined_cons (λ q. walked_back T (q ∷ []) xs) s ss) ∙ mem-append p (walked_back T (s ∷ []) xs) (joined (λ q. walked_back T (q ∷ []) xs) ss))

  -- back over two lists of symbols joined: over the second and, from each state found, over the first, all merged
  pub trace_append : (s : ℕ) (xs ys : List Symbol) → traced_back T s (xs ++ ys) ≡ merged (joined (λ q. traced_back T q xs) (traced_back T s ys))
  unfolding traced_back
  trace_append s xs ys =
      merged-walk s (xs ++ ys)
      ∙ merged_same (walked_back T (s ∷ []) (xs ++ ys)) (joined (λ q. traced_back T q xs) (walked_back T (s ∷ []) ys))
      (λ p. ap (mem p) (walk-append T (s ∷ []) xs ys) ∙ walk_each (walked_back T (s ∷ []) ys) xs p)
