-- Numbers and edges in their order (docs/RULES.md, "Building states"): all targets, by state and as tried, meet new numbers one after the other (`found_in_order`); the edges of a state
-- stand as tried, one for each symbol over which something moves (`edges_as_tried`).
use mathlib.Core.Path.{◌≡◌, refl, sym, ap, ◌∙◌, subst}
use mathlib.Core.Bool.{not}
use mathlib.Core.List.{List, [], ◌∷◌, ◌++◌, map, append-nil}
use mathlib.Core.Logic.{inl, inr, ⊎_elim}
use Prim.Native.Nat.{ℕ, zero, suc, ◌≤◌, ◌<◌}
use native.Mathlib.Omega.{arith}
use lib.Dec.{ltb}
use lib.ListN.{length, get_or, length-append, get_or-append}
use lib.Seq.{get_or-append_seam}
use borrow.Author.Tests.{ltb-true, ltb-false}
use Rattle.lr1_base.specs.repr.Lists.{keep, joined}
use Rattle.lr1_base.specs.repr.Meaning.{Symbol, Edge, Table}
use Rattle.lr1_base.proofs.repr.Lists.{cases, keep-nil, keep-yes, keep_no, joined_nil, joined_cons, joined_append}
use Rattle.lr1_states.specs.canonical.Canonical.{InOrder}
use Rattle.lr1_states.specs.canonical.States.{moved, goto, nothing?, place, add, tried, Taken, take, Collected, built, halted, collect, build, start_state}
use Rattle.lr1_states.proofs.canonical.Collection.{Extends, take_extends, take-nil, take_none, take-some, place_le, add_old, add_new, length_snoc, collect-done, collect-halts, collect-more}

abbrev pub target : Edge → ℕ
target d = d.target

abbrev pub symbol : Edge → Symbol
symbol d = d.symbol

-- all targets, by state and as tried
abbrev pub targets : List (List Edge) → List ℕ
targets es = joined (λ (ds : List Edge). map target ds) es

order_append : (m k n : ℕ) (xs ys : List ℕ) → InOrder m xs k → InOrder k ys n → InOrder m (xs ++ ys) n
unfolding InOrder
order_append m k n [] ys f g = subst (λ (j : ℕ). InOrder j ys n) (sym f) g
order_append m k n (x ∷ xs) ys f g =
    let same : InOrder m xs k → InOrder m (xs ++ ys) n = λ f. order_append m k n xs ys f g in
    let more : InOrder (suc m) xs k → InOrder (suc m) (xs ++ ys) n = λ f. order_append (suc m) k n xs ys f g in
    ⊎_elim (λ w. inl (w.0, same w.1)) (λ w. inr (w.0, more w.1)) f

module _ (T : Table) (S : List ℕ) where
  take_order : (Rs : List (List ℕ)) (Xs : List Symbol) → InOrder (length Rs) (map target (take T S Rs Xs).edges) (length (take T S Rs Xs).states)
  unfolding InOrder
  take_order Rs [] = rw (take-nil T S Rs) refl
  take_order Rs (X ∷ Xs) =
      let same = take_order Rs Xs in
      let C : List ℕ = goto T X S in
      let more = take_order (add C Rs) Xs in
      cases (nothing? (moved T X S))
      (λ t. rw (take_none T S Rs X Xs t) same)
      (λ t. rw (take-some T S Rs X Xs t) (cases (ltb (place C Rs) (length Rs))
      (λ u. let h = ltb-true (place C Rs) (length Rs) u in inl (h, subst (λ (n : ℕ). InOrder n (map target (take T S (add C Rs) Xs).edges) (length (take T S (add C Rs) Xs).states)) (ap length (add_old C Rs h)) more))
      (λ u.
      let h = ltb-false (place C Rs) (length Rs) u in
      inr (omega (arith, place_le C Rs), subst (λ (n : ℕ). InOrder n (map target (take T S (add C Rs) Xs).edges) (length (take T S (add C Rs) Xs).states)) (ap length (add_new C Rs h) ∙ length_snoc C Rs) more))))

  take-tried : (Rs : List (List ℕ)) (Xs : List Symbol) → map symbol (take T S Rs Xs).edges ≡ keep (λ X. not (nothing? (moved T X S))) Xs
  take-tried Rs [] = rw (take-nil T S Rs) (sym (keep-nil (λ X. not (nothing? (moved T X S)))))
  take-tried Rs (X ∷ Xs) =
      let same = take-tried Rs Xs in
      let more = take-tried (add (goto T X S) Rs) Xs in
      cases (nothing? (moved T X S))
      (λ t. rw (take_none T S Rs X Xs t) (same ∙ sym (keep_no (λ X. not (nothing? (moved T X S))) X Xs (rw t))))
      (λ t. rw (take-some T S Rs X Xs t) (ap (λ (l : List Symbol). X ∷ l) more ∙ sym (keep-yes (λ X. not (nothing? (moved T X S))) X Xs (rw t))))

pub record Ordered (T : Table) (Rs : List (List ℕ)) (es : List (List Edge)) : Type 0 where
  pub order : InOrder 1 (targets es) (length Rs)
  pub tries : (k : ℕ) → k < length es → map symbol (get_or es k []) ≡ keep (λ X. not (nothing? (moved T X (get_or Rs k [])))) (tried T)
  pub taken : length es ≤ length Rs

unfoldable OrderedAnswer : Table → Collected → Type 0
OrderedAnswer T (halted Rs) = Unit {0}
OrderedAnswer T (built Rs es) = Ordered T Rs es

module _ (T : Table) where
  targets_more : (es : List (List Edge)) (ds : List Edge) → targets (es ++ ds ∷ []) ≡ targets es ++ map target ds
  targets_more es ds =
      joined_append (λ (ds : List Edge). map target ds) es (ds ∷ [])
      ∙ ap (λ (l : List ℕ). targets es ++ l) (joined_cons (λ (ds : List Edge). map target ds) ds [] ∙ ap (λ (l : List ℕ). map target ds ++ l) (joined_nil (λ (ds : List Edge). map target ds)) ∙ append-nil (map target ds))

  step_ordered : (Rs : List (List ℕ)) (es : List (List Edge)) → length es < length Rs → Ordered T Rs es
      → Ordered T (take T (get_or Rs (length es) []) Rs (tried T)).states (es ++ (take T (get_or Rs (length es) []) Rs (tried T)).edges ∷ [])
  step_ordered Rs es h w =
      let S : List ℕ = get_or Rs (length es) [] in
      let r : Taken = take T S Rs (tried T) in
      let ext : Extends Rs r.states = take_extends T S Rs (tried T) in
      let k : length (es ++ r.edges ∷ []) ≡ suc (length es) = length-append es (r.edges ∷ []) ∙ omega arith in
      record {
        order = rw (targets_more es r.edges) (order_append 1 (length Rs) (length r.states) (targets es) (map target r.edges) w.order (take_order T S Rs (tried T)));
        tries = λ j l. cases (ltb j (length es))
            (λ b.
            let u = ltb-true j (length es) b in
            let m : j < length Rs = omega arith in
            rw (get_or-append es (r.edges ∷ []) [] j u, ext.same j m) (w.tries j u))
            (λ b.
            let u = ltb-false j (length es) b in
            let q : j ≡ length es = omega (arith, k, l) in
            rw (q, get_or-append_seam es r.edges [] [], ext.same (length es) h) (take-tried T S Rs (tried T)));
        taken = omega (arith, k, h, ext.long);
      }

  answer-halted : (Rs : List (List ℕ)) → OrderedAnswer T (halted Rs)
  unfolding OrderedAnswer
  answer-halted Rs = tt

  answer-built : (Rs : List (List ℕ)) (es : List (List Edge)) → Ordered T Rs es → OrderedAnswer T (built Rs es)
  unfolding OrderedAnswer
  answer-built Rs es w = w

  collect_ordered : (f : ℕ) (Rs : List (List ℕ)) (es : List (List Edge)) → Ordered T Rs es → OrderedAnswer T (collect f T Rs es)
  unfolding collect
  collect_ordered zero Rs es w = answer-halted Rs
  collect_ordered (suc f) Rs es w =
      let r : Taken = take T (get_or Rs (length es) []) Rs (tried T) in
      let next = collect_ordered f r.states (es ++ r.edges ∷ []) in
      cases (ltb (length es) (length Rs))
      (λ t. cases (ltb 128 (length r.states))
      (λ u. subst (OrderedAnswer T) (sym (collect-halts T f Rs es t u)) (answer-halted r.states))
      (λ u. subst (OrderedAnswer T) (sym (collect-more T f Rs es t u)) (next (step_ordered Rs es (ltb-true (length es) (length Rs) t) w))))
      (λ t. subst (OrderedAnswer T) (sym (collect-done T f Rs es t)) (answer-built Rs es w))

  begin_ordered : (start : ℕ) → Ordered T (start_state T start ∷ []) []
  unfolding InOrder joined
  begin_ordered start = record { order = refl; tries = λ k h. absurd (omega arith); taken = omega arith }

  build_ordered : (start : ℕ) → OrderedAnswer T (build T start)
  unfolding build
  build_ordered start = collect_ordered 129 (start_state T start ∷ []) [] (begin_ordered start)

  ordered : (start : ℕ) (Rs : List (List ℕ)) (es : List (List Edge)) → build T start ≡ built Rs es → Ordered T Rs es
  unfolding OrderedAnswer
  ordered start Rs es e = subst (OrderedAnswer T) e (build_ordered start)

  pub found_in_order : (start : ℕ) (Rs : List (List ℕ)) (es : List (List Edge)) → build T start ≡ built Rs es → InOrder 1 (targets es) (length Rs)
  found_in_order start Rs es e = (ordered start Rs es e).order

  pub edges_as_tried : (start : ℕ) (Rs : List (List ℕ)) (es : List (List Edge)) → build T start ≡ built Rs es
      → (k : ℕ) → k < length es → map symbol (get_or es k []) ≡ keep (λ X. not (nothing? (moved T X (get_or Rs k [])))) (tried T)
  edges_as_tried start Rs es e = (ordered start Rs es e).tries
