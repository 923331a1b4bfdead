-- The order of refusals: the first state at which one applies decides (`refused-first`), more than 128 states are always refused (`halted-stops`), and a state
-- found is tested the same whatever is found later (`stops_early`), so code may stop there; what is answered in full is what `canonical` speaks of
-- (`outcome-full`).
use mathlib.Core.Path.{◌≡◌, refl, sym, ap, ◌∙◌, subst}
use mathlib.Core.Bool.{true, false}
use mathlib.Core.List.{List, [], ◌∷◌, ◌++◌}
use mathlib.Core.Option.{Option, none, some}
use Prim.Native.Nat.{ℕ, zero, suc, ◌+◌, ◌*◌, ◌≤◌, ◌<◌, min}
use native.Mathlib.Omega.{arith}
use lib.Dec.{eqb, ltb}
use lib.ListN.{length, get_or, take, length-take}
use lib.Seq.{ext_get_or, get_or-take}
use borrow.Author.Tests.{eqb-true, eqb-false, ne_eqb, ltb-false}
use Rattle.lr1_base.specs.repr.Sizes.{index_limit, record_limit}
use Rattle.lr1_base.specs.repr.Lists.{below, first?}
use Rattle.lr1_base.specs.repr.Meaning.{Edge, Table, TableFits}
use Rattle.lr1_base.proofs.repr.Lists.{cases, clash}
use Rattle.lr1_base.proofs.repr.Tests.{first?-below_intro, first?-below-none}
use Rattle.lr1_states.specs.canonical.States.{Taken, Collected, built, halted, build, collect, tried, clashes}
use Rattle.lr1_states.specs.canonical.States
use Rattle.lr1_states.specs.canonical.Outcome.{sum, records, stops_at, number_of, states_of, Outcome, refused, full, finish, answer, outcome}
use Rattle.lr1_states.proofs.canonical.Collection.{Extends, extends_refl, extends_trans, take_extends, collect-done, collect-halts, collect-more, build-halted}

-- the test of state k

pub stops_128 : (T : Table) (room : ℕ) (Rs : List (List ℕ)) → stops_at T room Rs 128 ≡ true
unfolding stops_at
stops_128 T room Rs = refl

pub stops-other : (T : Table) (room : ℕ) (Rs : List (List ℕ)) (k : ℕ) → (k ≡ 128 → ⊥) → stops_at T room Rs k ≡ ltb (min room record_limit) (records T (take (suc k) Rs))
unfolding stops_at
stops-other T room Rs k n = rw (ne_eqb k 128 n, stops_at)

-- more states change no test of before

front_same : (Rs Qs : List (List ℕ)) (k : ℕ) → Extends Rs Qs → k < length Rs → take (suc k) Qs ≡ take (suc k) Rs
front_same Rs Qs k f h =
    let a : length (take (suc k) Qs) ≡ suc k = length-take (suc k) Qs ∙ omega (arith, f.long) in
    let b : length (take (suc k) Rs) ≡ suc k = length-take (suc k) Rs ∙ omega arith in
    ext_get_or [] (take (suc k) Qs) (take (suc k) Rs) (a ∙ sym b) (λ i l.
    let m : i < suc k = rw a at l in
    get_or-take (suc k) Qs i [] m ∙ f.same i (omega arith) ∙ sym (get_or-take (suc k) Rs i [] m))

pub stops-more : (T : Table) (room : ℕ) (Rs Qs : List (List ℕ)) (k : ℕ) → Extends Rs Qs → k < length Rs → stops_at T room Qs k ≡ stops_at T room Rs k
stops-more T room Rs Qs k f h =
    cases (eqb k 128)
    (λ t. rw (eqb-true k 128 t) (stops_128 T room Qs ∙ sym (stops_128 T room Rs)))
    (λ t.
    let n = eqb-false k 128 t in
    stops-other T room Qs k n ∙ ap (λ (l : List (List ℕ)). ltb (min room record_limit) (records T l)) (front_same Rs Qs k f h) ∙ sym (stops-other T room Rs k n))

pub collect_extends : (f : ℕ) (T : Table) (Rs : List (List ℕ)) (es : List (List Edge)) → Extends Rs (states_of (collect f T Rs es))
unfolding collect
collect_extends zero T Rs es = extends_refl Rs
collect_extends (suc f) T Rs es =
    let r : Taken = States.take T (get_or Rs (length es) []) Rs (tried T) in
    let ext : Extends Rs r.states = take_extends T (get_or Rs (length es) []) Rs (tried T) in
    let more = collect_extends f T r.states (es ++ r.edges ∷ []) in
    cases (ltb (length es) (length Rs))
    (λ t. cases (ltb 128 (length r.states))
    (λ u. subst (λ (b : Collected). Extends Rs (states_of b)) (sym (collect-halts T f Rs es t u)) ext)
    (λ u. subst (λ (b : Collected). Extends Rs (states_of b)) (sym (collect-more T f Rs es t u)) (extends_trans Rs r.states (states_of (collect f T r.states (es ++ r.edges ∷ []))) ext more)))
    (λ t. subst (λ (b : Collected). Extends Rs (states_of b)) (sym (collect-done T f Rs es t)) (extends_refl Rs))

-- whatever is still to be found from here on
pub stops_early : (T : Table) (room f : ℕ) (Rs : List (List ℕ)) (es : List (List Edge)) (k : ℕ) → k < length Rs → stops_at T room (states_of (collect f T Rs es)) k ≡ stops_at T room Rs k
stops_early T room f Rs es k h = stops-more T room Rs (states_of (collect f T Rs es)) k (collect_extends f T Rs es) h

-- the first decides

pub answer-some : (T : Table) (room words : ℕ) (b : Collected) (k : ℕ) → first? (stops_at T room (states_of b)) (below (length (states_of b))) ≡ some k → answer T room words b ≡ refused (number_of k)
unfolding answer
answer-some T room words b k h = rw (h, answer)

pub answer-none : (T : Table) (room words : ℕ) (b : Collected) → first? (stops_at T room (states_of b)) (below (length (states_of b))) ≡ none → answer T room words b ≡ finish T room words b
unfolding answer
answer-none T room words b h = rw (h, answer)

pub refused-first : (T : Table) (start room words k : ℕ) → k < length (states_of (build T start)) → stops_at T room (states_of (build T start)) k ≡ true
    → ((j : ℕ) → j < k → stops_at T room (states_of (build T start)) j ≡ false) → outcome T start room words ≡ refused (number_of k)
unfolding outcome
refused-first T start room words k h t n =
    answer-some T room words (build T start) k (first?-below_intro (stops_at T room (states_of (build T start))) (length (states_of (build T start))) k h t n)

pub halted-stops : (T : Table) (F : TableFits T) (start : ℕ) → start < length T.productions → (room : ℕ) (Rs : List (List ℕ)) → build T start ≡ halted Rs
    → first? (stops_at T room Rs) (below (length Rs)) ≡ none → ⊥
halted-stops T F start h room Rs e n =
    clash (stops_at T room Rs 128) (stops_128 T room Rs) (first?-below-none (stops_at T room Rs) (length Rs) 128 n (build-halted T F start h Rs e).1)

-- what is answered in full

unfoldable pub Means : Table → ℕ → ℕ → ℕ → Outcome → Type 0
Means T start room words (refused n) = Unit {0}
Means T start room words (full Rs es) =
    (build T start ≡ built Rs es) × (records T Rs + sum (λ (ds : List Edge). length ds) es ≤ min room record_limit) × (5 * sum (λ (S : List ℕ). length (clashes T S)) Rs ≤ words)

module _ (T : Table) (start room words : ℕ) where
  refused_means : (n : ℕ) → Means T start room words (refused n)
  unfolding Means
  refused_means n = tt

  module _ (Rs : List (List ℕ)) (es : List (List Edge)) where
    finish_edges : ltb (min room record_limit) (records T Rs + sum (λ (ds : List Edge). length ds) es) ≡ true → finish T room words (built Rs es) ≡ refused 17
    unfolding finish
    finish_edges t = rw (t, finish)

    finish_conflicts : ltb (min room record_limit) (records T Rs + sum (λ (ds : List Edge). length ds) es) ≡ false → ltb words (5 * sum (λ (S : List ℕ). length (clashes T S)) Rs) ≡ true
        → finish T room words (built Rs es) ≡ refused 17
    unfolding finish
    finish_conflicts t u = rw (t, u, finish)

    finish-full : ltb (min room record_limit) (records T Rs + sum (λ (ds : List Edge). length ds) es) ≡ false → ltb words (5 * sum (λ (S : List ℕ). length (clashes T S)) Rs) ≡ false
        → finish T room words (built Rs es) ≡ full Rs es
    unfolding finish
    finish-full t u = rw (t, u, finish)

    full_means : build T start ≡ built Rs es → records T Rs + sum (λ (ds : List Edge). length ds) es ≤ min room record_limit → 5 * sum (λ (S : List ℕ). length (clashes T S)) Rs ≤ words
        → Means T start room words (full Rs es)
    unfolding Means
    full_means e h l = (e, h, l)

  finish-halted : (Rs : List (List ℕ)) → finish T room words (halted Rs) ≡ refused 16
  unfolding finish
  finish-halted Rs = refl

  finish_means : (b : Collected) → build T start ≡ b → Means T start room words (finish T room words b)
  finish_means (halted Rs) e = subst (Means T start room words) (sym (finish-halted Rs)) (refused_means 16)
  finish_means (built Rs es) e =
      cases (ltb (min room record_limit) (records T Rs + sum (λ (ds : List Edge). length ds) es))
      (λ t. subst (Means T start room words) (sym (finish_edges Rs es t)) (refused_means index_limit))
      (λ t. cases (ltb words (5 * sum (λ (S : List ℕ). length (clashes T S)) Rs))
      (λ u. subst (Means T start room words) (sym (finish_conflicts Rs es t u)) (refused_means index_limit))
      (λ u. subst (Means T start room words) (sym (finish-full Rs es t u))
      (full_means Rs es e (ltb-false (min room record_limit) (records T Rs + sum (λ (ds : List Edge). length ds) es) t) (ltb-false words (5 * sum (λ (S : List ℕ). length (clashes T S)) Rs) u))))

  outcome_means : Means T start room words (outcome T start room words)
  unfolding outcome
  outcome_means = by (first? (stops_at T room (states_of (build T start))) (below (length (states_of (build T start))))) refl
    where
      by : (o : Option ℕ) → first? (stops_at T room (states_of (build T start))) (below (length (states_of (build T start)))) ≡ o → Means T start room words (answer T room words (build T start))
      by none q = subst (Means T start room words) (sym (answer-none T room words (build T start) q)) (finish_means (build T start) refl)
      by (some k) q = subst (Means T start room words) (sym (answer-some T room words (build T start) k q)) (refused_means (number_of k))

  pub outcome-full : (Rs : List (List ℕ)) (es : List (List Edge)) → outcome T start room words ≡ full Rs es
      → (build T start ≡ built Rs es) × (records T Rs + sum (λ (ds : List Edge). length ds) es ≤ min room record_limit) × (5 * sum (λ (S : List ℕ). length (clashes T S)) Rs ≤ words)
  unfolding Means
  outcome-full Rs es e = subst (Means T start room words) e outcome_means
