-- Stopping where a state is refused answers what `outcome` answers (`outcome_steps`).
use Rattle.std.proofs.Common.{◌≡◌, ℕ, zero, suc, ◌+◌, ◌<◌, ◌≤◌, true, false, eqb, ltb, List, [], ◌∷◌, ◌++◌, length, get_or, sym, refl, ap, ◌∙◌, subst, arith, length-append, ltb-false, ltb-true, le-ltb, lt-ltb, eqb-true}
use mathlib.Core.Option.{Option, none, some}
use lib.ListN.{get_or-append}
use borrow.Author.Tests.{eqb-false}
use Rattle.lr1_base.specs.repr.Lists.{below, first?}
use Rattle.lr1_base.specs.repr.Meaning.{Symbol, Edge, Table}
use Rattle.lr1_base.proofs.repr.Lists.{cases, clash}
use Rattle.lr1_base.proofs.repr.Tests.{first?-below, first?-below_intro}
use Rattle.lr1_states.specs.canonical.States.{moved, nothing?, goto, place, tried, Taken, take, Collected, built, collect, build, start_state}
use Rattle.lr1_states.specs.canonical.Outcome.{stops_at, number_of, states_of, refused, finish, answer, outcome}
use Rattle.lr1_states.proofs.canonical.Collection.{Extends, take_extends, take-nil, take_none, take-some, collect-done, collect-halts, collect-more, add_old, add_new, length_snoc}
use Rattle.lr1_states.proofs.canonical.Refusals.{stops_128, stops-more, collect_extends, answer-some, answer-none}
use Rattle.lr1_states.specs.goto.Steps.{nowhere, stops, reach, add_to, goto_to, Told, stopped, told, behind, take_to, Found, halts, found, collect_to, found_to, finish_to}

-- no state so far is refused
abbrev Passes : Table → ℕ → List (List ℕ) → Type 0
Passes T room Rs = (k : ℕ) → k < length Rs → stops_at T room Rs k ≡ false

-- the first that is, among those of Qs
record Stops (T : Table) (room : ℕ) (Qs : List (List ℕ)) (n : ℕ) : Type 0 where
  k : ℕ
  within : k < length Qs
  here : stops_at T room Qs k ≡ true
  before : (j : ℕ) → j < k → stops_at T room Qs j ≡ false
  is : n ≡ number_of k

stops_extends : (T : Table) (room : ℕ) (Qs Ps : List (List ℕ)) (n : ℕ) → Extends Qs Ps → Stops T room Qs n → Stops T room Ps n
stops_extends T room Qs Ps n f s = record {
  k = s.k;
  within = omega (arith, s.within, f.long);
  here = stops-more T room Qs Ps s.k f s.within ∙ s.here;
  before = λ j h. stops-more T room Qs Ps j f (omega (arith, s.within)) ∙ s.before j h;
  is = s.is;
}

-- one state more

module _ (T : Table) (room : ℕ) (C : List ℕ) (Rs : List (List ℕ)) where
  pub to_old : place C Rs < length Rs → add_to T room C Rs ≡ reach (place C Rs) Rs
  unfolding add_to
  to_old h = rw (lt-ltb (place C Rs) (length Rs) h, add_to)

  pub to_full : length Rs ≤ place C Rs → stops_at T room (Rs ++ C ∷ []) (length Rs) ≡ true → add_to T room C Rs ≡ stops (number_of (length Rs))
  unfolding add_to
  to_full h t = rw (le-ltb (place C Rs) (length Rs) h, t, add_to)

  pub to_new : length Rs ≤ place C Rs → stops_at T room (Rs ++ C ∷ []) (length Rs) ≡ false → add_to T room C Rs ≡ reach (place C Rs) (Rs ++ C ∷ [])
  unfolding add_to
  to_new h t = rw (le-ltb (place C Rs) (length Rs) h, t, add_to)

  snoc_extends : Extends Rs (Rs ++ C ∷ [])
  snoc_extends = record { long = rw (length_snoc C Rs) (omega arith); same = λ t h. get_or-append Rs (C ∷ []) [] t h }

  snoc_passes : Passes T room Rs → stops_at T room (Rs ++ C ∷ []) (length Rs) ≡ false → Passes T room (Rs ++ C ∷ [])
  snoc_passes P t k h =
      let h' : k < suc (length Rs) = rw (length_snoc C Rs) at h in
      cases (eqb k (length Rs))
      (λ u. rw (eqb-true k (length Rs) u) t)
      (λ u. let z = eqb-false k (length Rs) u in let l : k < length Rs = omega (arith, z) in stops-more T room Rs (Rs ++ C ∷ []) k snoc_extends l ∙ P k l)

  snoc_stops : Passes T room Rs → stops_at T room (Rs ++ C ∷ []) (length Rs) ≡ true → Stops T room (Rs ++ C ∷ []) (number_of (length Rs))
  snoc_stops P t = record {
    k = length Rs;
    within = rw (length_snoc C Rs) (omega arith);
    here = t;
    before = λ j h. stops-more T room Rs (Rs ++ C ∷ []) j snoc_extends h ∙ P j h;
    is = refl;
  }

-- over one symbol
module _ (T : Table) (room : ℕ) (S : List ℕ) (Rs : List (List ℕ)) (X : Symbol) where
  pub goto-none : nothing? (moved T X S) ≡ true → goto_to T room S Rs X ≡ nowhere
  unfolding goto_to
  goto-none t = rw (t, goto_to)

  pub goto-some : nothing? (moved T X S) ≡ false → goto_to T room S Rs X ≡ add_to T room (goto T X S) Rs
  unfolding goto_to
  goto-some t = rw (t, goto_to)

  module _ (Xs : List Symbol) where
    pub to_nowhere : goto_to T room S Rs X ≡ nowhere → take_to T room S Rs (X ∷ Xs) ≡ take_to T room S Rs Xs
    unfolding take_to
    to_nowhere e = rw (e, take_to)

    pub to_stops : (n : ℕ) → goto_to T room S Rs X ≡ stops n → take_to T room S Rs (X ∷ Xs) ≡ stopped n
    unfolding take_to
    to_stops n e = rw (e, take_to)

    pub to_reach : (t : ℕ) (Qs : List (List ℕ)) → goto_to T room S Rs X ≡ reach t Qs → take_to T room S Rs (X ∷ Xs) ≡ behind (record { symbol = X; target = t } ∷ []) (take_to T room S Qs Xs)
    unfolding take_to
    to_reach t Qs e = rw (e, take_to)

-- a state taken as `take` takes it
unfoldable Follows : Table → ℕ → Told → Taken → Type 0
Follows T room (stopped n) r = Stops T room r.states n
Follows T room (told Qs ds) r = (r ≡ record { states = Qs; edges = ds }) × Passes T room Qs

follows_edge : (T : Table) (room : ℕ) (d : Edge) (w : Told) (r : Taken) → Follows T room w r → Follows T room (behind (d ∷ []) w) (record { states = r.states; edges = d ∷ r.edges })
unfolding Follows behind
follows_edge T room d (stopped n) r f = f
follows_edge T room d (told Qs ds) r f = (ap (λ (q : Taken). record { states = q.states; edges = d ∷ q.edges }) f.0, f.1)

follows_stops : (T : Table) (room n : ℕ) (r : Taken) → Stops T room r.states n → Follows T room (stopped n) r
unfolding Follows
follows_stops T room n r f = f

take_to_lem : (T : Table) (room : ℕ) (S : List ℕ) (Rs : List (List ℕ)) (Xs : List Symbol) → Passes T room Rs → Follows T room (take_to T room S Rs Xs) (take T S Rs Xs)
unfolding take_to Follows
take_to_lem T room S Rs [] P = (take-nil T S Rs, P)
take_to_lem T room S Rs (X ∷ Xs) P =
    let C : List ℕ = goto T X S in
    let here = take_to_lem T room S Rs Xs in
    let more = take_to_lem T room S (Rs ++ goto T X S ∷ []) Xs in
    let d : Edge = record { symbol = X; target = place (goto T X S) Rs } in
    cases (nothing? (moved T X S))
    (λ t. rw (to_nowhere T room S Rs X Xs (goto-none T room S Rs X t), take_none T S Rs X Xs t) (here P))
    (λ t.
    let g = goto-some T room S Rs X t in
    rw (take-some T S Rs X Xs t) (cases (ltb (place (goto T X S) Rs) (length Rs))
    (λ u.
    let h = ltb-true (place (goto T X S) Rs) (length Rs) u in
    rw (to_reach T room S Rs X Xs (place (goto T X S) Rs) Rs (g ∙ to_old T room (goto T X S) Rs h), add_old (goto T X S) Rs h) (follows_edge T room d (take_to T room S Rs Xs) (take T S Rs Xs) (here P)))
    (λ u.
    let h = ltb-false (place (goto T X S) Rs) (length Rs) u in
    rw (add_new (goto T X S) Rs h) (cases (stops_at T room (Rs ++ goto T X S ∷ []) (length Rs))
    (λ v.
    rw (to_stops T room S Rs X Xs (number_of (length Rs)) (g ∙ to_full T room (goto T X S) Rs h v))
    (follows_stops T room (number_of (length Rs)) (record { states = (take T S (Rs ++ goto T X S ∷ []) Xs).states; edges = d ∷ (take T S (Rs ++ goto T X S ∷ []) Xs).edges })
    (stops_extends T room (Rs ++ goto T X S ∷ []) (take T S (Rs ++ goto T X S ∷ []) Xs).states (number_of (length Rs)) (take_extends T S (Rs ++ goto T X S ∷ []) Xs) (snoc_stops T room (goto T X S) Rs P v))))
    (λ v.
    rw (to_reach T room S Rs X Xs (place (goto T X S) Rs) (Rs ++ goto T X S ∷ []) (g ∙ to_new T room (goto T X S) Rs h v))
    (follows_edge T room d (take_to T room S (Rs ++ goto T X S ∷ []) Xs) (take T S (Rs ++ goto T X S ∷ []) Xs) (more (snoc_passes T room (goto T X S) Rs P v))))))))

-- all states as `collect` finds them

passes_few : (T : Table) (room : ℕ) (Rs : List (List ℕ)) → Passes T room Rs → length Rs ≤ 128
passes_few T room Rs P =
    cases (ltb 128 (length Rs))
    (λ t. clash (stops_at T room Rs 128) (stops_128 T room Rs) (P 128 (ltb-true 128 (length Rs) t)))
    (λ t. ltb-false 128 (length Rs) t)

module _ (f : ℕ) (T : Table) (room : ℕ) (Rs : List (List ℕ)) (es : List (List Edge)) where
  pub to_end : length Rs ≤ length es → collect_to (suc f) T room Rs es ≡ found Rs es
  unfolding collect_to
  to_end h = rw (le-ltb (length es) (length Rs) h, collect_to)

  pub to_halt : length es < length Rs → (n : ℕ) → take_to T room (get_or Rs (length es) []) Rs (tried T) ≡ stopped n → collect_to (suc f) T room Rs es ≡ halts n
  unfolding collect_to
  to_halt h n e = rw (lt-ltb (length es) (length Rs) h, e, collect_to)

  pub to_more : length es < length Rs → (Qs : List (List ℕ)) (ds : List Edge) → take_to T room (get_or Rs (length es) []) Rs (tried T) ≡ told Qs ds → collect_to (suc f) T room Rs es ≡ collect_to f T room Qs (es ++ ds ∷ [])
  unfolding collect_to
  to_more h Qs ds e = rw (lt-ltb (length es) (length Rs) h, e, collect_to)

unfoldable FollowsAll : Table → ℕ → Found → Collected → Type 0
FollowsAll T room (halts n) b = Stops T room (states_of b) n
FollowsAll T room (found Qs ds) b = (b ≡ built Qs ds) × Passes T room Qs

all-halts : (T : Table) (room n : ℕ) (b : Collected) → Stops T room (states_of b) n → FollowsAll T room (halts n) b
unfolding FollowsAll
all-halts T room n b s = s

all_found : (T : Table) (room : ℕ) (Qs : List (List ℕ)) (ds : List (List Edge)) (b : Collected) → b ≡ built Qs ds → Passes T room Qs → FollowsAll T room (found Qs ds) b
unfolding FollowsAll
all_found T room Qs ds b e P = (e, P)

edges_one : (es : List (List Edge)) (ds : List Edge) → length (es ++ ds ∷ []) ≡ suc (length es)
edges_one es ds = length-append es (ds ∷ []) ∙ omega arith

stopped-out : (T : Table) (room n : ℕ) (r : Taken) → Follows T room (stopped n) r → Stops T room r.states n
unfolding Follows
stopped-out T room n r s = s

told-out : (T : Table) (room : ℕ) (Qs : List (List ℕ)) (ds : List Edge) (r : Taken) → Follows T room (told Qs ds) r → (r ≡ record { states = Qs; edges = ds }) × Passes T room Qs
unfolding Follows
told-out T room Qs ds r s = s

collect_to_lem : (f : ℕ) (T : Table) (room : ℕ) (Rs : List (List ℕ)) (es : List (List Edge)) → Passes T room Rs → length es ≤ length Rs → f + length es ≡ 129 → FollowsAll T room (collect_to f T room Rs es) (collect f T Rs es)
collect_to_lem zero T room Rs es P l q = absurd (omega (arith, passes_few T room Rs P))
collect_to_lem (suc f) T room Rs es P l q =
    cases (ltb (length es) (length Rs))
    (λ t. by (take_to T room (get_or Rs (length es) []) Rs (tried T)) refl (take_to_lem T room (get_or Rs (length es) []) Rs (tried T) P) t (λ Qs ds. collect_to_lem f T room Qs (es ++ ds ∷ [])))
    (λ t. rw (to_end f T room Rs es (ltb-false (length es) (length Rs) t)) (all_found T room Rs es (collect (suc f) T Rs es) (collect-done T f Rs es t) P))
  where
    r : Taken
    r = take T (get_or Rs (length es) []) Rs (tried T)

    after : (n : ℕ) → Stops T room r.states n → ltb (length es) (length Rs) ≡ true → Stops T room (states_of (collect (suc f) T Rs es)) n
    after n s t =
        cases (ltb 128 (length r.states))
        (λ u. subst (λ (b : Collected). Stops T room (states_of b) n) (sym (collect-halts T f Rs es t u)) s)
        (λ u. subst (λ (b : Collected). Stops T room (states_of b) n) (sym (collect-more T f Rs es t u)) (stops_extends T room r.states (states_of (collect f T r.states (es ++ r.edges ∷ []))) n (collect_extends f T r.states (es ++ r.edges ∷ [])) s))

    by : (w : Told) → take_to T room (get_or Rs (length es) []) Rs (tried T) ≡ w → Follows T room w r → ltb (length es) (length Rs) ≡ true
        → ((Qs : List (List ℕ)) (ds : List Edge) → Passes T room Qs → length (es ++ ds ∷ []) ≤ length Qs → f + length (es ++ ds ∷ []) ≡ 129 → FollowsAll T room (collect_to f T room Qs (es ++ ds ∷ [])) (collect f T Qs (es ++ ds ∷ [])))
        → FollowsAll T room (collect_to (suc f) T room Rs es) (collect (suc f) T Rs es)
    by (stopped n) e s t more = rw (to_halt f T room Rs es (ltb-true (length es) (length Rs) t) n e) (all-halts T room n (collect (suc f) T Rs es) (after n (stopped-out T room n r s) t))
    by (told Qs ds) e s t more =
        let w = told-out T room Qs ds r s in
        let few = passes_few T room Qs w.1 in
        let ext : Extends Rs r.states = take_extends T (get_or Rs (length es) []) Rs (tried T) in
        let st : r.states ≡ Qs = ap (λ (q : Taken). q.states) w.0 in
        let ed : r.edges ≡ ds = ap (λ (q : Taken). q.edges) w.0 in
        let long : length Rs ≤ length Qs = rw st at ext.long in
        let small : ltb 128 (length r.states) ≡ false = rw st (le-ltb 128 (length Qs) few) in
        let h = ltb-true (length es) (length Rs) t in
        rw (to_more f T room Rs es h Qs ds e, collect-more T f Rs es t small, st, ed)
        (more Qs ds w.1 (rw (edges_one es ds) (omega arith)) (rw (edges_one es ds) (omega arith)))

-- what is answered

answer-stops : (T : Table) (room words n : ℕ) (b : Collected) → Stops T room (states_of b) n → answer T room words b ≡ refused n
answer-stops T room words n b s =
    answer-some T room words b s.k (first?-below_intro (stops_at T room (states_of b)) (length (states_of b)) s.k s.within s.here s.before) ∙ ap refused (sym s.is)

answer-passes : (T : Table) (room words : ℕ) (b : Collected) → Passes T room (states_of b) → answer T room words b ≡ finish T room words b
answer-passes T room words b P = by (first? (stops_at T room (states_of b)) (below (length (states_of b)))) refl
  where
    by : (o : Option ℕ) → first? (stops_at T room (states_of b)) (below (length (states_of b))) ≡ o → answer T room words b ≡ finish T room words b
    by none q = answer-none T room words b q
    by (some k) q = let w = first?-below (stops_at T room (states_of b)) (length (states_of b)) k q in clash (stops_at T room (states_of b) k) w.1 (P k w.0)

module _ (T : Table) (start room : ℕ) where
  pub first-full : stops_at T room (start_state T start ∷ []) 0 ≡ true → found_to T start room ≡ halts (number_of 0)
  unfolding found_to
  first-full t = rw (t, found_to)

  pub first_fits : stops_at T room (start_state T start ∷ []) 0 ≡ false → found_to T start room ≡ collect_to 129 T room (start_state T start ∷ []) []
  unfolding found_to
  first_fits t = rw (t, found_to)

  followed : (words : ℕ) (w : Found) (b : Collected) → FollowsAll T room w b → answer T room words b ≡ finish_to T room words w
  unfolding finish_to FollowsAll
  followed words (halts n) b s = answer-stops T room words n b s
  followed words (found Qs ds) b s = rw s.0 (answer-passes T room words (built Qs ds) s.1)

  pub outcome_steps : (words : ℕ) → outcome T start room words ≡ finish_to T room words (found_to T start room)
  unfolding outcome build finish_to
  outcome_steps words =
      cases (stops_at T room (start_state T start ∷ []) 0)
      (λ t. rw (first-full t) (answer-stops T room words (number_of 0) (build T start)
      (stops_extends T room (start_state T start ∷ []) (states_of (build T start)) (number_of 0) (collect_extends 129 T (start_state T start ∷ []) []) (record {
        k = 0;
        within = omega arith;
        here = t;
        before = λ j h. absurd (omega arith);
        is = refl;
      }))))
      (λ t. rw (first_fits t) (followed words (collect_to 129 T room (start_state T start ∷ []) []) (build T start) (collect_to_lem 129 T room (start_state T start ∷ []) []
      (λ k h. let q : k ≡ 0 = omega arith in rw q t) (omega arith) (omega arith))))
