-- The second half of what holds of whole lists of calls (docs/RULES.md, "Listing"): what the plain lister hands out, in which order, and what its counts are (`Handed` of specs/trials/Told).
use Rattle.std.proofs.Common.{◌≡◌, ℕ, ◌+◌, ◌-◌, ◌<◌, ◌≤◌, Bool, true, false, ◌&&◌, eqb, ◌⊎◌, List, [], ◌∷◌, ◌++◌, map, length, take, drop, sym, refl, ap, ◌∙◌, subst, inl, inr, true≢false, append_assoc, append-nil, arith, take-append-drop}
use mathlib.Core.List.Memᴰ
use mathlib.Core.List.{append_cancel_right, Memᴰ}
use mathlib.Core.Option.{Option}
use lib.Seq.{take-length, drop-length}
use borrow.Author.Tests.{eqb-false}
use Rattle.lr1_base.specs.repr.Sizes.{trial_limit}
use Rattle.lr1_base.specs.repr.Lists.{keep, every?}
use Rattle.lr1_base.specs.repr.Meaning.{Table, Item}
use Rattle.lr1_base.proofs.repr.Lists.{cases, keep-nil, keep-yes, keep_no, keep_append}
use Rattle.trace_graph.specs.Graph.{at_item, TraceEdge}
use Rattle.enumerator.specs.trials.Trials.{Path, Before, ends_of, trials, is_example_in, IsTrial, AllPaths, Increasing, Small}
use Rattle.enumerator.specs.trials.Lister.{Call, enough, passes, hands, says, Found, hit, out, over, search, Answer, example, end, refused, Out, Plain, fresh, found_out, found_then, plain_find, plain_out, plain_then, plain_run, plain_lister}
use Rattle.enumerator.specs.trials.Told.{plainly, path_lister, spoken, handed, ends, ends_at, answers, count_after, EndsAgain, Closed, NumberedAt, Numbered, IsHanded, Handed}
use Rattle.lr1_base.proofs.laws.Bools.{and_left, and_right, both}
use Rattle.enumerator.proofs.trials.After.{drop_more}
use Rattle.enumerator.proofs.trials.Search.{Finds, finds}
use Rattle.enumerator.proofs.trials.Examples.{examples_ordered, examples_exact}
use Rattle.enumerator.proofs.trials.Meeting.{passes-meets}
use Rattle.enumerator.proofs.trials.Unique.{trials_are, trials-only}

-- the answers in words are those in paths, each path said
spoken-found : (say : Path → List ℕ) (F : Found) → found_out say F ≡ spoken say (found_out plainly F)
unfolding found_out
spoken-found say (hit n p) = refl
spoken-found say (out n) = refl
spoken-found say over = refl

module _ (t : Path → Bool) (say : Path → List ℕ) (ts : List Path) where
  spoken-out : (b o : Bool) (s : Plain) → plain_out t say ts b o s ≡ spoken say (plain_out t plainly ts b o s)
  unfolding plain_out plain_find
  spoken-out false o s = refl
  spoken-out true false s = refl
  spoken-out true true s = spoken-found say (search t (trial_limit - s.count) s.count (drop s.count ts))

  spoken-then : (b o : Bool) (s : Plain) → plain_then t say ts b o s ≡ plain_then t plainly ts b o s
  unfolding plain_then plain_find
  spoken-then false o s = refl
  spoken-then true false s = refl
  spoken-then true true s = refl

  pub spoken-run : (cs : List Call) (s : Plain) → plain_run t say ts cs s ≡ map (spoken say) (plain_run t plainly ts cs s)
  unfolding plain_run
  spoken-run [] s = refl
  spoken-run (c ∷ cs) s =
      let a = spoken-out (enough c) s.is_open s in
      let b =
      ap (λ (x : Plain). plain_run t say ts cs x) (spoken-then (enough c) s.is_open s) ∙ spoken-run cs (plain_then t plainly ts (enough c) s.is_open s) in
      cc

-- the count of a closed listing stays; at the end it is that of all trials, at 13 it is 100,000
closed_count : (c : ℕ) (os : List Out) → Closed c os → count_after c os ≡ c
closed_count c [] k = refl
closed_count c (o ∷ os) k = rw k.0 (closed_count c os k.2)

closed-goes_on : (c : ℕ) (os : List Out) → Closed c os → Memᴰ (refused 13) (answers os) → ⊥
closed-goes_on c [] k m = Memᴰ.not-nil m
closed-goes_on c (o ∷ os) k m = by (closed-goes_on c os k.2) o.answer k.1 (Memᴰ.cases_cons m)
  where
    by : (Memᴰ (refused 13) (answers os) → ⊥) → (a : Answer) → EndsAgain a → (refused 13 ≡ a) ⊎ Memᴰ (refused 13) (answers os) → ⊥
    by ih (example p) e m = e
    by ih end e (inl r) = let z : ◌≡◌ {A = ℕ} 0 1 = cc in omega arith
    by ih end e (inr m) = ih m
    by ih (refused n) e (inl r) = let z : ◌≡◌ {A = ℕ} 13 n = cc in omega arith
    by ih (refused n) e (inr m) = ih m

ends_count : (ts : List Path) (c : ℕ) (os : List Out) → Numbered ts c os → ends os ≡ true → count_after c os ≡ length ts
ends_count ts c [] k e = absurd (true≢false (sym e))
ends_count ts c (o ∷ os) k e = by (ends_count ts o.count os) o.answer k e
  where
    by : (Numbered ts o.count os → ends os ≡ true → count_after o.count os ≡ length ts) → (a : Answer)
        → NumberedAt ts c a o.count (Numbered ts o.count os) (Closed o.count os) → ends_at a (ends os) ≡ true → count_after o.count os ≡ length ts
    by ih (example p) k e = ih k.1 e
    by ih end k e = closed_count o.count os k.1 ∙ k.0
    by ih (refused n) k e = go (eqb n 13) k e
      where
        go : (b : Bool)
            → elim b as (λ x. Type 0) [ true ↦ (o.count ≡ trial_limit) × (trial_limit < length ts) × Closed o.count os | false ↦ (n ≡ 11) × (o.count ≡ c) × Numbered ts o.count os ]
            → elim b as (λ x. Bool) [ true ↦ false | false ↦ ends os ] ≡ true → count_after o.count os ≡ length ts
        go true k e = absurd (true≢false (sym e))
        go false k e = ih k.2 e

stops_count : (ts : List Path) (c : ℕ) (os : List Out) → Numbered ts c os → Memᴰ (refused 13) (answers os) → count_after c os ≡ trial_limit
stops_count ts c [] k m = absurd (Memᴰ.not-nil m)
stops_count ts c (o ∷ os) k m = by (stops_count ts o.count os) o.answer k (Memᴰ.cases_cons m)
  where
    by : (Numbered ts o.count os → Memᴰ (refused 13) (answers os) → count_after o.count os ≡ trial_limit) → (a : Answer)
        → NumberedAt ts c a o.count (Numbered ts o.count os) (Closed o.count os) → (refused 13 ≡ a) ⊎ Memᴰ (refused 13) (answers os)
        → count_after o.count os ≡ trial_limit
    by ih (example p) k (inl r) = let z : ◌≡◌ {A = ℕ} 0 1 = cc in absurd (omega arith)
    by ih (example p) k (inr m) = ih k.1 m
    by ih end k (inl r) = let z : ◌≡◌ {A = ℕ} 0 1 = cc in absurd (omega arith)
    by ih end k (inr m) = absurd (closed-goes_on o.count os k.1 m)
    by ih (refused n) k m = go (eqb n 13) refl k m
      where
        go : (b : Bool) → eqb n 13 ≡ b
            → elim b as (λ x. Type 0) [ true ↦ (o.count ≡ trial_limit) × (trial_limit < length ts) × Closed o.count os | false ↦ (n ≡ 11) × (o.count ≡ c) × Numbered ts o.count os ]
            → (refused 13 ≡ refused n) ⊎ Memᴰ (refused 13) (answers os) → count_after o.count os ≡ trial_limit
        go true e k m = closed_count o.count os k.2 ∙ k.0
        go false e k (inl r) = let z : ◌≡◌ {A = ℕ} 13 n = cc in let y = eqb-false n 13 e in absurd (y (sym z))
        go false e k (inr m) = ih k.2 m

-- what a test keeps of a list past a number is the rest of what it keeps
kept-split : (t : Path → Bool) (n : ℕ) (ts : List Path) → keep t (take n ts) ++ keep t (drop n ts) ≡ keep t ts
kept-split t n ts = sym (keep_append t (take n ts) (drop n ts)) ∙ ap (keep t) (take-append-drop n ts)

-- what is kept up to c with what is kept up to n, from what is kept past them
kept-up_to : (t : Path → Bool) (c n : ℕ) (ts ps : List Path) → keep t (drop c ts) ≡ ps ++ keep t (drop n ts) → keep t (take c ts) ++ ps ≡ keep t (take n ts)
kept-up_to t c n ts ps e =
    append_cancel_right (keep t (take c ts) ++ ps) (keep t (take n ts)) (keep t (drop n ts))
    (append_assoc (keep t (take c ts)) ps (keep t (drop n ts))
    ∙ ap (λ (r : List Path). keep t (take c ts) ++ r) (sym e) ∙ kept-split t c ts ∙ sym (kept-split t n ts))

module _ (t : Path → Bool) (ts : List Path) where
  shut : ℕ → Plain
  shut c = record { count = c; is_open = false }

  ready : ℕ → Plain
  ready c = record { count = c; is_open = true }

  run : List Call → Plain → List Out
  run cs s = plain_run t plainly ts cs s

  -- an ended listing hands out nothing more, and its count stays
  quiet : (cs : List Call) (c : ℕ) → (handed (run cs (shut c)) ≡ []) × Closed c (run cs (shut c))
  unfolding shut run plain_run plain_out plain_then
  quiet [] c = (refl, tt)
  quiet (k ∷ cs) c = by (quiet cs c) (enough k)
    where
      Quiet : List Out → Type 0
      Quiet os = (handed os ≡ []) × Closed c os

      by : Quiet (run cs (shut c)) → (b : Bool) → Quiet (plain_out t plainly ts b false (shut c) ∷ run cs (plain_then t plainly ts b false (shut c)))
      by ih true = (ih.0, (refl, tt, ih.1))
      by ih false = (ih.0, (refl, refl, ih.1))

  -- what was handed out up to count c and what is handed out from there on: all up to the count after, which is at most 100,000
  Told : ℕ → List Out → Type 0
  Told c os = Numbered ts c os × (keep t (take c ts) ++ handed os ≡ keep t (take (count_after c os) ts)) × (count_after c os ≤ trial_limit)

  Tells : List Call → Type 0
  Tells cs = (c : ℕ) → c ≤ length ts → c ≤ trial_limit → Told c (run cs (ready c))

  -- of a closed listing
  told_shut : (cs : List Call) (c n : ℕ) → keep t (drop c ts) ≡ keep t (drop n ts) → n ≤ trial_limit
      → (keep t (take c ts) ++ handed (run cs (shut n)) ≡ keep t (take (count_after n (run cs (shut n))) ts)) × (count_after n (run cs (shut n)) ≤ trial_limit)
  told_shut cs c n e l =
      let q = quiet cs n in
      let z = closed_count n (run cs (shut n)) q.1 in
      (rw (q.0, z) (kept-up_to t c n ts [] e), omega arith)

  next-told : (cs : List Call) → Tells cs → (c : ℕ) → c ≤ trial_limit → (F : Found) → Finds t ts (trial_limit - c) c F → Told c (found_out plainly F ∷ run cs (found_then F))
  unfolding Told Finds Tells shut ready run found_out found_then
  next-told cs ih c h (hit n p) (m, a, v, z, b, y, k) =
      let w = drop_more m ts p (drop n ts) b in
      let q = ih n (omega arith) (omega arith) in (
        ((m, a, v, b), q.0),
        sym (append_assoc (keep t (take c ts)) (p ∷ []) (handed (run cs (ready n))))
            ∙ ap (λ (r : List Path). r ++ handed (run cs (ready n))) (kept-up_to t c n ts (p ∷ []) k) ∙ q.1,
        q.2,
      )
  next-told cs ih c h (out n) (a, z, k) =
      let r = told_shut cs c n (k ∙ sym (ap (λ (x : ℕ). keep t (drop x ts)) a ∙ ap (keep t) (drop-length ts) ∙ keep-nil t)) (omega arith) in
      ((a, (quiet cs n).1), r.0, r.1)
  next-told cs ih c h over (l, k) =
      let s : c + (trial_limit - c) ≡ trial_limit = omega arith in
      let r = told_shut cs c trial_limit (k ∙ ap (λ (x : ℕ). keep t (drop x ts)) s) (omega arith) in
      ((refl, omega arith, (quiet cs trial_limit).1), r.0, r.1)

  tells : (cs : List Call) → Tells cs
  unfolding Told Tells ready run plain_run plain_out plain_then plain_find
  tells [] c h l = (tt, append-nil (keep t (take c ts)), l)
  tells (k ∷ cs) c h l = by (tells cs) (enough k)
    where
      by : Tells cs → (b : Bool) → Told c (plain_out t plainly ts b true (ready c) ∷ run cs (plain_then t plainly ts b true (ready c)))
      by ih false = let q = ih c h l in ((refl, refl, q.0), q.1, q.2)
      by ih true = next-told cs ih c l (search t (trial_limit - c) c (drop c ts)) (finds t ts (trial_limit - c) c (drop c ts) refl h)

  -- a run of calls that are all lent enough: each gets an example, or the listing ends, or 13 comes
  Runs : List Call → ℕ → Type 0
  Runs cs c = (length (handed (run cs (ready c))) ≡ length cs) ⊎ ((ends (run cs (ready c)) ≡ true) ⊎ (Memᴰ (refused 13) (answers (run cs (ready c))) × (trial_limit < length ts)))

  next_runs : (k : Call) (cs : List Call) → ((c : ℕ) → c ≤ length ts → c ≤ trial_limit → Runs cs c) → (c : ℕ) → c ≤ trial_limit → (F : Found)
      → Finds t ts (trial_limit - c) c F → plain_find t plainly ts (ready c) ≡ F → enough k ≡ true → Runs (k ∷ cs) c
  unfolding Runs Finds ready shut run plain_run plain_out plain_then found_out found_then
  next_runs k cs ih c h (hit n p) (m, a, v, z, b, y, q) f e =
      let w = drop_more m ts p (drop n ts) b in
      rw (e, plain_out, plain_then, f, found_out, found_then) (more (ih n (omega arith) (omega arith)))
    where
      os : List Out
      os = plain_run t plainly ts cs (record { count = n; is_open = true })

      more : (length (handed os) ≡ length cs) ⊎ ((ends os ≡ true) ⊎ (Memᴰ (refused 13) (answers os) × (trial_limit < length ts)))
          → (length (p ∷ handed os) ≡ length (k ∷ cs)) ⊎ ((ends os ≡ true) ⊎ (Memᴰ (refused 13) (example p ∷ answers os) × (trial_limit < length ts)))
      more (inl x) = inl (omega arith)
      more (inr (inl x)) = inr (inl x)
      more (inr (inr x)) = inr (inr (Memᴰ.tail x.0, x.1))
  next_runs k cs ih c h (out n) (a, z, q) f e = rw (e, plain_out, plain_then, f, found_out, found_then) (inr (inl refl))
  next_runs k cs ih c h over (l, q) f e = rw (e, plain_out, plain_then, f, found_out, found_then) (inr (inr (Memᴰ.head refl, omega arith)))

  runs : (cs : List Call) → every? enough cs ≡ true → (c : ℕ) → c ≤ length ts → c ≤ trial_limit → Runs cs c
  unfolding Runs ready run plain_run plain_find every?
  runs [] e c h l = inl refl
  runs (k ∷ cs) e c h l =
      let ih = runs cs in
      let b = enough k in
      next_runs k cs (ih (rest (enough k) e)) c l (search t (trial_limit - c) c (drop c ts)) (finds t ts (trial_limit - c) c (drop c ts) refl h) refl (first (enough k) e)
    where
      first : (b : Bool) → elim b as (λ x. Bool) [ true ↦ every? enough cs | false ↦ false ] ≡ true → b ≡ true
      first true e = refl
      first false e = absurd (true≢false (sym e))

      rest : (b : Bool) → elim b as (λ x. Bool) [ true ↦ every? enough cs | false ↦ false ] ≡ true → every? enough cs ≡ true
      rest true e = e
      rest false e = absurd (true≢false (sym e))

-- a filter takes out exactly those that fail it
keep-both : (t u : Path → Bool) (ps : List Path) → keep (λ p. t p && u p) ps ≡ keep u (keep t ps)
keep-both t u [] = keep-nil (λ p. t p && u p) ∙ sym (ap (keep u) (keep-nil t) ∙ keep-nil u)
keep-both t u (p ∷ ps) = by (keep-both t u ps) (t p) refl (u p) refl
  where
    by : keep (λ q. t q && u q) ps ≡ keep u (keep t ps) → (b : Bool) → t p ≡ b → (c : Bool) → u p ≡ c
        → keep (λ q. t q && u q) (p ∷ ps) ≡ keep u (keep t (p ∷ ps))
    by ih true e true d = rw (keep-yes (λ q. t q && u q) p ps (rw (e, d)), keep-yes t p ps e, keep-yes u p (keep t ps) d) (rw ih)
    by ih true e false d = rw (keep_no (λ q. t q && u q) p ps (rw (e, d)), keep-yes t p ps e, keep_no u p (keep t ps) d) ih
    by ih false e c d = rw (keep_no (λ q. t q && u q) p ps (rw e), keep_no t p ps e) ih

hands-both : (T : Table) (es : List TraceEdge) (a : Option ℕ) (ts : List Path) → keep (hands T es a) ts ≡ keep (passes T es a) (keep (is_example_in (ends_of es)) ts)
unfolding hands
hands-both T es a ts = keep-both (is_example_in (ends_of es)) (passes T es a) ts

-- what is kept of the trials is what is to be handed out
module _ (T : Table) (es : List TraceEdge) (start : Item) (a : Option ℕ) (p : Path) where
  to_hand : IsTrial (ends_of es) (at_item start) p → hands T es a p ≡ true → IsHanded T es start a p
  unfolding hands
  to_hand i h = record {
    trial = i;
    example = and_left (is_example_in (ends_of es) p) (passes T es a p) h;
    meets = (passes-meets T es a p).0 (and_right (is_example_in (ends_of es) p) (passes T es a p) h);
  }

  of_handed : IsHanded T es start a p → hands T es a p ≡ true
  unfolding hands
  of_handed h = both (is_example_in (ends_of es) p) (passes T es a p) h.example ((passes-meets T es a p).1 h.meets)

all-front : (P : Path → Type 0) (ps qs : List Path) → AllPaths P (ps ++ qs) → AllPaths P ps
all-front P [] qs a = tt
all-front P (p ∷ ps) qs a = (a.0, all-front P ps qs a.1)

increasing_front : (ps qs : List Path) → Increasing (ps ++ qs) → Increasing ps
increasing_front [] qs i = tt
increasing_front (p ∷ ps) qs i = (all-front (Before p) ps qs i.0, increasing_front ps qs i.1)

-- of any calls
module _ (T : Table) (es : List TraceEdge) (start : Item) (a : Option ℕ) (cs : List Call) where
  all-trials : List Path
  all-trials = trials (ends_of es) (at_item start)

  paths : List Out
  paths = path_lister T es start a cs

  told : Numbered all-trials 0 paths × (handed paths ≡ keep (hands T es a) (take (count_after 0 paths) all-trials)) × (count_after 0 paths ≤ trial_limit)
  unfolding all-trials paths path_lister Tells Told ready run
  told =
      let ts = trials (ends_of es) (at_item start) in
      let r = tells (hands T es a) ts cs 0 (omega arith) (omega arith) in
      (r.0, ap (λ (l : List Path). l ++ handed (plain_run (hands T es a) plainly ts cs fresh)) (sym (keep-nil (hands T es a))) ∙ r.1, r.2)

  ran : every? enough cs ≡ true → (length (handed paths) ≡ length cs) ⊎ ((ends paths ≡ true) ⊎ (Memᴰ (refused 13) (answers paths) × (trial_limit < length all-trials)))
  unfolding all-trials paths path_lister Runs ready run
  ran e = runs (hands T es a) (trials (ends_of es) (at_item start)) cs e 0 (omega arith) (omega arith)

  pub said : plain_lister T es start a cs ≡ map (spoken (says T es)) (path_lister T es start a cs)
  unfolding plain_lister path_lister
  said = spoken-run (hands T es a) (says T es) (trials (ends_of es) (at_item start)) cs fresh

  pub up_to : (handed (path_lister T es start a cs) ≡ keep (hands T es a) (take (count_after 0 (path_lister T es start a cs)) (trials (ends_of es) (at_item start))))
      × (count_after 0 (path_lister T es start a cs) ≤ trial_limit)
  unfolding all-trials paths
  up_to = (told.1, told.2)

  past : List Path
  past = keep (hands T es a) (drop (count_after 0 paths) all-trials)

  begins : handed paths ++ past ≡ keep (hands T es a) all-trials
  unfolding past
  begins = ap (λ (l : List Path). l ++ past) told.1 ∙ kept-split (hands T es a) (count_after 0 paths) all-trials

  all-out : ends paths ≡ true → handed paths ≡ keep (hands T es a) all-trials
  all-out e =
      told.1
      ∙ ap (λ (n : ℕ). keep (hands T es a) (take n all-trials)) (ends_count all-trials 0 paths told.0 e)
      ∙ ap (keep (hands T es a)) (take-length all-trials)

  limit_out : Memᴰ (refused 13) (answers paths) → handed paths ≡ keep (hands T es a) (take trial_limit all-trials)
  limit_out m = told.1 ∙ ap (λ (n : ℕ). keep (hands T es a) (take n all-trials)) (stops_count all-trials 0 paths told.0 m)

  -- where every call is lent enough: an example for each, or all of at most 100,000 trials and the end, or 13
  pub full-run : every? enough cs ≡ true
      → (length (handed (path_lister T es start a cs)) ≡ length cs)
      ⊎ (((ends (path_lister T es start a cs) ≡ true) × (count_after 0 (path_lister T es start a cs) ≡ length (trials (ends_of es) (at_item start)))
      × (length (trials (ends_of es) (at_item start)) ≤ trial_limit) × (handed (path_lister T es start a cs) ≡ keep (hands T es a) (trials (ends_of es) (at_item start))))
      ⊎ ((ends (path_lister T es start a cs) ≡ false) × (trial_limit < length (trials (ends_of es) (at_item start)))
      × (handed (path_lister T es start a cs) ≡ keep (hands T es a) (take trial_limit (trials (ends_of es) (at_item start))))))
  unfolding all-trials paths
  full-run e = by (ran e)
    where
      by : (length (handed paths) ≡ length cs) ⊎ ((ends paths ≡ true) ⊎ (Memᴰ (refused 13) (answers paths) × (trial_limit < length all-trials)))
          → (length (handed paths) ≡ length cs)
          ⊎ (((ends paths ≡ true) × (count_after 0 paths ≡ length all-trials) × (length all-trials ≤ trial_limit) × (handed paths ≡ keep (hands T es a) all-trials))
          ⊎ ((ends paths ≡ false) × (trial_limit < length all-trials) × (handed paths ≡ keep (hands T es a) (take trial_limit all-trials))))
      by (inl x) = inl x
      by (inr (inl x)) =
          let n = ends_count all-trials 0 paths told.0 x in
          let l = told.2 in
          inr (inl (x, n, omega arith, all-out x))
      by (inr (inr x)) = inr (inr (
        cases (ends paths)
            (λ y. let n = ends_count all-trials 0 paths told.0 y in let l = told.2 in let m = x.1 in absurd (omega arith)) (λ y. y),
        x.1,
        limit_out x.0,
      ))

  module _ (small : Small (ends_of es)) where
    nothing_else : (p : Path) → Memᴰ p (keep (hands T es a) all-trials) → IsHanded T es start a p
    unfolding all-trials
    nothing_else p m =
        let r = (examples_exact (ends_of es) (at_item start) small (hands T es a) p).0 m in
        to_hand T es start a p r.0 r.1

    pub handed_out : Handed T es start a cs
    unfolding all-trials paths
    handed_out = record {
      words = said;
      trials_are = trials_are (ends_of es) (at_item start) small;
      trials-only = trials-only (ends_of es) (at_item start) small;
      numbered = told.0;
      bounded = told.2;
      order = increasing_front (handed paths) past (subst Increasing (sym begins) (examples_ordered (ends_of es) (at_item start) (hands T es a)));
      only = λ p m. nothing_else p (subst (λ (l : List Path). Memᴰ p l) begins (Memᴰ.append_left past m));
      so_far = told.1;
      left = past;
      beginning = begins;
      all = all-out;
      exactly = λ e p. (
        λ m. nothing_else p (subst (λ (l : List Path). Memᴰ p l) (all-out e) m),
        λ h. subst (λ (l : List Path). Memᴰ p l) (sym (all-out e))
            ((examples_exact (ends_of es) (at_item start) small (hands T es a) p).1 (h.trial, of_handed T es start a p h)),
      );
      limit = limit_out;
      filtered = hands-both T es a all-trials;
      misses = passes-meets T es a;
    }
