-- What a caller of the search has and gets: words that hold a trial, the trials after it, what an answer says (specs/filter/Given, specs/filter/Found).
use Rattle.std.specs.Prelude.{◌≡◌, ℕ, zero, suc, ◌≤◌, Bool, true, false, List, [], ◌∷◌, ◌++◌, length, drop}
use native.Mathlib.Omega.{arith}
use mathlib.Core.Path.{refl, sym, ap, ◌∙◌}
use mathlib.Core.List.{Memᴰ}
use lib.ListN.{take-append-drop}
use Rattle.lr1_base.specs.repr.Sizes.{scratch_words}
use Rattle.lr1_base.specs.repr.Meaning.{Production}
use Rattle.trace_graph.specs.Graph.{Node, TraceEdge}
use Rattle.enumerator.specs.trials.Trials.{Path, Ends, ends_of, trials}
use Rattle.enumerator.specs.trials.Lister.{Found, hit, out, over, search}
use Rattle.enumerator.specs.trials.Words.{words_of, path_in, has_trial, after}
use Rattle.enumerator.specs.trials.Advance.{rest_of}
use Rattle.enumerator.proofs.trials.Exact.{sound}
use Rattle.enumerator.proofs.trials.Short.{short_trial}
use Rattle.enumerator.proofs.trials.Search.{search-hit, search_on}
use Rattle.enumerator.proofs.trials.WordsOf.{held-words, held_trial}
use Rattle.enumerator.proofs.trials.Holding.{trial_within}
use Rattle.enumerator.specs.graph_view.View.{Labelled}
use Rattle.enumerator.specs.graph_view.Trial.{trial_words}
use Rattle.enumerator.specs.declared.filter.Searched.TheVariants.{Hit, Out, Over}
use Rattle.enumerator.specs.filter.Given.{Begun, Tried}
use Rattle.enumerator.specs.filter.Found.{searched, searched_of, later_than}
use Rattle.enumerator.proofs.trials.Following.{after_in}

-- no edge, or a trial

module _ (G : Ends) (start : Node) where
  pub begun-none : Begun G start []
  unfolding Begun
  begun-none = tt

  pub begun_trial : (p : Path) → Memᴰ p (trials G start) → Begun G start p
  unfolding Begun
  begun_trial [] m = tt
  begun_trial (e ∷ p) m = m

  -- a trial has an edge
  pub trial_some : (p : Path) → Memᴰ p (trials G start) → 1 ≤ length p
  trial_some [] m = absurd (sound G start [] m)
  trial_some (e ∷ p) m = omega arith

pub later-none : (ts : List Path) → later_than [] ts ≡ ts
unfolding later_than
later-none ts = refl

pub later_trial : (G : Ends) (start : Node) (p : Path) → Memᴰ p (trials G start) → (ts : List Path) → later_than p ts ≡ after p ts
unfolding later_than
later_trial G start [] m ts = absurd (sound G start [] m)
later_trial G start (e ∷ p) m ts = refl

-- words that hold a trial, whole
pub held_whole : (G : Ends) (start : Node) (ws : List ℕ) → has_trial G start ws ≡ true → ws ≡ words_of (path_in ws) ++ drop scratch_words ws
held_whole G start ws h = sym (take-append-drop scratch_words ws) ∙ ap (λ (l : List ℕ). l ++ drop scratch_words ws) (held-words G start ws h)

-- where an open listing goes on, by its count
pub rest-later : (G : Ends) (start : Node) (c : ℕ) (ws : List ℕ) → has_trial G start ws ≡ true → (c ≡ 0 → ⊥) → rest_of c ws (trials G start) ≡ later_than (path_in ws) (trials G start)
unfolding rest_of
rest-later G start zero ws h ne = absurd (ne refl)
rest-later G start (suc c) ws h ne = sym (later_trial G start (path_in ws) (held_trial G start ws h) (trials G start))

pub rest-first : (c : ℕ) (ws : List ℕ) (ts : List Path) → c ≡ 0 → rest_of c ws ts ≡ later_than [] ts
unfolding rest_of later_than
rest-first zero ws ts e = refl
rest-first (suc c) ws ts e = absurd (omega arith)

-- what an answer says

pub searched-hit : (n : ℕ) (ws rest : List ℕ) (F : Found) → searched (Hit n) ws ≡ searched_of rest F → (p : Path) × (F ≡ hit n p) × (ws ≡ trial_words p ++ rest)
unfolding searched_of
searched-hit n ws rest (hit m p) e = let z : n ≡ m = cc in (p, ap (λ (k : ℕ). hit k p) (sym z), cc)
searched-hit n ws rest (out m) e = let z : ◌≡◌ {A = ℕ} 0 1 = cc in absurd (omega arith)
searched-hit n ws rest over e = let z : ◌≡◌ {A = ℕ} 0 1 = cc in absurd (omega arith)

pub searched-out : (n : ℕ) (ws rest : List ℕ) (F : Found) → searched (Out n) ws ≡ searched_of rest F → (F ≡ out n) × (ws ≡ trial_words [] ++ rest)
unfolding searched_of
searched-out n ws rest (hit m p) e = let z : ◌≡◌ {A = ℕ} 0 1 = cc in absurd (omega arith)
searched-out n ws rest (out m) e = let z : n ≡ m = cc in (ap out (sym z), cc)
searched-out n ws rest over e = let z : ◌≡◌ {A = ℕ} 0 1 = cc in absurd (omega arith)

pub searched-over : (ws rest : List ℕ) (F : Found) → searched Over ws ≡ searched_of rest F → (F ≡ over) × (ws ≡ trial_words [] ++ rest)
unfolding searched_of
searched-over ws rest (hit m p) e = let z : ◌≡◌ {A = ℕ} 0 1 = cc in absurd (omega arith)
searched-over ws rest (out m) e = let z : ◌≡◌ {A = ℕ} 0 1 = cc in absurd (omega arith)
searched-over ws rest over e = (refl, cc)

-- what is found is a trial, and handed out

found_in_lem : (t : Path → Bool) (l c n : ℕ) (p : Path) (ts : List Path) → search t l c ts ≡ hit n p → Memᴰ p ts × (t p ≡ true)
unfolding search
found_in_lem t l c n p [] e = let z : ◌≡◌ {A = ℕ} 0 1 = cc in absurd (omega arith)
found_in_lem t zero c n p (q ∷ ts) e = let z : ◌≡◌ {A = ℕ} 0 1 = cc in absurd (omega arith)
found_in_lem t (suc l) c n p (q ∷ ts) e = by (found_in_lem t l (suc c) n p ts) (t q) refl
  where
    by : (search t l (suc c) ts ≡ hit n p → Memᴰ p ts × (t p ≡ true)) → (b : Bool) → t q ≡ b → Memᴰ p (q ∷ ts) × (t p ≡ true)
    by ih true h =
        let f : hit (suc c) q ≡ hit n p = sym (search-hit t l c q ts h) ∙ e in
        let z : p ≡ q = cc in
        (Memᴰ.head z, ap t z ∙ h)
    by ih false h = let r = ih (sym (search_on t l c q ts h) ∙ e) in (Memᴰ.tail r.0, r.1)

later_in : (q p : Path) (ts : List Path) → Memᴰ p (later_than q ts) → Memᴰ p ts
unfolding later_than
later_in [] p ts m = m
later_in (e ∷ q) p ts m = after_in (e ∷ q) p ts m

pub search_trial : (t : Path → Bool) (G : Ends) (start : Node) (q : Path) (l c n : ℕ) (p : Path) → search t l c (later_than q (trials G start)) ≡ hit n p
    → Memᴰ p (trials G start) × (t p ≡ true)
search_trial t G start q l c n p e =
    let r = found_in_lem t l c n p (later_than q (trials G start)) e in
    (later_in q p (trials G start) r.0, r.1)

-- words of a trial, for `read_labels` and `passes`
pub tried_trial : {ps : List Production} {es : List TraceEdge} {owners codes : List ℕ} → Labelled ps es owners codes → (start : Node) (p rest ws : List ℕ) → Memᴰ p (trials (ends_of es) start)
    → ws ≡ trial_words p ++ rest → Tried ps es owners codes ws
tried_trial {es = es} L start p rest ws m w = record {
  labelled = L;
  path = p;
  rest = rest;
  words = w;
  some_edge = trial_some (ends_of es) start p m;
  few = short_trial (ends_of es) start p m;
  edges = trial_within (ends_of es) p [] start (sound (ends_of es) start p m);
}
