-- The search of an open listing: the words that it starts from, and what its answer makes of the listing, the scratch and the buffer.
use Prim.Native.Nat.{ℕ, zero, suc, ◌-◌, ◌≤◌}
use native.Mathlib.Omega.{arith}
use mathlib.Core.Path.{◌≡◌, refl, sym, ap, ◌∙◌}
use mathlib.Core.Bool.{Bool, true, false, ◌&&◌, not}
use mathlib.Core.List.{List, [], ◌++◌, append_assoc, Memᴰ}
use mathlib.Core.Option.{Option, none, some}
use lib.ListN.{length, drop, replicate}
use lib.Dec.{eqb}
use borrow.Author.Tests.{eq-eqb, ne_eqb}
use Rattle.lr1_base.specs.repr.Reply.{answered, refused}
use Rattle.lr1_base.specs.repr.Sizes.{scratch_words, trial_limit, reduction_limit}
use Rattle.lr1_base.specs.words.Lent.{in_front, zeroed}
use Rattle.lr1_base.specs.repr.Meaning.{Item, Production, Table}
use Rattle.lr1_base.proofs.repr.Lists.{cases, clash}
use Rattle.first.specs.First.{sets_of_first}
use Rattle.trace_graph.specs.Graph.{Node, at_item, TraceEdge}
use Rattle.enumerator.specs.example.Example.{example_words}
use Rattle.enumerator.specs.trials.Trials.{Path, Ends, ends_of, trials}
use Rattle.enumerator.specs.trials.Lister.{labels_of, hands, says, Found, hit, out, over, search}
use Rattle.enumerator.specs.trials.Words.{words_of, path_in, has_trial}
use Rattle.enumerator.specs.trials.Advance.{outcome, start_of, moved, found_outcome, rest_of, lost}
use Rattle.enumerator.specs.declared.trials.Listing.{Listing}
use Rattle.enumerator.specs.declared.trials.Advanced.TheVariants.{Example, End}
use Rattle.enumerator.proofs.trials.Short.{short_trial}
use Rattle.enumerator.proofs.trials.WordsOf.{words_long, held_trial}
use Rattle.enumerator.specs.graph_view.View.{View, Labelled}
use Rattle.enumerator.specs.graph_view.Trial.{trial_room, trial_words}
use Rattle.enumerator.proofs.graph_view.Trial.{words_trial}
use Rattle.enumerator.specs.declared.filter.Searched.{Searched}
use Rattle.enumerator.specs.declared.filter.Searched.TheVariants.{Hit, Out, Over}
use Rattle.enumerator.specs.filter.Filter.{hands_by}
use Rattle.enumerator.specs.filter.Given.{Begun, Searching, Tried}
use Rattle.enumerator.specs.filter.Found.{searched, searched_of, later_than}
use Rattle.enumerator.specs.advance.Context.{Read, sets_for, begun}
use Rattle.enumerator.proofs.filter.Passing.{hands_by_lem, hands-any, search_same}
use Rattle.enumerator.proofs.filter.Calling.{begun-none, begun_trial, held_whole, rest-later, rest-first, searched-hit, searched-out, searched-over, search_trial, tried_trial}

-- `lost`
unfoldable lost_by : Bool → Bool → Bool → Bool
lost_by o z h = o && (not z && not h)

module _ (es : List TraceEdge) (l : Listing) (ws : List ℕ) where
  abbrev start : Node
  start = at_item (record { production = l.production.0; index = l.index })

  abbrev holds : Bool
  holds = has_trial (ends_of es) start ws

  lost_is : lost es l ws ≡ lost_by l.is_open (eqb l.count 0) holds
  unfolding lost start_of lost_by
  lost_is = refl

  pub lost-closed : l.is_open ≡ false → false ≡ lost es l ws
  unfolding lost_by
  lost-closed e = sym (lost_is ∙ ap (λ (b : Bool). lost_by b (eqb l.count 0) holds) e)

  module _ (o : l.is_open ≡ true) where
    lost_open : lost es l ws ≡ (not (eqb l.count 0) && not holds)
    unfolding lost_by
    lost_open = lost_is ∙ ap (λ (b : Bool). lost_by b (eqb l.count 0) holds) o

    pub lost-fresh : l.count ≡ 0 → false ≡ lost es l ws
    lost-fresh z = sym (lost_open ∙ ap (λ (b : Bool). not b && not holds) (eq-eqb l.count 0 z))

    module _ (nz : l.count ≡ 0 → ⊥) where
      lost_past : lost es l ws ≡ not holds
      lost_past = lost_open ∙ ap (λ (b : Bool). not b && not holds) (ne_eqb l.count 0 nz)

      pub lost-past : (h : Bool) → h ≡ holds → not h ≡ lost es l ws
      lost-past h e = ap not e ∙ sym lost_past

      held : lost es l ws ≡ false → holds ≡ true
      held f = cases holds (λ h. h) (λ h. clash (lost es l ws) (lost_past ∙ ap not h) f)

-- the 32,000 words of a trial are its 34 and zeros
abbrev behind : List ℕ → List ℕ
behind ws = replicate (scratch_words - trial_room) 0 ++ drop scratch_words ws

trial_behind : (p : Path) (ws : List ℕ) → length p ≤ reduction_limit → words_of p ++ drop scratch_words ws ≡ trial_words p ++ behind ws
trial_behind p ws h =
    ap (λ (l : List ℕ). l ++ drop scratch_words ws) (words_trial p h) ∙ append_assoc (trial_words p) (replicate (scratch_words - trial_room) 0) (drop scratch_words ws)

-- where the search starts
pub record Start (G : Ends) (start : Node) (c : ℕ) (ws : List ℕ) : Type 0 where
  pub path : Path
  pub words : begun c ws ≡ trial_words path ++ (replicate (scratch_words - trial_room) 0 ++ drop scratch_words ws)
  pub begins : Begun G start path
  pub later : later_than path (trials G start) ≡ rest_of c ws (trials G start)

start_by : (G : Ends) (start : Node) (c : ℕ) (ws : List ℕ) → ((c ≡ 0 → ⊥) → has_trial G start ws ≡ true) → Start G start c ws
unfolding begun
start_by G start zero ws h = record { path = []; words = trial_behind [] ws (omega arith); begins = begun-none G start; later = sym (rest-first 0 ws (trials G start) refl) }
start_by G start (suc c) ws h =
    let ne : suc c ≡ 0 → ⊥ = λ z. omega arith in
    record {
      path = path_in ws;
      words = held_whole G start ws (h ne) ∙ trial_behind (path_in ws) ws (short_trial G start (path_in ws) (held_trial G start ws (h ne)));
      begins = begun_trial G start (path_in ws) (held_trial G start ws (h ne));
      later = sym (rest-later G start (suc c) ws (h ne) ne);
    }

pub start_at : (es : List TraceEdge) (l : Listing) (ws : List ℕ) → l.is_open ≡ true → lost es l ws ≡ false
    → Start (ends_of es) (at_item (record { production = l.production.0; index = l.index })) l.count ws
start_at es l ws o f = start_by (ends_of es) (at_item (record { production = l.production.0; index = l.index })) l.count ws (λ ne. held es l ws o ne f)

pub searching : {ps : List Production} {es : List TraceEdge} {owners codes sources older latest : List ℕ} {start : Item} {c : ℕ} {ws : List ℕ} (ws' : List ℕ) → Labelled ps es owners codes
    → View es start sources older latest → Start (ends_of es) (at_item start) c ws → ws' ≡ begun c ws → Searching ps es owners codes sources older latest ws' start
searching {ws = ws} ws' L W S e = record {
  labelled = L;
  view = W;
  path = S.path;
  rest = behind ws;
  words = e ∙ S.words;
  begun = S.begins;
}

-- the filter asks the FIRST sets only where a lookahead is set
module _ {n e : ℕ} {ps : List Production} (T : Table) (R : Read T n e ps) (es : List TraceEdge) (m : List ℕ) where
  hands_over : (a : Option ℕ) → m ≡ sets_for a e ps → (p : Path) → hands T es a p ≡ hands_by e m ps es a p
  unfolding sets_for
  hands_over none em p = hands-any T m es p ∙ (λ j. hands_by (sym R.terminals j) m (sym R.productions j) es none p)
  hands_over (some s) em p =
      hands_by_lem T es (some s) p
      ∙ (λ j. hands_by (sym R.terminals j) (sets_of_first (sym R.terminals j) (sym R.productions j)) (sym R.productions j) es (some s) p)
      ∙ ap (λ (x : List ℕ). hands_by e x ps es (some s) p) (sym em)

  pub hands-read : (a : Option ℕ) (k : ℕ) → (m ≡ sets_for a e ps) × (k ≡ e) → (p : Path) → hands T es a p ≡ hands_by k m ps es a p
  hands-read a k E p = rw E.1 (hands_over a E.0 p)

-- the words after the search: those of no edge are zero
none-zeroed : (ws : List ℕ) → words_of [] ++ drop scratch_words ws ≡ zeroed scratch_words ws
unfolding words_of zeroed
none-zeroed ws = refl

path_front : (p : Path) (ws : List ℕ) → length p ≤ reduction_limit → words_of p ++ drop scratch_words ws ≡ in_front (words_of p) ws
unfolding in_front
path_front p ws h = ap (λ (k : ℕ). words_of p ++ drop k ws) (sym (words_long p (omega arith)))

-- what is found
module _ {ps : List Production} {es : List TraceEdge} {owners codes : List ℕ} {start : Item} {c : ℕ} {ws : List ℕ} (L : Labelled ps es owners codes)
    (S : Start (ends_of es) (at_item start) c ws) (t : Path → Bool) (r : Searched) (ws' ws'' : List ℕ) (eb : ws' ≡ begun c ws)
    (found : (q rest : List ℕ) → ws' ≡ trial_words q ++ rest
    → searched r ws'' ≡ searched_of rest (search t (trial_limit - c) c (later_than q (trials (ends_of es) (at_item start))))) where
  abbrev ts : List Path
  ts = trials (ends_of es) (at_item start)

  abbrev finds : Found
  finds = search t (trial_limit - c) c (later_than S.path ts)

  answers : searched r ws'' ≡ searched_of (behind ws) finds
  answers = found S.path (behind ws) (eb ∙ S.words)

  hits : (n : ℕ) → r ≡ Hit n → (q : Path) × (finds ≡ hit n q) × (ws'' ≡ trial_words q ++ behind ws)
  hits n er = searched-hit n ws'' (behind ws) finds (ap (λ (x : Searched). searched x ws'') (sym er) ∙ answers)

  hit_in : (n : ℕ) (er : r ≡ Hit n) → Memᴰ (hits n er).0 ts
  hit_in n er = (search_trial t (ends_of es) (at_item start) S.path (trial_limit - c) c n (hits n er).0 (hits n er).1).0

  pub hit-tried : (n : ℕ) → r ≡ Hit n → Tried ps es owners codes ws''
  hit-tried n er = tried_trial L (at_item start) (hits n er).0 (behind ws) ws'' (hit_in n er) (hits n er).2

  module _ {k e : ℕ} (T : Table) (R : Read T k e ps) (l : Listing) (buffer : List ℕ) (a : Option ℕ) (same : (q : Path) → hands T es a q ≡ t q) where
    abbrev whole : Found
    whole = search (hands T es a) (trial_limit - c) c (rest_of c ws ts)

    whole_is : finds ≡ whole
    whole_is =
        ap (λ (x : List Path). search t (trial_limit - c) c x) S.later
        ∙ search_same t (hands T es a) (λ q. sym (same q)) (trial_limit - c) c (rest_of c ws ts)

    says_is : (q : Path) → example_words ps (labels_of ps es q) ≡ says T es q
    unfolding says
    says_is q = ap (λ (x : List Production). example_words x (labels_of x es q)) R.productions

    pub found-hit : (n : ℕ) → r ≡ Hit n → (x : Listing) (o : Bool) → x ≡ moved l n o → o ≡ true → (b : List ℕ)
        → (Tried ps es owners codes ws'' → (q rest : List ℕ) → ws'' ≡ trial_words q ++ rest → b ≡ in_front (example_words ps (labels_of ps es q)) buffer)
        → outcome (answered Example) x ws'' b ≡ found_outcome T es l ws buffer whole
    unfolding found_outcome
    found-hit n er x o ex eo b w =
        let q = (hits n er).0 in
        let f : whole ≡ hit n q = sym whole_is ∙ (hits n er).1 in
        let h = short_trial (ends_of es) (at_item start) q (hit_in n er) in
        let s : ws'' ≡ in_front (words_of q) ws = (hits n er).2 ∙ sym (trial_behind q ws h) ∙ path_front q ws h in
        let d : b ≡ in_front (says T es q) buffer = w (hit-tried n er) q (behind ws) (hits n er).2 ∙ ap (λ (y : List ℕ). in_front y buffer) (says_is q) in
        (λ j. outcome (answered Example) ((ex ∙ ap (moved l n) eo) j) (s j) (d j)) ∙ ap (found_outcome T es l ws buffer) (sym f)

    pub found_out_lem : (n : ℕ) → r ≡ Out n → (x : Listing) (u : Bool) → x ≡ moved l n u → u ≡ false → outcome (answered End) x ws'' buffer ≡ found_outcome T es l ws buffer whole
    unfolding found_outcome
    found_out_lem n er x u ex eu =
        let o = searched-out n ws'' (behind ws) finds (ap (λ (y : Searched). searched y ws'') (sym er) ∙ answers) in
        let f : whole ≡ out n = sym whole_is ∙ o.0 in
        let s : ws'' ≡ zeroed scratch_words ws = o.1 ∙ sym (trial_behind [] ws (omega arith)) ∙ none-zeroed ws in
        (λ j. outcome (answered End) ((ex ∙ ap (moved l n) eu) j) (s j) buffer) ∙ ap (found_outcome T es l ws buffer) (sym f)

    pub found-over : r ≡ Over → (x : Listing) (n : ℕ) (u : Bool) → x ≡ moved l n u → n ≡ trial_limit → u ≡ false → outcome (refused 13 0) x ws'' buffer ≡ found_outcome T es l ws buffer whole
    unfolding found_outcome
    found-over er x n u ex en eu =
        let o = searched-over ws'' (behind ws) finds (ap (λ (y : Searched). searched y ws'') (sym er) ∙ answers) in
        let f : whole ≡ over = sym whole_is ∙ o.0 in
        let s : ws'' ≡ zeroed scratch_words ws = o.1 ∙ sym (trial_behind [] ws (omega arith)) ∙ none-zeroed ws in
        (λ j. outcome (refused 13 0) ((ex ∙ (λ k. moved l (en k) (eu k))) j) (s j) buffer) ∙ ap (found_outcome T es l ws buffer) (sym f)
