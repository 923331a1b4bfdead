-- `build_canonical`: whatever is answered with a table, the table has the book's states and the list all their conflicts.
use mathlib.Core.Path.{◌≡◌, refl, sym, ap, ◌∙◌}
use mathlib.Core.Bool.{true, false}
use mathlib.Core.List.{List, [], ◌++◌}
use Prim.Native.Nat.{ℕ, ◌*◌, ◌/◌, ◌<◌}
use native.Mathlib.Omega.{arith}
use lib.Dec.{ltb}
use lib.ListN.{length, get_or, take, drop}
use lib.Seq.{take_at}
use borrow.Author.Tests.{ltb-true, ltb-false}
use Rattle.lr1_base.specs.words.Lent.{in_front}
use Rattle.lr1_base.specs.repr.Meaning.{Edge, State, Table, no_state, state_at}
use Rattle.lr1_base.proofs.repr.Lists.{cases, get_d_map-below, length-map-below}
use Rattle.lr1_base.specs.repr.Reply.{answered as told, refused as declined}
use Rattle.table.specs.Checked.{Checked, Accepted, Refused as NotAccepted}
use Rattle.table.specs.Decoded.{meaning}
use Rattle.table.specs.Refusals.{check_of}
use Rattle.table.proofs.Decoding.{fits}
use Rattle.table_rewrite.specs.spelling.Spelled.{edge_lists, records_of, spell}
use Rattle.table_rewrite.proofs.spelling.Places.{spell-length}
use Rattle.lr1_states.specs.canonical.States.{built, build, written, clashes}
use Rattle.lr1_states.specs.canonical.Built.{built_state, built_table, conflict_words}
use Rattle.lr1_states.specs.canonical.Outcome.{Outcome, refused, full, outcome}
use Rattle.lr1_states.proofs.canonical.Built.{clash_fits}
use Rattle.lr1_states.proofs.canonical.Collection.{build_right}
use Rattle.lr1_states.proofs.canonical.Canonical.{canonical, reached, states_differ}
use Rattle.lr1_states.proofs.canonical.Order.{found_in_order}
use Rattle.lr1_states.proofs.canonical.Conflicts.{written_exact, conflicts_exact}
use Rattle.lr1_states.proofs.canonical.Ascending.{written_ascend, conflicts_ascend}
use Rattle.lr1_states.proofs.canonical.Refusals.{outcome-full}
use Rattle.lr1_tables.proofs.conflict_list.Laws.{list_long}
use Rattle.lr1_tables.specs.Outcome.{Left, build_scratch, start_is_fit, conflict_count, built_of, built_in, build_of}
use Rattle.lr1_tables.specs.Canonical.{set_of, IsCanonical}
use Rattle.lr1_tables.specs.declared.Built.{Built}
use Rattle.lr1_tables.proofs.Written.{edges_are, build_accepted, build-meaning, build_spelling}
use Rattle.lr1_tables.proofs.Ways.{in_short, in_unfit, build-refused, build_checked}
use Rattle.lr1_base.proofs.laws.Bools.{and-true}

-- what was found, in the book's terms

module _ (t : List ℕ) (accepted : check_of t ≡ Accepted) (start room words : ℕ) (h : start < length (meaning t).productions) (Rs : List (List ℕ)) (es : List (List Edge))
    (e : outcome (meaning t) start room words ≡ full Rs es) where
  abbrev U : Table
  U = built_table (meaning t) Rs es

  whole : build (meaning t) start ≡ built Rs es
  whole = (outcome-full (meaning t) start room words Rs es e).0

  means : meaning (spell U) ≡ U
  means = build-meaning t accepted start room words h Rs es e

  lists : edge_lists U ≡ es
  lists = let r = build_right (meaning t) (fits t accepted) start h Rs es whole in edges_are (meaning t) Rs es (omega (arith, r.0.taken, r.1))

  state_of_lem : (k : ℕ) → k < length Rs → (state_at U k).items ≡ written (get_or Rs k [])
  unfolding built_table built_state
  state_of_lem k l = ap (λ (s : State). s.items) (get_d_map-below (built_state Rs es) (length Rs) k no_state l)

  state_many : length U.states ≡ length Rs
  unfolding built_table
  state_many = length-map-below (built_state Rs es) (length Rs)

  found_canonical : IsCanonical (meaning t) start (spell U) (conflict_words (meaning t) Rs)
  unfolding built_table conflict_words
  found_canonical =
      let T : Table = meaning t in
      let F = fits t accepted in
      let r = build_right T F start h Rs es whole in
      record {
        accepted = build_accepted t accepted start room words h Rs es e;
        spelling = build_spelling t accepted start room words h Rs es e;
        terminals = ap (λ (W : Table). W.terminals) means;
        nonterminals = ap (λ (W : Table). W.nonterminals) means;
        productions = ap (λ (W : Table). W.productions) means;
        states = Rs;
        many = ap (λ (W : Table). length W.states) means ∙ state_many;
        canonical = λ w k. rw (means, lists) (canonical T F start h Rs es whole w k);
        reached = λ k l. rw (means, lists) (reached T F start h Rs es whole k l);
        differ = λ j k l m q. states_differ T F start h Rs es whole j k (set_of (get_or Rs k [])) l m (λ i a. ((q i a).1, (q i a).0)) (λ i a. ((λ x. x), (λ x. x)));
        in_order = rw (means, lists) (found_in_order T start Rs es whole);
        items = λ k l i. rw (means, state_of_lem k l) (written_exact T F (get_or Rs k []) (set_of (get_or Rs k [])) (r.0.found.good k l).sized (λ j a. ((λ x. x), (λ x. x))) i);
        items_ascend = λ k l. rw (means, state_of_lem k l) (written_ascend (get_or Rs k []));
        conflicts = λ k. clashes T (get_or Rs k []);
        words = refl;
        exact = λ k l c. conflicts_exact T F (get_or Rs k []) (set_of (get_or Rs k [])) (r.0.found.good k l).sized (λ j a. ((λ x. x), (λ x. x))) c;
        ascend = λ k l. conflicts_ascend T (get_or Rs k []);
        inside = λ k l c m. let f = clash_fits T F start h Rs es whole k l c m in rw means (record { production = f.production; token = f.token; shift = f.shift; reduction = f.reduction });
      }

-- a call that answers a table was not refused on the way

pub record Answered (t : List ℕ) (start : ℕ) (scratch out list : List ℕ) (n c : ℕ) : Type 0 where
  pub accepted : check_of t ≡ Accepted
  pub start_in_lem : start < length (meaning t).productions
  pub Rs : List (List ℕ)
  pub es : List (List Edge)
  pub is : outcome (meaning t) start (length out / 4) (length list) ≡ full Rs es
  pub records : n ≡ records_of (built_table (meaning t) Rs es)
  pub count : c ≡ conflict_count (meaning t) Rs
  pub written : (build_of t start scratch out list).out ≡ in_front (spell (built_table (meaning t) Rs es)) out
  pub listed : (build_of t start scratch out list).conflicts ≡ in_front (conflict_words (meaning t) Rs) list

apart : (m r : ℕ) (b : Built) → declined m r ≡ told b → ⊥
apart m r b e = let z : ◌≡◌ {A = ℕ} 0 1 = cc in omega arith

same : (a b : Built) → told a ≡ told b → (b.records ≡ a.records) × (b.conflicts ≡ a.conflicts)
same a b e = let q : b ≡ a = cc in (ap (λ (d : Built). d.records) q, ap (λ (d : Built). d.conflicts) q)

front_of : (new old : List ℕ) → in_front new old ≡ new ++ drop (length new) old
unfolding in_front
front_of new old = refl

count_is : (T : Table) (Rs : List (List ℕ)) (c : ℕ) → c ≡ conflict_count T Rs → length (conflict_words T Rs) ≡ 5 * c
unfolding conflict_count
count_is T Rs c q = rw q (list_long T Rs)

start-inside : (T : Table) (start : ℕ) → start_is_fit T start ≡ true → start < length T.productions
unfolding start_is_fit
start-inside T start f = ltb-true start (length T.productions) (and-true _ _ f).0

module _ (t : List ℕ) (start : ℕ) (scratch out list : List ℕ) where
  abbrev left : Left
  left = build_of t start scratch out list

  searched : check_of t ≡ Accepted → ltb (length scratch) build_scratch ≡ false → start_is_fit (meaning t) start ≡ true
      → left ≡ built_of (meaning t) scratch out list (outcome (meaning t) start (length out / 4) (length list))
  unfolding build_of built_in
  searched q f g = rw (q, build_of, f, built_in, g)

  module _ (n c : ℕ) (e : left.answer ≡ told (record { records = n; conflicts = c })) where
    found : check_of t ≡ Accepted → start_is_fit (meaning t) start ≡ true → (o : Outcome) → outcome (meaning t) start (length out / 4) (length list) ≡ o
        → left ≡ built_of (meaning t) scratch out list o → Answered t start scratch out list n c
    unfolding built_of
    found a f (refused m) q r = absurd (apart m 0 _ (ap (λ (l : Left). l.answer) (sym r) ∙ e))
    found a f (full Rs es) q r =
        let s = same (record { records = records_of (built_table (meaning t) Rs es); conflicts = conflict_count (meaning t) Rs }) (record { records = n; conflicts = c }) (ap (λ (l : Left). l.answer) (sym r) ∙ e) in
        record {
          accepted = a;
          start_in_lem = start-inside (meaning t) start f;
          Rs = Rs;
          es = es;
          is = q;
          records = s.0;
          count = s.1;
          written = ap (λ (l : Left). l.out) r;
          listed = ap (λ (l : Left). l.conflicts) r;
        }

    answered : Answered t start scratch out list n c
    answered = by (check_of t) refl
      where
        by : (d : Checked) → check_of t ≡ d → Answered t start scratch out list n c
        by (NotAccepted m r) q = absurd (apart m r _ (ap (λ (l : Left). l.answer) (build-refused t start scratch out list m r q) ∙ e))
        by Accepted q =
            cases (ltb (length scratch) build_scratch)
            (λ f. absurd (apart 11 0 _ (ap (λ (l : Left). l.answer) (build_checked t start scratch out list q _ (in_short (meaning t) start scratch out list (ltb-true (length scratch) build_scratch f))) ∙ e)))
            (λ f.
            cases (start_is_fit (meaning t) start)
            (λ g. found q g (outcome (meaning t) start (length out / 4) (length list)) refl (searched q f g))
            (λ g. absurd (apart 18 0 _ (ap (λ (l : Left). l.answer) (build_checked t start scratch out list q _ (in_unfit (meaning t) start scratch out list (ltb-false (length scratch) build_scratch f) _ g refl)) ∙ e))))

    -- the table in front of the output has the book's states, the list in front of the other all conflicts
    pub build_canonical : IsCanonical (meaning t) start (take (4 * n) left.out) (take (5 * c) left.conflicts)
    build_canonical =
        let w = answered in
        let U : Table = built_table (meaning t) w.Rs w.es in
        let l = spell-length U in
        let u : take (4 * n) left.out ≡ spell U = ap (take (4 * n)) (w.written ∙ front_of (spell U) out) ∙ take_at (spell U) (drop (length (spell U)) out) (4 * n) (omega (arith, w.records)) in
        let cs : List ℕ = conflict_words (meaning t) w.Rs in
        let v : take (5 * c) left.conflicts ≡ cs = ap (take (5 * c)) (w.listed ∙ front_of cs list) ∙ take_at cs (drop (length cs) list) (5 * c) (count_is (meaning t) w.Rs c w.count) in
        rw (u, v) (found_canonical t w.accepted start (length out / 4) (length list) w.start_in_lem w.Rs w.es w.is)
