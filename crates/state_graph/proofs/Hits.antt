-- Laws of the hits of specs/Hits.
use mathlib.Core.Path.{◌≡◌, refl, sym, ap, ◌∙◌}
use mathlib.Core.Bool.{Bool, true, false, ◌&&◌, ◌||◌, and-false, and-true, or-false}
use mathlib.Core.List.{List, []}
use Prim.Native.Nat.{ℕ, zero, suc, ◌+◌, ◌-◌, ◌/◌, ◌^◌, ◌≤◌, ◌<◌}
use native.Mathlib.Omega.{arith}
use lib.Dec.{eqb, ltb}
use lib.ListN.{length, replicate, length-replicate}
use borrow.Author.Tests.{eqb-true, eqb-false, eq-eqb, ne_eqb, ltb-true, ltb-false, lt-ltb, le-ltb}
use Rattle.lr1_base.specs.repr.Lists.{some?}
use Rattle.lr1_base.specs.repr.Meaning.{Symbol, is_same_symbol, Edge, Table, TableFits, state_at}
use Rattle.lr1_base.specs.repr.Listed.{symbol_of_kind, symbol_is_fit}
use Rattle.lr1_base.proofs.repr.Lists.{cases, turned}
use Rattle.lr1_base.proofs.repr.Listed.{symbol_range}
use Rattle.lr1_base.proofs.repr.Tests.{some?-nil, some?-cons}
use Rattle.table.specs.Checked.{Accepted}
use Rattle.table.specs.Words.{word_at, records, loose, loose_records}
use Rattle.table.specs.Decoded.{meaning, edges_from}
use Rattle.table.specs.Refusals.{check_of, as_edge}
use Rattle.table.specs.Index.{EdgeIndex, EdgeRead}
use Rattle.table.proofs.Accepted.{accepts, areas_of}
use Rattle.table.proofs.Held.{edge_inside}
use Rattle.table.proofs.Indexes.{edge_read_lem}
use Rattle.state_graph.specs.States.{has_state, states_in}
use Rattle.state_graph.specs.Walk.{leads, predecessors}
use Rattle.state_graph.proofs.Exact.{leads-outside}
use Rattle.state_graph.proofs.States.{mem-states-word}
use Rattle.table.proofs.Chains.{chain_end}
use Rattle.state_graph.proofs.Steps.{stepped}
use Rattle.lr1_base.specs.bits.Bits.{bit_at, bit_put}
use Rattle.lr1_base.proofs.bits.Laws.{put-length, put_here, put_other, zeros_none}
use Rattle.state_graph.specs.Hits.{hit_words, goes_in, has_end_in, is_hit_now, meets, Hits}

-- an edge index that is not 0 is a record of the table
pub index_inside : (t : List ℕ) (r : ℕ) → (r ≡ 0 → ⊥) → EdgeIndex t r → r < records t
index_inside t r ne i = (edge_inside t r (i.reached ne)).1

pub edges_none : (t : List ℕ) → edges_from t 0 ≡ []
unfolding edges_from
edges_none t = rw (chain_end t (loose_records t) 0)

-- an edge

pub same_words_lem : (n m k x j y : ℕ) → symbol_is_fit n m k x ≡ true → symbol_is_fit n m j y ≡ true → (eqb j k && eqb y x) ≡ is_same_symbol (symbol_of_kind k x) (symbol_of_kind j y)
unfolding symbol_is_fit symbol_of_kind is_same_symbol
same_words_lem n m zero x zero y f g = rw (turned y x)
same_words_lem n m zero x (suc j) y f g = rw (ne_eqb (suc j) 0 (λ q. omega arith))
same_words_lem n m (suc k) x zero y f g = rw (ne_eqb 0 (suc k) (λ q. omega arith))
same_words_lem n m (suc k) x (suc j) y f g =
    let a = (symbol_range n m (suc k) x f).0 in
    let b = (symbol_range n m (suc j) y g).0 in
    rw (eq-eqb (suc j) (suc k) (omega arith), turned y x)

-- with the target
pub meets_is : (n m k x l h j y z : ℕ) → h < 2 ^ 64 → symbol_is_fit n m k x ≡ true → symbol_is_fit n m j y ≡ true
    → (eqb j k && (eqb y x && has_state l h z)) ≡ meets (symbol_of_kind k x) (states_in l h) (record { symbol = symbol_of_kind j y; target = z })
unfolding meets
meets_is n m k x l h j y z hh f g =
    rw (mem-states-word l h z hh, ← same_words_lem n m k x j y f g) (three (eqb j k) (eqb y x) (has_state l h z))
  where
    three : (a b c : Bool) → (a && (b && c)) ≡ ((a && b) && c)
    three true b c = refl
    three false b c = refl

-- an edge of a chain and those after it
module _ (t : List ℕ) (ok : check_of t ≡ Accepted) (k x l h : ℕ) (f : symbol_is_fit (length (meaning t).nonterminals) (meaning t).terminals k x ≡ true) (hh : h < 2 ^ 64) (r : ℕ) (ne : r ≡ 0 → ⊥) (I : EdgeIndex t r) where
  pub record_read : EdgeRead t r (word_at t r 0) (word_at t r 1) (word_at t r 2) (word_at t r 3)
  record_read = edge_read_lem t (accepts t ok) r (word_at t r 0) (word_at t r 1) (word_at t r 2) (word_at t r 3) ne I refl refl refl refl

  pub edges_say : some? (meets (symbol_of_kind k x) (states_in l h)) (edges_from t r) ≡ (has_end_in t k x l h r || some? (meets (symbol_of_kind k x) (states_in l h)) (edges_from t (word_at t r 0)))
  unfolding has_end_in goes_in
  edges_say =
      let R = record_read in
      let e : Edge = record { symbol = symbol_of_kind (word_at t r 1) (word_at t r 2); target = word_at t r 3 } in
      let own = meets_is (length (meaning t).nonterminals) (meaning t).terminals k x l h (word_at t r 1) (word_at t r 2) (word_at t r 3) hh f R.symbol in
      ap (some? (meets (symbol_of_kind k x) (states_in l h))) R.list ∙ some?-cons (meets (symbol_of_kind k x) (states_in l h)) e (edges_from t (word_at t r 0))
      ∙ ap (λ (b : Bool). b || some? (meets (symbol_of_kind k x) (states_in l h)) (edges_from t (word_at t r 0))) (sym own)

-- the pass so far, down to record r: below r nothing is hit, from r on the edges are exact
pub record Sweeping (t : List ℕ) (k x l h : ℕ) (hs : List ℕ) (r : ℕ) : Type 0 where
  pub long : length hs ≡ hit_words
  pub within : r ≤ records t
  pub none : (j : ℕ) → j < r → bit_at hs j ≡ false
  pub exact : (j : ℕ) → r ≤ j → as_edge t j ≡ true → bit_at hs j ≡ some? (meets (symbol_of_kind k x) (states_in l h)) (edges_from t j)

module _ (t : List ℕ) (ok : check_of t ≡ Accepted) (k x l h : ℕ) where
  pub sweep_start : (hs : List ℕ) → hs ≡ replicate hit_words 0 → Sweeping t k x l h hs (records t)
  sweep_start hs e = record {
    long = ap length e ∙ length-replicate {A = ℕ} hit_words 0;
    within = omega arith;
    none = λ j i. rw e (zeros_none hit_words j);
    exact = λ j i a. let b = (edge_inside t j a).1 in absurd (omega arith);
  }

  module _ (f : symbol_is_fit (length (meaning t).nonterminals) (meaning t).terminals k x ≡ true) (hh : h < 2 ^ 64) (hs : List ℕ) (r : ℕ) (S : Sweeping t k x l h hs r) (p : 0 < r) where
    -- the record before, if it is an edge: what it and what follows it say
    now_exact : as_edge t (r - 1) ≡ true → is_hit_now t hs k x l h (r - 1) ≡ some? (meets (symbol_of_kind k x) (states_in l h)) (edges_from t (r - 1))
    unfolding is_hit_now
    now_exact a =
        let i = edge_inside t (r - 1) a in
        let few = (accepts t ok).few_records in
        let w = S.within in
        let ne : r - 1 ≡ 0 → ⊥ = λ z. loose-zero (r - 1) i.0 z in
        let I : EdgeIndex t (r - 1) = record { below = omega arith; reached = λ _. a } in
        ap (λ (b : Bool). has_end_in t k x l h (r - 1) || b) (rest (record_read t ok k x l h f hh (r - 1) ne I)) ∙ sym (edges_say t ok k x l h f hh (r - 1) ne I)
      where
        loose-zero : (j : ℕ) → loose t ≤ j → j ≡ 0 → ⊥
        loose-zero j i z = let A = areas_of t in omega (arith, A.loose-area)

        rest : EdgeRead t (r - 1) (word_at t (r - 1) 0) (word_at t (r - 1) 1) (word_at t (r - 1) 2) (word_at t (r - 1) 3)
            → (ltb (r - 1) (word_at t (r - 1) 0) && (ltb (word_at t (r - 1) 0) (records t) && bit_at hs (word_at t (r - 1) 0))) ≡ some? (meets (symbol_of_kind k x) (states_in l h)) (edges_from t (word_at t (r - 1) 0))
        rest R =
            cases (eqb (word_at t (r - 1) 0) 0)
            (λ q.
            let z = eqb-true (word_at t (r - 1) 0) 0 q in
            rw (z, le-ltb (r - 1) 0 (omega arith), edges_none t) (sym (some?-nil (meets (symbol_of_kind k x) (states_in l h)))))
            (λ q.
            let ne = eqb-false (word_at t (r - 1) 0) 0 q in
            let late = R.later ne in
            let inn = index_inside t (word_at t (r - 1) 0) ne R.on in
            rw (lt-ltb (r - 1) (word_at t (r - 1) 0) late, lt-ltb (word_at t (r - 1) 0) (records t) inn)
            (S.exact (word_at t (r - 1) 0) (omega arith) (R.on.reached ne)))

    place : (r - 1) / 64 < length hs
    place = let few = (accepts t ok).few_records in let w = S.within in let o = S.long in omega arith

    pub sweep_hit : (hs' : List ℕ) → is_hit_now t hs k x l h (r - 1) ≡ true → hs' ≡ bit_put hs (r - 1) → Sweeping t k x l h hs' (r - 1)
    sweep_hit hs' b e = rw e (record {
      long = put-length hs (r - 1) ∙ S.long;
      within = let w = S.within in omega arith;
      none = λ j i. put_other hs (r - 1) j place (λ q. omega arith) ∙ S.none j (omega arith);
      exact = λ j i a. cases (eqb j (r - 1))
          (λ q. let same = eqb-true j (r - 1) q in rw same (put_here hs (r - 1) place ∙ sym b ∙ now_exact (rw same at a)))
          (λ q. let ne = eqb-false j (r - 1) q in put_other hs (r - 1) j place ne ∙ S.exact j (omega (arith, ne)) a);
    })

    pub sweep_miss : is_hit_now t hs k x l h (r - 1) ≡ false → Sweeping t k x l h hs (r - 1)
    sweep_miss b = record {
      long = S.long;
      within = let w = S.within in omega arith;
      none = λ j i. S.none j (omega arith);
      exact = λ j i a. cases (eqb j (r - 1))
          (λ q. let same = eqb-true j (r - 1) q in rw same (S.none (r - 1) (omega arith) ∙ sym b ∙ now_exact (rw same at a)))
          (λ q. let ne = eqb-false j (r - 1) q in S.exact j (omega (arith, ne)) a);
    }

  pub sweep_done : (hs : List ℕ) (r : ℕ) → Sweeping t k x l h hs r → r ≡ 0 → Hits t k x l h hs
  sweep_done hs r S z = record { long = S.long; exact = λ j a. S.exact j (omega arith) a }

-- the states whose first edge is hit, below state s

pub record Finding (t : List ℕ) (k x l h a b s : ℕ) : Type 0 where
  pub within : s ≤ length (meaning t).states
  pub exact : (p : ℕ) → p < 128 → has_state a b p ≡ (ltb p s && leads (meaning t) (symbol_of_kind k x) (states_in l h) p)

pub leads-meets : (T : Table) (x : Symbol) (ss : List ℕ) (p : ℕ) → leads T x ss p ≡ some? (meets x ss) (state_at T p).edges
unfolding leads meets
leads-meets T x ss p = refl

module _ (t : List ℕ) (ok : check_of t ≡ Accepted) (k x l h : ℕ) where
  pub finding_start : (a b : ℕ) → ((p : ℕ) → has_state a b p ≡ false) → Finding t k x l h a b 0
  finding_start a b e = record { within = omega arith; exact = λ p i. rw (e p, le-ltb p 0 (omega arith)) }

  module _ (a b s : ℕ) (F : Finding t k x l h a b s) (i : s < length (meaning t).states) where
    more : (c d : ℕ) (v : Bool) → v ≡ leads (meaning t) (symbol_of_kind k x) (states_in l h) s → ((p : ℕ) → p < 128 → has_state c d p ≡ (has_state a b p || (eqb p s && v))) → Finding t k x l h c d (s + 1)
    more c d v ev f = record { within = omega arith; exact = one }
      where
        one : (p : ℕ) → p < 128 → has_state c d p ≡ (ltb p (s + 1) && leads (meaning t) (symbol_of_kind k x) (states_in l h) p)
        one p lp =
            f p lp ∙ rw (F.exact p lp)
            (cases (eqb p s)
            (λ q. let e = eqb-true p s q in rw (q, e, le-ltb s s (omega arith), lt-ltb s (s + 1) (omega arith)) ev)
            (λ q.
            let ne = eqb-false p s q in
            rw q (or-false (ltb p s && leads (meaning t) (symbol_of_kind k x) (states_in l h) p)
            ∙ cases (ltb p s)
            (λ u. let y = ltb-true p s u in rw (u, lt-ltb p (s + 1) (omega arith)))
            (λ u. let y = ltb-false p s u in rw (u, le-ltb p (s + 1) (omega (arith, ne)))))))

    stays : (v : Bool) → v ≡ false → (p : ℕ) → p < 128 → has_state a b p ≡ (has_state a b p || (eqb p s && v))
    stays v e p lp = rw (e, and-false (eqb p s)) (sym (or-false (has_state a b p)))

    pub finding_not : leads (meaning t) (symbol_of_kind k x) (states_in l h) s ≡ false → Finding t k x l h a b (s + 1)
    finding_not m = more a b false (sym m) (stays false refl)

    pub finding_led : leads (meaning t) (symbol_of_kind k x) (states_in l h) s ≡ true → (c d : ℕ) → ((p : ℕ) → has_state c d p ≡ (has_state a b p || (ltb p 128 && eqb p s))) → Finding t k x l h c d (s + 1)
    finding_led m c d f = more c d true (sym m) (λ p lp. f p ∙ rw (lt-ltb p 128 lp) (ap (λ (y : Bool). has_state a b p || y) (sym (and-true (eqb p s)))))

    module _ (head : ℕ) (e : edges_from t head ≡ (state_at (meaning t) s).edges) where
      head-leads : some? (meets (symbol_of_kind k x) (states_in l h)) (edges_from t head) ≡ leads (meaning t) (symbol_of_kind k x) (states_in l h) s
      head-leads = ap (some? (meets (symbol_of_kind k x) (states_in l h))) e ∙ sym (leads-meets (meaning t) (symbol_of_kind k x) (states_in l h) s)

      pub finding_miss : some? (meets (symbol_of_kind k x) (states_in l h)) (edges_from t head) ≡ false → Finding t k x l h a b (s + 1)
      finding_miss m = finding_not (sym head-leads ∙ m)

      pub finding_none : head ≡ 0 → Finding t k x l h a b (s + 1)
      finding_none z = finding_miss (rw (z, edges_none t) (some?-nil (meets (symbol_of_kind k x) (states_in l h))))

      pub finding_hit : some? (meets (symbol_of_kind k x) (states_in l h)) (edges_from t head) ≡ true → (c d : ℕ) → ((p : ℕ) → has_state c d p ≡ (has_state a b p || (ltb p 128 && eqb p s))) → Finding t k x l h c d (s + 1)
      finding_hit m = finding_led (sym head-leads ∙ m)

  pub finding_done : TableFits (meaning t) → (a b s : ℕ) → Finding t k x l h a b s → s ≡ length (meaning t).states → states_in a b ≡ predecessors (meaning t) (symbol_of_kind k x) (states_in l h)
  finding_done fits a b s F e =
      stepped (meaning t) (symbol_of_kind k x) (states_in l h) a b fits.few_states (λ p lp.
      F.exact p lp ∙ rw e (cases (ltb p (length (meaning t).states))
      (λ u. rw u)
      (λ u. rw u (sym (leads-outside (meaning t) (symbol_of_kind k x) (states_in l h) p (ltb-false p (length (meaning t).states) u))))))
