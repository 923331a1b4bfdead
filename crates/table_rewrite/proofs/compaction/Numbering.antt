-- Marks and new numbers for all three kinds in one list: once the heads are marked, one ascending pass that marks the next of each marked record decides `reached`
-- and numbers it. One law for each way through a turn of the loops.
use mathlib.Core.Path.{◌≡◌, refl, sym, ap, ◌∙◌}
use mathlib.Core.Bool.{true, false}
use mathlib.Core.List.{List}
use Prim.Native.Nat.{ℕ, zero, ◌+◌, ◌-◌, ◌≤◌, ◌<◌}
use native.Mathlib.Omega.{arith}
use native.Mathlib.Numerals.{add-one}
use lib.ListN.{length, get_or, set, replicate, length-set}
use lib.Seq.{get_or-set_same, get_or-set_other}
use lib.Dec.{eqb, ltb}
use borrow.Author.Tests.{eqb-true, eqb-false, ltb-true, ltb-false}
use Rattle.lr1_base.specs.repr.Sizes.{record_limit}
use Rattle.lr1_base.proofs.repr.Lists.{cases, clash}
use Rattle.table.specs.Words.{word_at, records, states, productions, state_area, production_area, loose, loose_records}
use Rattle.table.specs.Reached.{Reached, head, next}
use Rattle.table.proofs.Chains.{good_of}
use Rattle.table.proofs.Reached.{reached-symbol, reached-item, reached_edge, loose-named}
use Rattle.table.proofs.Accepted.{Accepts, areas_of}
use Rattle.table_rewrite.specs.compaction.Compaction.{reached, rank, moved, count_of}
use Rattle.table_rewrite.specs.compaction.Passes.{Headed, HeadsMarked, Numbering, Numbers, Numbered}
use Rattle.table_rewrite.proofs.compaction.Ranks.{rank-yes, rank_no, rank-none, rank_bound}
use Rattle.table_rewrite.proofs.compaction.Moves.{by_kind, as_symbol_lem, as_item_lem, as_edge_lem, reached-place, reached-some, reached-next, reached-closed, symbol_headed, item_headed, edge_headed, moved_is, moved-zero}
use Rattle.lr1_base.proofs.laws.Lists.{zero_at}

-- a number that is 0, or not
zero_or {ℓ} : {P : Type ℓ} (n : ℕ) → (n ≡ 0 → P) → ((n ≡ 0 → ⊥) → P) → P
zero_or n f g = cases (eqb n 0) (λ q. f (eqb-true n 0 q)) (λ q. g (eqb-false n 0 q))

module _ (t : List ℕ) where
  pub none_before : (x : ℕ) → x < loose t → reached t x ≡ false
  none_before x h = cases (reached t x) (λ e. let p = reached-place t x e in absurd (omega (arith, p.0))) (λ e. e)

  -- the new number is at or before the record in hand
  pub write_low : (m : ℕ) → loose t ≤ m → loose t + rank t m ≤ m
  unfolding rank
  write_low m h = rank_bound (reached t) (loose t) m none_before h

  pub moved_down : (x : ℕ) → reached t x ≡ true → moved t x ≤ x
  moved_down x e = let m = moved_is t x e in let p = reached-place t x e in let w = write_low x p.0 in omega arith

-- the heads

at_record : (t : List ℕ) (k a r : ℕ) → a ≡ r → ((word_at t a k ≡ 0 → ⊥) → reached t (word_at t a k) ≡ true) → (word_at t r k ≡ 0 → ⊥) → reached t (word_at t r k) ≡ true
at_record t k a r z f = rw (← z) f

module _ (t : List ℕ) (A : Accepts t) where
  pub items_headed : Headed t (state_area t) (production_area t) 0
  unfolding Headed
  items_headed r h l =
      let d = areas_of t in
      at_record t 0 (state_area t + (r - state_area t)) r (omega arith) (item_headed t A (r - state_area t) (omega arith))

  pub others_headed : Headed t (state_area t) (loose t) 1
  unfolding Headed
  others_headed r h l =
      let d = areas_of t in
      cases (ltb r (production_area t))
      (λ q.
      let b = ltb-true r (production_area t) q in
      at_record t 1 (state_area t + (r - state_area t)) r (omega arith) (edge_headed t A (r - state_area t) (omega arith)))
      (λ q.
      let b = ltb-false r (production_area t) q in
      at_record t 1 (production_area t + (r - production_area t)) r (omega arith) (symbol_headed t A (r - production_area t) (omega arith)))

module _ (t : List ℕ) (first k : ℕ) (ms : List ℕ) where
  pub heads_none : HeadsMarked t first first k ms ms
  heads_none = record { long = refl; heads = λ r h l. absurd (omega arith); stays = λ x n. n; sound = λ f. f }

  module _ (r : ℕ) (ms' : List ℕ) (H : HeadsMarked t first r k ms ms') where
    pub heads_zero : word_at t r k ≡ 0 → HeadsMarked t first (r + 1) k ms ms'
    heads_zero e = record {
      long = H.long;
      heads = λ j h l ne.
          cases (eqb j r)
          (λ q. absurd (ne (ap (λ (i : ℕ). word_at t i k) (eqb-true j r q) ∙ e)))
          (λ q. let d = eqb-false j r q in H.heads j h (omega arith) ne);
      stays = H.stays;
      sound = H.sound;
    }

    pub heads_put : (x : ℕ) → x ≡ word_at t r k → x < length ms' → reached t x ≡ true → HeadsMarked t first (r + 1) k ms (set ms' x 1)
    heads_put x e h R = record {
      long = simp length-set H.long;
      heads = λ j a l ne.
          cases (eqb j r)
          (λ q. rw (eqb-true j r q, ← e) (λ z. let y = same in omega arith))
          (λ q. let d = eqb-false j r q in still (word_at t j k) (H.heads j a (omega arith) ne));
      stays = λ z n. still z (H.stays z n);
      sound = λ f z n.
          cases (eqb z x)
          (λ q. ap (reached t) (eqb-true z x q) ∙ R)
          (λ q. H.sound f z (λ y. n (get_or-set_other ms' x z 1 0 (eqb-false z x q) ∙ y)));
    }
      where
        same : get_or (set ms' x 1) x 0 ≡ 1
        same = get_or-set_same ms' x 1 0 h

        still : (z : ℕ) → (get_or ms' z 0 ≡ 0 → ⊥) → get_or (set ms' x 1) z 0 ≡ 0 → ⊥
        still z n o =
            cases (eqb z x)
            (λ q. let y : get_or (set ms' x 1) x 0 ≡ 0 = rw (eqb-true z x q) at o in let w = same in omega arith)
            (λ q. n (sym (get_or-set_other ms' x z 1 0 (eqb-false z x q)) ∙ o))

-- the pass

-- where it begins
pub numbering_start : (t ms ms₁ ms₂ : List ℕ) (n : ℕ) → ms ≡ replicate n 0 → HeadsMarked t (state_area t) (production_area t) 0 ms ms₁ → HeadsMarked t (state_area t) (loose t) 1 ms₁ ms₂
    → Numbering t ms₂ (loose t)
numbering_start t ms ms₁ ms₂ n e H K = record {
  sound = K.sound (H.sound (λ x ne. absurd (ne (ap (λ (l : List ℕ). get_or l x 0) e ∙ zero_at n x))));
  items = λ r h l ne. K.stays (word_at t r 0) (H.heads r h l ne);
  others = K.heads;
  nexts = λ x h q. let p = reached-place t x q in absurd (omega (arith, p.0));
  done = λ x h q. let p = reached-place t x q in absurd (omega (arith, p.0));
}

module _ (t ms : List ℕ) (m : ℕ) (K : Numbering t ms m) where
  from-symbol : (x : ℕ) → x ≤ m → Reached t (production_area t) (productions t) 1 x → get_or ms x 0 ≡ 0 → ⊥
  from-symbol x h (head i y l e ne g) =
      let d = areas_of t in
      rw e (K.others (production_area t + i) (omega arith) (omega arith) (λ q. ne (e ∙ q)))
  from-symbol x h (next r y R e ne g) =
      let n = loose-named t r x g in
      rw e (K.nexts r (omega (arith, n.later)) (as_symbol_lem t r ((reached-symbol t r).1 R)) (λ q. ne (e ∙ q)))

  from_item_lem : (x : ℕ) → x ≤ m → Reached t (state_area t) (states t) 0 x → get_or ms x 0 ≡ 0 → ⊥
  from_item_lem x h (head i y l e ne g) =
      let d = areas_of t in
      rw e (K.items (state_area t + i) (omega arith) (omega arith) (λ q. ne (e ∙ q)))
  from_item_lem x h (next r y R e ne g) =
      let n = loose-named t r x g in
      rw e (K.nexts r (omega (arith, n.later)) (as_item_lem t r ((reached-item t r).1 R)) (λ q. ne (e ∙ q)))

  from_edge : (x : ℕ) → x ≤ m → Reached t (state_area t) (states t) 1 x → get_or ms x 0 ≡ 0 → ⊥
  from_edge x h (head i y l e ne g) =
      let d = areas_of t in
      rw e (K.others (state_area t + i) (omega arith) (omega arith) (λ q. ne (e ∙ q)))
  from_edge x h (next r y R e ne g) =
      let n = loose-named t r x g in
      rw e (K.nexts r (omega (arith, n.later)) (as_edge_lem t r ((reached_edge t r).1 R)) (λ q. ne (e ∙ q)))

  complete : (x : ℕ) → x ≤ m → reached t x ≡ true → get_or ms x 0 ≡ 0 → ⊥
  complete x h =
      by_kind t x
      (λ e. from-symbol x h ((reached-symbol t x).0 e))
      (λ e. from_item_lem x h ((reached-item t x).0 e))
      (λ e. from_edge x h ((reached_edge t x).0 e))

  -- the number of the record in hand tells whether it is reached
  pub numbered_no : get_or ms m 0 ≡ 0 → reached t m ≡ false
  numbered_no e = cases (reached t m) (λ q. absurd (complete m (omega arith) q e)) (λ q. q)

  pub numbered-yes : (get_or ms m 0 ≡ 0 → ⊥) → reached t m ≡ true
  numbered-yes = K.sound m

  -- not reached: nothing to do
  pub numbering_skip : get_or ms m 0 ≡ 0 → Numbering t ms (m + 1)
  numbering_skip o = record {
    sound = K.sound;
    items = K.items;
    others = K.others;
    nexts = λ x h e. K.nexts x (before x h e) e;
    done = λ x h e. K.done x (before x h e) e;
  }
    where
      before : (x : ℕ) → x < m + 1 → reached t x ≡ true → x < m
      before x h e =
          cases (eqb x m)
          (λ q. clash (reached t m) (sym (ap (reached t) (eqb-true x m q)) ∙ e) (numbered_no o))
          (λ q. let d = eqb-false x m q in omega arith)

  -- reached: it is numbered, and its next is marked
  pub numbering_put : Accepts t → (ms' : List ℕ) (n : ℕ) → reached t m ≡ true → n ≡ moved t m → Numbered t ms ms' m n → Numbering t ms' (m + 1)
  numbering_put A ms' n R en N = record {
    sound = λ x ne.
        cases (eqb x m)
        (λ q. ap (reached t) (eqb-true x m q) ∙ R)
        (λ q.
        cases (eqb x (word_at t m 0))
        (λ p.
        let z = eqb-true x (word_at t m 0) p in
        zero_or x
        (λ o. K.sound x (λ y. ne (ap (λ (i : ℕ). get_or ms' i 0) o ∙ N.zero ∙ sym (ap (λ (i : ℕ). get_or ms i 0) o) ∙ y)))
        (λ o. ap (reached t) z ∙ reached-closed t A m R (λ y. o (z ∙ y))))
        (λ p. K.sound x (λ y. ne (N.others x (eqb-false x m q) (eqb-false x (word_at t m 0) p) ∙ y))));
    items = λ r h l ne. still (word_at t r 0) (K.items r h l ne);
    others = λ r h l ne. still (word_at t r 1) (K.others r h l ne);
    nexts = λ x h e.
        cases (eqb x m)
        (λ q. rw (eqb-true x m q) N.next)
        (λ q. let d = eqb-false x m q in λ ne. still (word_at t x 0) (K.nexts x (omega arith) e ne));
    done = λ x h e.
        cases (eqb x m)
        (λ q. rw (eqb-true x m q) (N.here ∙ en))
        (λ q.
        let d = eqb-false x m q in
        N.others x d (apart x (omega arith) e) ∙ K.done x (omega arith) e);
  }
    where
      -- the next of m lies behind it
      apart : (x : ℕ) → x < m → reached t x ≡ true → x ≡ word_at t m 0 → ⊥
      apart x h e z =
          zero_or (word_at t m 0)
          (λ o. reached-some t x e (z ∙ o))
          (λ o. let l = loose-named t m (word_at t m 0) (good_of (loose_records t) m (word_at t m 0) (reached-next t A m R) o) in omega (arith, l.later))

      number-some : n ≡ 0 → ⊥
      number-some z = let k = moved_is t m R in let d = areas_of t in omega arith

      still : (y : ℕ) → (get_or ms y 0 ≡ 0 → ⊥) → get_or ms' y 0 ≡ 0 → ⊥
      still y ne o =
          cases (eqb y m)
          (λ q. number-some (sym N.here ∙ sym (ap (λ (i : ℕ). get_or ms' i 0) (eqb-true y m q)) ∙ o))
          (λ q.
          cases (eqb y (word_at t m 0))
          (λ p.
          let z = eqb-true y (word_at t m 0) p in
          zero_or y
          (λ w. ne (ap (λ (i : ℕ). get_or ms i 0) w ∙ sym N.zero ∙ sym (ap (λ (i : ℕ). get_or ms' i 0) w) ∙ o))
          (λ w. N.next (λ v. w (z ∙ v)) (sym (ap (λ (i : ℕ). get_or ms' i 0) z) ∙ o)))
          (λ p. ne (sym (N.others y (eqb-false y m q) (eqb-false y (word_at t m 0) p)) ∙ o)))

-- the count beside it
pub count_no : (t : List ℕ) (m : ℕ) → reached t m ≡ false → rank t (m + 1) ≡ rank t m
unfolding rank
count_no t m e = rw (add-one m) (rank_no (reached t) m e)

pub count_yes : (t : List ℕ) (m : ℕ) → reached t m ≡ true → rank t (m + 1) ≡ rank t m + 1
unfolding rank
count_yes t m e = rw (add-one m) (let r = rank-yes (reached t) m e in omega arith)

pub count_start : (t ms : List ℕ) (r : ℕ) → r ≡ loose t → Numbering t ms (loose t) → (r ≡ loose t + rank t r) × Numbering t ms r
unfolding rank
count_start t ms r e K =
    let z = rank-none (reached t) (loose t) (none_before t) in
    rw e (omega arith, K)

-- where it ends
pub numbering_end : (t ms : List ℕ) (r count : ℕ) → r ≡ records t → count ≡ loose t + rank t r → length ms ≡ record_limit → Numbering t ms r → (count ≡ count_of t) × Numbers t ms
unfolding count_of
numbering_end t ms r count e n l K = (
  n ∙ ap (λ (i : ℕ). loose t + rank t i) e,
  record {
    long = l;
    new = λ x q. let p = reached-place t x q in K.done x (omega (arith, p.1)) q;
    none = λ x q. zero_or (get_or ms x 0) (λ o. o) (λ o. clash (reached t x) (K.sound x o) q);
  },
)

pub numbers-yes : (t ms : List ℕ) → Numbers t ms → (x : ℕ) → (get_or ms x 0 ≡ 0 → ⊥) → reached t x ≡ true
numbers-yes t ms N x ne = cases (reached t x) (λ e. e) (λ e. absurd (ne (N.none x e)))

pub numbers_no : (t ms : List ℕ) → Numbers t ms → (x : ℕ) → get_or ms x 0 ≡ 0 → reached t x ≡ false
numbers_no t ms N x o =
    cases (reached t x)
    (λ e. let n = N.new x e in let m = moved_is t x e in let d = areas_of t in absurd (omega arith))
    (λ e. e)

-- the number of an index that is 0, or a reached record
pub numbers_index : (t ms : List ℕ) → Numbers t ms → (x : ℕ) → ((x ≡ 0 → ⊥) → reached t x ≡ true) → get_or ms x 0 ≡ moved t x
numbers_index t ms N x f =
    zero_or x
    (λ o. rw o (N.none 0 (cases (reached t 0) (λ e. absurd (reached-some t 0 e refl)) (λ e. e)) ∙ sym (moved-zero t)))
    (λ o. N.new x (f o))

-- a turn of `number_one`

module _ (t ms : List ℕ) (r n : ℕ) (h : r < length ms) where
  pub numbered-last : word_at t r 0 ≡ 0 → 0 < r → Numbered t ms (set ms r n) r n
  numbered-last e p = record {
    long = simp length-set;
    here = get_or-set_same ms r n 0 h;
    next = λ ne. absurd (ne e);
    others = λ x a b. get_or-set_other ms r x n 0 a;
    zero = get_or-set_other ms r 0 n 0 (λ z. omega arith);
  }

  pub numbered_more : (x : ℕ) → x ≡ word_at t r 0 → r < x → x < length ms → 0 < r → Numbered t ms (set (set ms x 1) r n) r n
  numbered_more x e l k p = record {
    long = simp length-set;
    here = get_or-set_same (set ms x 1) r n 0 (simp length-set h);
    next = λ ne. rw (← e) (λ z. let y = get_or-set_other (set ms x 1) r x n 0 (λ q. omega arith) ∙ get_or-set_same ms x 1 0 k in omega arith);
    others = λ y a b. get_or-set_other (set ms x 1) r y n 0 a ∙ get_or-set_other ms x y 1 0 (λ q. b (q ∙ e));
    zero = get_or-set_other (set ms x 1) r 0 n 0 (λ z. omega arith) ∙ get_or-set_other ms x 0 1 0 (λ z. omega arith);
  }

-- what the code reads

pub head_at : (t : List ℕ) (first past k r x : ℕ) → Headed t first past k → first ≤ r → r < past → x ≡ word_at t r k → (x ≡ 0 → ⊥) → reached t x ≡ true
unfolding Headed
head_at t first past k r x H a b e ne = ap (reached t) e ∙ H r a b (λ z. ne (e ∙ z))

pub reached-below : (t : List ℕ) → Accepts t → (x : ℕ) → reached t x ≡ true → x < record_limit
reached-below t A x e = let p = reached-place t x e in omega (arith, p.1, A.few_records)

-- a next index that is not 0 lies behind its record, and within the table
pub next-later : (t : List ℕ) → Accepts t → (r x : ℕ) → reached t r ≡ true → x ≡ word_at t r 0 → (x ≡ 0 → ⊥) → (r < x) × (x < record_limit)
next-later t A r x R e ne =
    let l = loose-named t r (word_at t r 0) (good_of (loose_records t) r (word_at t r 0) (reached-next t A r R) (λ z. ne (e ∙ z))) in
    (omega (arith, l.later, e), omega (arith, l.early, e, A.few_records))
