-- Moving in place: records are taken in ascending order and put at their new number, which is never larger than the old one, so nothing still to be read is lost;
-- then the heads follow and the end is freed. One law for each way through a turn of the loops; `compacted_by` joins the passes.
use mathlib.Core.Path.{◌≡◌, refl, sym, ap, ◌∙◌}
use mathlib.Core.Bool.{true, false}
use mathlib.Core.List.{List, ◌++◌}
use Prim.Native.Nat.{ℕ, ◌+◌, ◌-◌, ◌*◌, ◌≤◌, ◌<◌}
use native.Mathlib.Omega.{arith}
use lib.ListN.{length, get_or, take, replicate, set, length-set, length-append, length-replicate, get_or-append, get_or-eq_default}
use lib.Seq.{get_or-set_same, get_or-set_other, get_or-take, get_or-append_right, length-take-le}
use Rattle.std.proofs.lemmas.List.{get_or-replicate}
use lib.Dec.{eqb, ltb}
use borrow.Author.Tests.{eqb-true, eqb-false, ltb-true, ltb-false, le-leb, lt-leb, lt-ltb, le-ltb}
use Rattle.lr1_base.specs.repr.Sizes.{record_limit}
use Rattle.lr1_base.proofs.repr.Lists.{cases}
use Rattle.table.specs.Words.{word_at, records, state_area, production_area, loose}
use Rattle.table.specs.Refusals.{is_state}
use Rattle.table.specs.Quads.{Quad, quad_at, put_quad}
use Rattle.table.proofs.Quads.{made_quad, quads_known, put_long, put_here, put_others}
use Rattle.table.proofs.Accepted.{Accepts, areas_of}
use Rattle.table_rewrite.specs.compaction.Compaction.{reached, rank, moved, count_of, area_quad, loose_quad, compact_quad, compacted_to, compacted}
use Rattle.table_rewrite.specs.compaction.Passes.{Headed, Numbers, Closing, Followed, Freed}
use Rattle.table_rewrite.proofs.compaction.Ranks.{rank-none}
use Rattle.table_rewrite.proofs.compaction.Moves.{reached-place, reached-closed, moved_is}
use Rattle.table_rewrite.proofs.compaction.Placed.{quad_area, quad_loose, quad_freed, area_stays, area_items, area_one, area_heads, area_two, area_three, count_least}
use Rattle.table_rewrite.proofs.compaction.Numbering.{none_before, write_low, moved_down, items_headed, others_headed, numbers_index, numbers-yes, reached-below, count_no, count_yes}

module _ (t : List ℕ) where
  pub closing_start : Closing t t (loose t)
  unfolding rank
  closing_start =
      let z = rank-none (reached t) (loose t) (none_before t) in
      record { long = refl; areas = λ r h. refl; done = λ r h l. absurd (omega arith); rest = λ r h. refl }

  pub closing_skip : (g : List ℕ) (m : ℕ) → reached t m ≡ false → Closing t g m → Closing t g (m + 1)
  closing_skip g m e C =
      let z = count_no t m e in
      record { long = C.long; areas = C.areas; done = λ r h l. C.done r h (omega arith); rest = λ r h. C.rest r (omega arith) }

  -- the record in hand is read from g, not from t: it still stands there
  pub closing_put : Accepts t → (g ms : List ℕ) (m n : ℕ) → Numbers t ms → reached t m ≡ true → n ≡ moved t m → Closing t g m
      → Closing t (put_quad g n (get_or ms (word_at g m 0) 0) (word_at g m 1) (word_at g m 2) (word_at g m 3)) (m + 1)
  unfolding loose_quad
  closing_put A g ms m n N e en C =
      let p = reached-place t m e in
      let w = write_low t m p.0 in
      let z = count_yes t m e in
      let k = moved_is t m e in
      let a = A.words in
      let l = C.long in
      let o = put_others g n (get_or ms (word_at g m 0) 0) (word_at g m 1) (word_at g m 2) (word_at g m 3) in
      record {
        long = put_long g n (get_or ms (word_at g m 0) 0) (word_at g m 1) (word_at g m 2) (word_at g m 3) ∙ C.long;
        areas = λ r h. o r (λ q. omega arith) ∙ C.areas r h;
        done = λ r h l.
            cases (eqb r n)
            (λ q. let i = eqb-true r n q in rw i (here (omega (arith, p.1)) ∙ sym (ap (compact_quad t) en ∙ quad_loose t m e)))
            (λ q. let ne = eqb-false r n q in o r ne ∙ C.done r h (omega arith));
        rest = λ r h. o r (λ q. omega arith) ∙ C.rest r (omega arith);
      }
    where
      still : quad_at g m ≡ quad_at t m
      still = C.rest m (omega arith)

      head : word_at g m 0 ≡ word_at t m 0
      head = ap (λ (q : Quad). q.next) still

      here : n * 4 + 3 < length g → quad_at (put_quad g n (get_or ms (word_at g m 0) 0) (word_at g m 1) (word_at g m 2) (word_at g m 3)) n ≡ loose_quad t m
      here h =
          put_here g n (get_or ms (word_at g m 0) 0) (word_at g m 1) (word_at g m 2) (word_at g m 3) h
          ∙ made_quad _ _ _ _ _ _ _ _
          (ap (λ (i : ℕ). get_or ms i 0) head ∙ numbers_index t ms N (word_at t m 0) (reached-closed t A m e))
          (ap (λ (q : Quad). q.one) still)
          (ap (λ (q : Quad). q.two) still)
          (ap (λ (q : Quad). q.three) still)

  -- at the end all loose records that are left stand where they shall
  pub closing_end : (g : List ℕ) → Closing t g (records t) → (r : ℕ) → loose t ≤ r → r < count_of t → quad_at g r ≡ compact_quad t r
  unfolding count_of
  closing_end g C r h l = C.done r h l

  -- what moving the record in hand reads and writes is there
  pub closing_reads : Accepts t → (g ms : List ℕ) (m : ℕ) → Numbers t ms → Closing t g m → (get_or ms m 0 ≡ 0 → ⊥)
      → ((m < record_limit) × (m * 4 + 3 < length g)) × (((get_or ms m 0 < record_limit) × (get_or ms m 0 * 4 + 3 < length g)) × (word_at g m 0 < length ms))
  closing_reads A g ms m N C ne =
      let R = numbers-yes t ms N m ne in
      let b = reached-below t A m R in
      let p = reached-place t m R in
      let d = moved_down t m R in
      let n = N.new m R in
      let l = C.long in
      let a = A.words in
      let e : word_at g m 0 ≡ word_at t m 0 = ap (λ (q : Quad). q.next) (C.rest m (omega arith)) in
      ((omega (arith, p.1), omega (arith, p.1)), ((omega arith, omega (arith, p.1)), rw e (index R)))
    where
      index : reached t m ≡ true → word_at t m 0 < length ms
      index R =
          cases (eqb (word_at t m 0) 0)
          (λ q. let z = eqb-true (word_at t m 0) 0 q in omega (arith, N.long))
          (λ q. let b = reached-below t A (word_at t m 0) (reached-closed t A m R (eqb-false (word_at t m 0) 0 q)) in omega (arith, N.long))

-- the heads that follow

module _ (ms g : List ℕ) (first k : ℕ) where
  pub followed-none : Followed ms g g first first k
  followed-none = record { long = refl; inside = λ r h l. absurd (omega arith); word = λ r j h n. refl; before = λ r j h l. refl; behind = λ r j h l. refl }

  module _ (g' : List ℕ) (r : ℕ) (F : Followed ms g g' first r k) (h : k < 4) (a : first ≤ r) (i : r * 4 + k < length g') where
    set_other : (x s j : ℕ) → j < 4 → (s ≡ r → j ≡ k → ⊥) → word_at (set g' (r * 4 + k) x) s j ≡ word_at g' s j
    unfolding word_at
    set_other x s j l n = get_or-set_other g' (r * 4 + k) (s * 4 + j) x 0 (λ q. n (omega arith) (omega arith))

    set_same : (x : ℕ) → word_at (set g' (r * 4 + k) x) r k ≡ x
    unfolding word_at
    set_same x = get_or-set_same g' (r * 4 + k) x 0 i

    pub followed-put : (x : ℕ) → x ≡ get_or ms (word_at g' r k) 0 → Followed ms g (set g' (r * 4 + k) x) first (r + 1) k
    followed-put x e = record {
      long = simp length-set F.long;
      inside = λ s b l.
          cases (eqb s r)
          (λ q. rw (eqb-true s r q) (set_same x ∙ e ∙ ap (λ (y : ℕ). get_or ms y 0) (F.behind r k h (omega arith))))
          (λ q. let d = eqb-false s r q in set_other x s k h (λ z _. d z) ∙ F.inside s b (omega arith));
      word = λ s j l n. set_other x s j l (λ _ z. n z) ∙ F.word s j l n;
      before = λ s j l b. set_other x s j l (λ z _. omega arith) ∙ F.before s j l b;
      behind = λ s j l b. set_other x s j l (λ z _. omega arith) ∙ F.behind s j l (omega arith);
    }

-- all passes joined

module _ (t ms g₁ g₂ g₃ g₄ : List ℕ) (A : Accepts t) (N : Numbers t ms) (C : Closing t g₁ (records t)) (F : Followed ms g₁ g₂ (state_area t) (production_area t) 0)
    (H : Followed ms g₂ g₃ (state_area t) (loose t) 1) (Z : Freed g₃ g₄ (count_of t)) where
  -- a word of an area, before the heads follow
  word_0 : (r : ℕ) → r < loose t → word_at g₁ r 0 ≡ word_at t r 0
  word_0 r h = ap (λ (q : Quad). q.next) (C.areas r h)

  word_1 : (r : ℕ) → r < loose t → word_at g₂ r 1 ≡ word_at t r 1
  word_1 r h = F.word r 1 (omega arith) (λ z. omega arith) ∙ ap (λ (q : Quad). q.one) (C.areas r h)

  state_in_lem : (r : ℕ) → state_area t ≤ r → r < production_area t → is_state t r ≡ true
  unfolding is_state
  state_in_lem r a b = rw (le-leb (state_area t) r a, lt-ltb r (production_area t) b)

  state_before : (r : ℕ) → r < state_area t → is_state t r ≡ false
  unfolding is_state
  state_before r a = rw (lt-leb (state_area t) r a)

  state_behind : (r : ℕ) → state_area t ≤ r → production_area t ≤ r → is_state t r ≡ false
  unfolding is_state
  state_behind r a b = rw (le-leb (state_area t) r a, le-ltb r (production_area t) b)

  area-next : (r : ℕ) → r < loose t → word_at g₃ r 0 ≡ (area_quad t r).next
  unfolding Headed
  area-next r h =
      H.word r 0 (omega arith) (λ z. omega arith)
      ∙ cases (ltb r (state_area t))
      (λ q. let b = ltb-true r (state_area t) q in F.before r 0 (omega arith) b ∙ word_0 r h ∙ sym (area_stays t r (state_before r b)))
      (λ q.
      let b = ltb-false r (state_area t) q in
      cases (ltb r (production_area t))
      (λ p.
      let c = ltb-true r (production_area t) p in
      F.inside r b c
      ∙ ap (λ (x : ℕ). get_or ms x 0) (word_0 r h)
      ∙ numbers_index t ms N (word_at t r 0) (items_headed t A r b c)
      ∙ sym (area_items t r (state_in_lem r b c)))
      (λ p. let c = ltb-false r (production_area t) p in F.behind r 0 (omega arith) c ∙ word_0 r h ∙ sym (area_stays t r (state_behind r b c))))

  area-first : (r : ℕ) → r < loose t → word_at g₃ r 1 ≡ (area_quad t r).one
  unfolding Headed
  area-first r h =
      cases (ltb r (state_area t))
      (λ q. let b = ltb-true r (state_area t) q in H.before r 1 (omega arith) b ∙ word_1 r h ∙ sym (area_one t r b))
      (λ q.
      let b = ltb-false r (state_area t) q in
      H.inside r b h
      ∙ ap (λ (x : ℕ). get_or ms x 0) (word_1 r h)
      ∙ numbers_index t ms N (word_at t r 1) (others_headed t A r b h)
      ∙ sym (area_heads t r b))

  area-done : (r : ℕ) → r < loose t → quad_at g₃ r ≡ compact_quad t r
  area-done r h =
      made_quad _ _ _ _ _ _ _ _
      (area-next r h)
      (area-first r h)
      (H.word r 2 (omega arith) (λ z. omega arith)
      ∙ F.word r 2 (omega arith) (λ z. omega arith)
      ∙ ap (λ (q : Quad). q.two) (C.areas r h)
      ∙ sym (area_two t r))
      (H.word r 3 (omega arith) (λ z. omega arith)
      ∙ F.word r 3 (omega arith) (λ z. omega arith)
      ∙ ap (λ (q : Quad). q.three) (C.areas r h)
      ∙ sym (area_three t r))
      ∙ sym (quad_area t r h)

  loose-word : (r j : ℕ) → j < 4 → loose t ≤ r → word_at g₃ r j ≡ word_at g₁ r j
  loose-word r j l h = let d = areas_of t in H.behind r j l h ∙ F.behind r j l (omega arith)

  loose-done : (r : ℕ) → loose t ≤ r → r < count_of t → quad_at g₃ r ≡ compact_quad t r
  loose-done r h l =
      made_quad _ _ _ _ _ _ _ _ (loose-word r 0 (omega arith) h) (loose-word r 1 (omega arith) h) (loose-word r 2 (omega arith) h) (loose-word r 3 (omega arith) h)
      ∙ closing_end t g₁ C r h l

  all_done : (r : ℕ) → r < records t → quad_at g₄ r ≡ compact_quad t r
  all_done r h =
      let d = count_least t in
      cases (ltb r (loose t))
      (λ q. let b = ltb-true r (loose t) q in Z.before r (omega arith) ∙ area-done r b)
      (λ q.
      let b = ltb-false r (loose t) q in
      cases (ltb r (count_of t))
      (λ p. let c = ltb-true r (count_of t) p in Z.before r c ∙ loose-done r b c)
      (λ p.
      let c = ltb-false r (count_of t) p in
      made_quad _ _ _ _ _ _ _ _ (Z.behind r 0 (omega arith) c) (Z.behind r 1 (omega arith) c) (Z.behind r 2 (omega arith) c) (Z.behind r 3 (omega arith) c)
      ∙ sym (quad_freed t r c)))

  pub compacted_by : g₄ ≡ compacted t
  unfolding compacted compacted_to
  compacted_by =
      let a = A.words in
      quads_known g₄ (compact_quad t) (records t) (Z.long ∙ H.long ∙ F.long ∙ C.long ∙ a) all_done

-- the freed end: word by word

pub record FreedTo (g g' : List ℕ) (n i : ℕ) : Type 0 where
  pub before : (j : ℕ) → j < n * 4 → get_or g' j 0 ≡ get_or g j 0
  pub freed : (j : ℕ) → n * 4 ≤ j → j < i → get_or g' j 0 ≡ 0

freed_end : (g g' : List ℕ) (n i : ℕ) → length g' ≡ length g → length g' ≤ i → FreedTo g g' n i → Freed g g' n
unfolding word_at
freed_end g g' n i e l Z = record {
  long = e;
  before = λ r h.
      made_quad _ _ _ _ _ _ _ _ (Z.before (r * 4 + 0) (omega arith)) (Z.before (r * 4 + 1) (omega arith)) (Z.before (r * 4 + 2) (omega arith)) (Z.before (r * 4 + 3) (omega arith));
  behind = λ r j h b.
      cases (ltb (r * 4 + j) i)
      (λ q. Z.freed (r * 4 + j) (omega arith) (ltb-true (r * 4 + j) i q))
      (λ q. let k = ltb-false (r * 4 + j) i q in get_or-eq_default g' 0 (omega arith));
}

-- the end filled with zeros, or none left to fill
pub freed_filled : (g ys : List ℕ) (n : ℕ) → n * 4 ≤ length g → ys ≡ replicate (length g - n * 4) 0 → Freed g (take (n * 4) g ++ ys) n
freed_filled g ys n h e =
    let long : length (take (n * 4) g) ≡ n * 4 = length-take-le (n * 4) g h in
    let rest : length ys ≡ length g - n * 4 = ap length e ∙ length-replicate {A = ℕ} (length g - n * 4) 0 in
    let all = length-append (take (n * 4) g) ys in
    freed_end g (take (n * 4) g ++ ys) n (length g) (omega arith) (omega arith) (record {
      before = λ j b. get_or-append (take (n * 4) g) ys 0 j (omega arith) ∙ get_or-take (n * 4) g j 0 b;
      freed = λ j b c.
          get_or-append_right (take (n * 4) g) ys j 0 (omega arith)
          ∙ ap (λ (l : List ℕ). get_or l (j - length (take (n * 4) g)) 0) e
          ∙ get_or-replicate (length g - n * 4) (j - length (take (n * 4) g)) 0 0 (omega arith);
    })

pub freed-none : (g : List ℕ) (n : ℕ) → length g ≤ n * 4 → Freed g g n
freed-none g n h = freed_end g g n (n * 4) refl h (record { before = λ j b. refl; freed = λ j b c. absurd (omega arith) })
