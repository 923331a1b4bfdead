-- The words of `compacted_to`: a front that has all reached records is t with its reached records moved.
use mathlib.Core.Path.{◌≡◌, refl, ap, ◌∙◌}
use mathlib.Core.Bool.{true, false}
use mathlib.Core.List.{List, ◌∷◌, map}
use Prim.Native.Nat.{ℕ, zero, suc, ◌+◌, ◌-◌, ◌*◌, ◌≤◌, ◌<◌}
use native.Mathlib.Omega.{arith}
use lib.ListN.{length, get_or, take}
use borrow.Author.Tests.{lt-ltb, le-ltb, le-leb, lt-leb}
use Rattle.lr1_base.specs.repr.Lists.{up_from, below, keep}
use Rattle.lr1_base.proofs.repr.Lists.{length-map-below, get_d_map-below}
use Rattle.table.specs.Words.{word_at, records, state_area, loose}
use Rattle.table.specs.Refusals.{is_state}
use Rattle.table.specs.Quads.{Quad, no_quad, words}
use Rattle.table_rewrite.specs.compaction.Compaction.{reached, rank, moved, kept, count_of, area_quad, loose_quad, compact_quad, compacted_to}
use Rattle.table.proofs.Quads.{length-words, records-words, word_next, word_one, word_two, word_three, take_words}
use Rattle.table_rewrite.proofs.compaction.Ranks.{kept_at}
use Rattle.table_rewrite.proofs.compaction.Moves.{MovedTo, reached-place, moved_is, moved_inside, moved_early}

-- a front of records

take_up : (f : ℕ → Quad) (n m o : ℕ) → n ≤ m → take n (map f (up_from o m)) ≡ map f (up_from o n)
unfolding up_from
take_up f zero m o h = refl
take_up f (suc n) zero o h = absurd (omega arith)
take_up f (suc n) (suc m) o h = ap (λ (l : List Quad). f o ∷ l) (take_up f n m (suc o) (omega arith))

pub take_to_lem : (t : List ℕ) (n m : ℕ) → n ≤ m → take (4 * n) (compacted_to m t) ≡ compacted_to n t
unfolding compacted_to below
take_to_lem t n m h = take_words n (map (compact_quad t) (up_from 0 m)) ∙ ap words (take_up (compact_quad t) n m 0 h)

module _ (t : List ℕ) where
  -- record by record
  pub quad_area : (r : ℕ) → r < loose t → compact_quad t r ≡ area_quad t r
  unfolding compact_quad
  quad_area r h = rw (lt-ltb r (loose t) h, compact_quad)

  pub quad_loose : (x : ℕ) → reached t x ≡ true → compact_quad t (moved t x) ≡ loose_quad t x
  unfolding compact_quad kept rank
  quad_loose x e =
      let i = moved_inside t x e in
      let p = reached-place t x e in
      let m : moved t x - loose t ≡ rank t x = let q = moved_is t x e in omega arith in
      rw (le-ltb (moved t x) (loose t) i, lt-ltb (moved t x) (count_of t) (moved_early t x e), compact_quad)
      (ap (loose_quad t) (ap (λ (k : ℕ). get_or (kept t) k 0) m ∙ at p))
    where
      at : (loose t ≤ x) × (x < records t) → get_or (keep (reached t) (below (records t))) (rank t x) 0 ≡ x
      at p = kept_at (reached t) (records t) x e p.1

  pub quad_freed : (r : ℕ) → count_of t ≤ r → compact_quad t r ≡ no_quad
  unfolding compact_quad count_of
  quad_freed r h = rw (le-ltb r (loose t) (omega arith), le-ltb r (loose t + rank t (records t)) h, compact_quad)

  module _ (n : ℕ) where
    pub to_records : records (compacted_to n t) ≡ n
    unfolding compacted_to
    to_records = records-words (map (compact_quad t) (below n)) ∙ length-map-below (compact_quad t) n

    pub to_length : length (compacted_to n t) ≡ 4 * n
    unfolding compacted_to
    to_length = length-words (map (compact_quad t) (below n)) ∙ ap (λ (k : ℕ). 4 * k) (length-map-below (compact_quad t) n)

    pub to_next : (r : ℕ) → r < n → word_at (compacted_to n t) r 0 ≡ (compact_quad t r).next
    unfolding compacted_to
    to_next r h = word_next (map (compact_quad t) (below n)) r ∙ ap (λ (q : Quad). q.next) (get_d_map-below (compact_quad t) n r no_quad h)

    pub to_one : (r : ℕ) → r < n → word_at (compacted_to n t) r 1 ≡ (compact_quad t r).one
    unfolding compacted_to
    to_one r h = word_one (map (compact_quad t) (below n)) r ∙ ap (λ (q : Quad). q.one) (get_d_map-below (compact_quad t) n r no_quad h)

    pub to_two : (r : ℕ) → r < n → word_at (compacted_to n t) r 2 ≡ (compact_quad t r).two
    unfolding compacted_to
    to_two r h = word_two (map (compact_quad t) (below n)) r ∙ ap (λ (q : Quad). q.two) (get_d_map-below (compact_quad t) n r no_quad h)

    pub to_three : (r : ℕ) → r < n → word_at (compacted_to n t) r 3 ≡ (compact_quad t r).three
    unfolding compacted_to
    to_three r h = word_three (map (compact_quad t) (below n)) r ∙ ap (λ (q : Quad). q.three) (get_d_map-below (compact_quad t) n r no_quad h)

  -- the words of an area's record
  pub area_stays : (r : ℕ) → is_state t r ≡ false → (area_quad t r).next ≡ word_at t r 0
  unfolding area_quad
  area_stays r e = rw (e, area_quad)

  pub area_items : (r : ℕ) → is_state t r ≡ true → (area_quad t r).next ≡ moved t (word_at t r 0)
  unfolding area_quad
  area_items r e = rw (e, area_quad)

  pub area_one : (r : ℕ) → r < state_area t → (area_quad t r).one ≡ word_at t r 1
  unfolding area_quad
  area_one r h = rw (lt-leb (state_area t) r h, area_quad)

  pub area_heads : (r : ℕ) → state_area t ≤ r → (area_quad t r).one ≡ moved t (word_at t r 1)
  unfolding area_quad
  area_heads r h = rw (le-leb (state_area t) r h, area_quad)

  pub area_two : (r : ℕ) → (area_quad t r).two ≡ word_at t r 2
  unfolding area_quad
  area_two r = refl

  pub area_three : (r : ℕ) → (area_quad t r).three ≡ word_at t r 3
  unfolding area_quad
  area_three r = refl

  pub loose-words : (x : ℕ) → ((loose_quad t x).next ≡ moved t (word_at t x 0)) × ((loose_quad t x).one ≡ word_at t x 1) × ((loose_quad t x).two ≡ word_at t x 2) × ((loose_quad t x).three ≡ word_at t x 3)
  unfolding loose_quad
  loose-words x = (refl, refl, refl, refl)

  pub count_least : loose t ≤ count_of t
  unfolding count_of
  count_least = omega arith

  -- a front that has all reached records
  pub moved_to : (n : ℕ) → count_of t ≤ n → n ≤ records t → state_area t ≤ loose t → MovedTo t (compacted_to n t)
  moved_to n a b c =
      let z = to_records n in
      let l = to_length n in
      let w = within n a in
      record {
        long = omega arith;
        enough = omega arith;
        few = omega arith;
        stays = λ r h e. to_next n r (w r h) ∙ ap (λ (q : Quad). q.next) (quad_area r h) ∙ area_stays r e;
        items = λ r h e. to_next n r (w r h) ∙ ap (λ (q : Quad). q.next) (quad_area r h) ∙ area_items r e;
        stays_one = λ r h. let k : r < loose t = omega arith in to_one n r (w r k) ∙ ap (λ (q : Quad). q.one) (quad_area r k) ∙ area_one r h;
        heads = λ r e h. to_one n r (w r h) ∙ ap (λ (q : Quad). q.one) (quad_area r h) ∙ area_heads r e;
        stays_two = λ r h. to_two n r (w r h) ∙ ap (λ (q : Quad). q.two) (quad_area r h) ∙ area_two r;
        stays_three = λ r h. to_three n r (w r h) ∙ ap (λ (q : Quad). q.three) (quad_area r h) ∙ area_three r;
        next = λ x e. to_next n (moved t x) (early n a x e) ∙ ap (λ (q : Quad). q.next) (quad_loose x e) ∙ (loose-words x).0;
        one = λ x e. to_one n (moved t x) (early n a x e) ∙ ap (λ (q : Quad). q.one) (quad_loose x e) ∙ (loose-words x).1;
        two = λ x e. to_two n (moved t x) (early n a x e) ∙ ap (λ (q : Quad). q.two) (quad_loose x e) ∙ (loose-words x).2;
        three = λ x e. to_three n (moved t x) (early n a x e) ∙ ap (λ (q : Quad). q.three) (quad_loose x e) ∙ (loose-words x).3;
      }
    where
      within : (n : ℕ) → count_of t ≤ n → (r : ℕ) → r < loose t → r < n
      within n a r h = let i = count_least in omega arith

      early : (n : ℕ) → count_of t ≤ n → (x : ℕ) → reached t x ≡ true → moved t x < n
      early n a x e = let m = moved_early t x e in omega arith
