-- Laws of records in words: the words of a list of records, a front of them, a record put, and words that are known record by record.
use mathlib.Core.Path.{◌≡◌, refl, sym, ap, ◌∙◌}
use mathlib.Core.List.{List, [], ◌∷◌, map}
use Prim.Native.Nat.{ℕ, zero, suc, ◌+◌, ◌*◌, ◌/◌, ◌%◌, ◌<◌}
use native.Mathlib.Omega.{arith}
use lib.ListN.{length, get_or, take, set, length-set}
use lib.Seq.{get_or-set_same, get_or-set_other, ext_get_or}
use lib.Dec.{eqb}
use borrow.Author.Tests.{eqb-true, eqb-false}
use Rattle.lr1_base.specs.repr.Lists.{below}
use Rattle.lr1_base.proofs.repr.Lists.{cases, length-map-below, get_d_map-below}
use Rattle.table.specs.Words.{word_at, records}
use Rattle.table.specs.Quads.{Quad, no_quad, words, quad_at, put_quad}

pub made_quad : (a b c d a' b' c' d' : ℕ) → a ≡ a' → b ≡ b' → c ≡ c' → d ≡ d'
    → ◌≡◌ {A = Quad} (record { next = a; one = b; two = c; three = d }) (record { next = a'; one = b'; two = c'; three = d' })
made_quad a b c d a' b' c' d' e f g h = rw (e, f, g, h)

-- words of records

pub length-words : (qs : List Quad) → length (words qs) ≡ 4 * length qs
unfolding words
length-words [] = refl
length-words (q ∷ qs) = let r = length-words qs in omega arith

pub records-words : (qs : List Quad) → records (words qs) ≡ length qs
unfolding records
records-words qs = let r = length-words qs in omega arith

four : (r k : ℕ) → suc r * 4 + k ≡ suc (suc (suc (suc (r * 4 + k))))
four r k = omega arith

pub word_next : (qs : List Quad) (r : ℕ) → word_at (words qs) r 0 ≡ (get_or qs r no_quad).next
unfolding words word_at
word_next [] r = refl
word_next (q ∷ qs) zero = refl
word_next (q ∷ qs) (suc r) = rw (four r 0) (word_next qs r)

pub word_one : (qs : List Quad) (r : ℕ) → word_at (words qs) r 1 ≡ (get_or qs r no_quad).one
unfolding words word_at
word_one [] r = refl
word_one (q ∷ qs) zero = refl
word_one (q ∷ qs) (suc r) = rw (four r 1) (word_one qs r)

pub word_two : (qs : List Quad) (r : ℕ) → word_at (words qs) r 2 ≡ (get_or qs r no_quad).two
unfolding words word_at
word_two [] r = refl
word_two (q ∷ qs) zero = refl
word_two (q ∷ qs) (suc r) = rw (four r 2) (word_two qs r)

pub word_three : (qs : List Quad) (r : ℕ) → word_at (words qs) r 3 ≡ (get_or qs r no_quad).three
unfolding words word_at
word_three [] r = refl
word_three (q ∷ qs) zero = refl
word_three (q ∷ qs) (suc r) = rw (four r 3) (word_three qs r)

pub quad_words : (qs : List Quad) (r : ℕ) → quad_at (words qs) r ≡ get_or qs r no_quad
quad_words qs r = made_quad _ _ _ _ _ _ _ _ (word_next qs r) (word_one qs r) (word_two qs r) (word_three qs r)

-- a front of records
pub take_words : (n : ℕ) (qs : List Quad) → take (4 * n) (words qs) ≡ words (take n qs)
unfolding words
take_words zero qs = refl
take_words (suc n) [] =
    let e : 4 * suc n ≡ suc (suc (suc (suc (4 * n)))) = omega arith in
    ap (λ (k : ℕ). take k (words [])) e
take_words (suc n) (q ∷ qs) =
    let e : 4 * suc n ≡ suc (suc (suc (suc (4 * n)))) = omega arith in
    rw e (ap (λ (l : List ℕ). q.next ∷ q.one ∷ q.two ∷ q.three ∷ l) (take_words n qs))

-- words that agree record by record are the same
module _ (g u : List ℕ) where
  same_word : (r k : ℕ) → k < 4 → quad_at g r ≡ quad_at u r → word_at g r k ≡ word_at u r k
  same_word r k h e =
      cases (eqb k 0)
      (λ q. rw (eqb-true k 0 q) (ap (λ (z : Quad). z.next) e))
      (λ n0.
      cases (eqb k 1)
      (λ q. rw (eqb-true k 1 q) (ap (λ (z : Quad). z.one) e))
      (λ n1.
      cases (eqb k 2)
      (λ q. rw (eqb-true k 2 q) (ap (λ (z : Quad). z.two) e))
      (λ n2.
      let a = eqb-false k 0 n0 in
      let b = eqb-false k 1 n1 in
      let c = eqb-false k 2 n2 in
      let z : k ≡ 3 = omega arith in
      rw z (ap (λ (z : Quad). z.three) e))))

  at_word : (i : ℕ) → word_at g (i / 4) (i % 4) ≡ word_at u (i / 4) (i % 4) → get_or g i 0 ≡ get_or u i 0
  unfolding word_at
  at_word i e =
      let z : i / 4 * 4 + i % 4 ≡ i = omega arith in
      sym (ap (λ (j : ℕ). get_or g j 0) z) ∙ e ∙ ap (λ (j : ℕ). get_or u j 0) z

  pub quads_same : (n : ℕ) → length g ≡ 4 * n → length u ≡ 4 * n → ((r : ℕ) → r < n → quad_at g r ≡ quad_at u r) → g ≡ u
  quads_same n a b f = ext_get_or 0 g u (a ∙ sym b) (λ i h. at_word i (same_word (i / 4) (i % 4) (omega arith) (f (i / 4) (omega arith))))

-- words that are known record by record
pub quads_known : (g : List ℕ) (f : ℕ → Quad) (n : ℕ) → length g ≡ 4 * n → ((r : ℕ) → r < n → quad_at g r ≡ f r) → g ≡ words (map f (below n))
quads_known g f n l h =
    let a = length-words (map f (below n)) in
    let b = length-map-below f n in
    quads_same g (words (map f (below n))) n l (omega arith)
    (λ r k. h r k ∙ sym (get_d_map-below f n r no_quad k) ∙ sym (quad_words (map f (below n)) r))

-- a record put

module _ (g : List ℕ) (r a b c d : ℕ) where
  pub put_long : length (put_quad g r a b c d) ≡ length g
  unfolding put_quad
  put_long = simp length-set

  pub put_other : (i : ℕ) → (i ≡ r * 4 → ⊥) → (i ≡ r * 4 + 1 → ⊥) → (i ≡ r * 4 + 2 → ⊥) → (i ≡ r * 4 + 3 → ⊥) → get_or (put_quad g r a b c d) i 0 ≡ get_or g i 0
  unfolding put_quad
  put_other i n0 n1 n2 n3 =
      get_or-set_other (set (set (set g (r * 4) a) (r * 4 + 1) b) (r * 4 + 2) c) (r * 4 + 3) i d 0 n3
      ∙ get_or-set_other (set (set g (r * 4) a) (r * 4 + 1) b) (r * 4 + 2) i c 0 n2
      ∙ get_or-set_other (set g (r * 4) a) (r * 4 + 1) i b 0 n1
      ∙ get_or-set_other g (r * 4) i a 0 n0

  -- the other records stay
  pub put_stays : (j k : ℕ) → (j ≡ r → ⊥) → k < 4 → word_at (put_quad g r a b c d) j k ≡ word_at g j k
  unfolding word_at
  put_stays j k n h = put_other (j * 4 + k) (λ e. n (omega arith)) (λ e. n (omega arith)) (λ e. n (omega arith)) (λ e. n (omega arith))

  pub put_others : (j : ℕ) → (j ≡ r → ⊥) → quad_at (put_quad g r a b c d) j ≡ quad_at g j
  put_others j n =
      made_quad _ _ _ _ _ _ _ _ (put_stays j 0 n (omega arith)) (put_stays j 1 n (omega arith)) (put_stays j 2 n (omega arith)) (put_stays j 3 n (omega arith))

  module _ (h : r * 4 + 3 < length g) where
    pub put_0 : get_or (put_quad g r a b c d) (r * 4) 0 ≡ a
    unfolding put_quad
    put_0 =
        get_or-set_other (set (set (set g (r * 4) a) (r * 4 + 1) b) (r * 4 + 2) c) (r * 4 + 3) (r * 4) d 0 (λ z. omega arith)
        ∙ get_or-set_other (set (set g (r * 4) a) (r * 4 + 1) b) (r * 4 + 2) (r * 4) c 0 (λ z. omega arith)
        ∙ get_or-set_other (set g (r * 4) a) (r * 4 + 1) (r * 4) b 0 (λ z. omega arith)
        ∙ get_or-set_same g (r * 4) a 0 (omega arith)

    pub put_1 : get_or (put_quad g r a b c d) (r * 4 + 1) 0 ≡ b
    unfolding put_quad
    put_1 =
        let l = length-set g (r * 4) a in
        get_or-set_other (set (set (set g (r * 4) a) (r * 4 + 1) b) (r * 4 + 2) c) (r * 4 + 3) (r * 4 + 1) d 0 (λ z. omega arith)
        ∙ get_or-set_other (set (set g (r * 4) a) (r * 4 + 1) b) (r * 4 + 2) (r * 4 + 1) c 0 (λ z. omega arith)
        ∙ get_or-set_same (set g (r * 4) a) (r * 4 + 1) b 0 (omega arith)

    pub put_2 : get_or (put_quad g r a b c d) (r * 4 + 2) 0 ≡ c
    unfolding put_quad
    put_2 =
        let l = length-set g (r * 4) a in
        let m = length-set (set g (r * 4) a) (r * 4 + 1) b in
        get_or-set_other (set (set (set g (r * 4) a) (r * 4 + 1) b) (r * 4 + 2) c) (r * 4 + 3) (r * 4 + 2) d 0 (λ z. omega arith)
        ∙ get_or-set_same (set (set g (r * 4) a) (r * 4 + 1) b) (r * 4 + 2) c 0 (omega arith)

    pub put_3 : get_or (put_quad g r a b c d) (r * 4 + 3) 0 ≡ d
    unfolding put_quad
    put_3 =
        let l = length-set g (r * 4) a in
        let m = length-set (set g (r * 4) a) (r * 4 + 1) b in
        let n = length-set (set (set g (r * 4) a) (r * 4 + 1) b) (r * 4 + 2) c in
        get_or-set_same (set (set (set g (r * 4) a) (r * 4 + 1) b) (r * 4 + 2) c) (r * 4 + 3) d 0 (omega arith)

    pub put_here : quad_at (put_quad g r a b c d) r ≡ record { next = a; one = b; two = c; three = d }
    unfolding word_at
    put_here =
        let z : r * 4 + 0 ≡ r * 4 = omega arith in
        made_quad _ _ _ _ _ _ _ _ (ap (λ (j : ℕ). get_or (put_quad g r a b c d) j 0) z ∙ put_0) put_1 put_2 put_3
