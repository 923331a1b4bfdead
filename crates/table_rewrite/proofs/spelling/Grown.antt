-- Laws of the writer: a record put, parts written one after the other, all written.
use mathlib.Core.Path.{◌≡◌, refl, sym, ap, ◌∙◌}
use mathlib.Core.List.{List, [], ◌∷◌, ◌++◌}
use Prim.Native.Nat.{ℕ, zero, suc, ◌+◌, ◌-◌, ◌*◌, ◌<◌}
use native.Mathlib.Omega.{arith}
use lib.ListN.{length, get_or, drop, length-append, length-drop, get_or-append}
use lib.Seq.{ext_get_or, get_or-append-add, get_or-drop}
use lib.Dec.{eqb, ltb}
use borrow.Author.Tests.{eqb-true, eqb-false, ltb-true, ltb-false}
use Rattle.lr1_base.specs.repr.Meaning.{Table}
use Rattle.lr1_base.proofs.repr.Lists.{cases}
use Rattle.table.specs.Words.{word_at}
use Rattle.table.specs.Quads.{put_quad}
use Rattle.table.proofs.Quads.{put_long, put_other, put_0, put_1, put_2, put_3}
use Rattle.table_rewrite.specs.spelling.Spelled.{head_of, place_of, records_of, spell}
use Rattle.table_rewrite.specs.spelling.Grown.{Grown, Room}
use Rattle.table_rewrite.proofs.spelling.Places.{spell-length}

-- parts one after the other

module _ (T : Table) where
  pub grown-none : (g : List ℕ) (a : ℕ) → Grown T g g a a
  grown-none g a = record { long = refl; order = omega arith; before = λ i h. refl; written = λ i h l. absurd (omega arith); behind = λ i h. refl }

  pub grown-join : (g g₁ g₂ : List ℕ) (a b c : ℕ) → Grown T g g₁ a b → Grown T g₁ g₂ b c → Grown T g g₂ a c
  grown-join g g₁ g₂ a b c P Q = record {
    long = Q.long ∙ P.long;
    order = omega (arith, P.order, Q.order);
    before = λ i h. Q.before i (omega (arith, P.order)) ∙ P.before i h;
    written = λ i h l.
        cases (ltb i (b * 4))
        (λ k. let m = ltb-true i (b * 4) k in Q.before i m ∙ P.written i h m)
        (λ k. let m = ltb-false i (b * 4) k in Q.written i m l);
    behind = λ i h. Q.behind i h ∙ P.behind i (omega (arith, Q.order));
  }

  at_k : (r k : ℕ) (x : ℕ) → x ≡ word_at (spell T) r k → x ≡ get_or (spell T) (r * 4 + k) 0
  unfolding word_at
  at_k r k x e = e

  pub grown-put : (g : List ℕ) (r a b c d : ℕ) → r * 4 + 3 < length g
      → a ≡ word_at (spell T) r 0 → b ≡ word_at (spell T) r 1 → c ≡ word_at (spell T) r 2 → d ≡ word_at (spell T) r 3 → Grown T g (put_quad g r a b c d) r (r + 1)
  grown-put g r a b c d h ea eb ec ed = record {
    long = put_long g r a b c d;
    order = omega arith;
    before = λ i l. put_other g r a b c d i (λ z. omega arith) (λ z. omega arith) (λ z. omega arith) (λ z. omega arith);
    written = λ i l m.
        cases (eqb i (r * 4))
        (λ q.
        let z : i ≡ r * 4 = eqb-true i (r * 4) q in
        let z' : r * 4 + 0 ≡ r * 4 = omega arith in
        rw z (put_0 g r a b c d h ∙ (rw z' at (at_k r 0 a ea))))
        (λ q0.
        cases (eqb i (r * 4 + 1)) (λ q. let z : i ≡ r * 4 + 1 = eqb-true i (r * 4 + 1) q in rw z (put_1 g r a b c d h ∙ at_k r 1 b eb))
        (λ q1.
        cases (eqb i (r * 4 + 2)) (λ q. let z : i ≡ r * 4 + 2 = eqb-true i (r * 4 + 2) q in rw z (put_2 g r a b c d h ∙ at_k r 2 c ec))
        (λ q2.
        let n0 = eqb-false i (r * 4) q0 in
        let n1 = eqb-false i (r * 4 + 1) q1 in
        let n2 = eqb-false i (r * 4 + 2) q2 in
        let z : i ≡ r * 4 + 3 = omega arith in
        rw z (put_3 g r a b c d h ∙ at_k r 3 d ed))));
    behind = λ i l. put_other g r a b c d i (λ z. omega arith) (λ z. omega arith) (λ z. omega arith) (λ z. omega arith);
  }

  -- all written: the spelling in front of what was there
  pub grown-all : (g g' : List ℕ) → Room T g → Grown T g g' 0 (records_of T) → g' ≡ spell T ++ drop (4 * records_of T) g
  grown-all g g' R G =
      let l = spell-length T in
      let m = length-append (spell T) (drop (4 * records_of T) g) in
      let n = length-drop (4 * records_of T) g in
      ext_get_or 0 g' (spell T ++ drop (4 * records_of T) g) (omega (arith, G.long, R.long))
      (λ i h.
      cases (ltb i (4 * records_of T))
      (λ k.
      let b = ltb-true i (4 * records_of T) k in
      G.written i (omega arith) (omega arith) ∙ sym (get_or-append (spell T) (drop (4 * records_of T) g) 0 i (omega arith)))
      (λ k.
      let b = ltb-false i (4 * records_of T) k in
      let z : i ≡ length (spell T) + (i - length (spell T)) = omega arith in
      let y : i ≡ 4 * records_of T + (i - length (spell T)) = omega arith in
      G.behind i (omega arith)
      ∙ ap (λ (j : ℕ). get_or g j 0) y
      ∙ sym (get_or-drop (4 * records_of T) g (i - length (spell T)) 0)
      ∙ sym (get_or-append-add (spell T) (drop (4 * records_of T) g) (i - length (spell T)) 0)
      ∙ ap (λ (j : ℕ). get_or (spell T ++ drop (4 * records_of T) g) j 0) (sym z)))

-- chains one behind the other, as the writer walks them
pub place-start {ℓ} : {A : Type ℓ} (o : ℕ) (xss : List (List A)) → place_of o xss 0 ≡ o
unfolding place_of
place-start o [] = refl
place-start o (xs ∷ xss) = refl

pub place-next {ℓ} : {A : Type ℓ} (o : ℕ) (xss : List (List A)) (i : ℕ) → i < length xss → place_of o xss (suc i) ≡ place_of o xss i + length (get_or xss i [])
unfolding place_of
place-next o [] i h = absurd (omega arith)
place-next o (xs ∷ []) zero h = refl
place-next o (xs ∷ ys ∷ xss) zero h = refl
place-next o (xs ∷ xss) (suc i) h = place-next (o + length xs) xss i (omega arith)

-- an empty chain's head is 0, another's its place
pub head-none {ℓ} : {A : Type ℓ} (o : ℕ) (xs : List A) → xs ≡ [] → head_of o xs ≡ 0
unfolding head_of
head-none o xs e = rw e

pub head-some {ℓ} : {A : Type ℓ} (o : ℕ) (x : A) (xs ys : List A) → xs ≡ x ∷ ys → head_of o xs ≡ o
unfolding head_of
head-some o x xs ys e = rw e
