-- An id that is entered gets the next number, and every other keeps its own.
use Prim.Native.Nat.{ℕ, suc, ◌+◌, ◌<◌}
use native.Mathlib.Omega.{arith}
use native.Mathlib.Numerals.{add-one}
use mathlib.Core.Bool.{Bool, true, false, ◌||◌, or-false}
use mathlib.Core.Path.{◌≡◌, sym, ap, ◌∙◌}
use mathlib.Core.List.{List, [], ◌∷◌, ◌++◌}
use lib.ListN.{length, get_or, set, length-set, length-append}
use lib.Seq.{get_or-set_same, get_or-set_other}
use lib.Dec.{eqb}
use borrow.Author.Tests.{eqb-true, eqb-false, eq-eqb, ne_eqb}
use Rattle.lr1_base.proofs.repr.Lists.{cases, clash}
use Rattle.yacc_syntax.specs.text.Grammar.{Id}
use Rattle.yacc_reader.specs.parsed_file.Source.{same_id, Known, is_known, number_in, enter}
use Rattle.yacc_reader.proofs.parsed_file.Known.{same_id_lem, same_id_eq, known_cons, known_none, enter_old, enter_new, enter_is, number_here, number_there}
use Rattle.yacc_reader.specs.numbers.Numbers.{place_in, numbered, numbered_to, Numbers}

-- the number of an id, of those in front and of one behind them
pub number-front : (ks js : List Known) (x : Id) → is_known ks x ≡ true → number_in (ks ++ js) x ≡ number_in ks x
number-front [] js x h = clash (is_known [] x) h (known_none x)
number-front (k ∷ ks) js x h =
    cases (same_id x k.id)
    (λ e. number_here k (ks ++ js) x e ∙ sym (number_here k ks x e))
    (λ e.
    let rest : is_known ks x ≡ true = sym (known_cons k ks x ∙ ap (λ (t : Bool). t || is_known ks x) e) ∙ h in
    number_there k (ks ++ js) x e ∙ ap suc (number-front ks js x rest) ∙ sym (number_there k ks x e))

pub number_behind : (ks : List Known) (k : Known) (x : Id) → is_known ks x ≡ false → same_id x k.id ≡ true → number_in (ks ++ (k ∷ [])) x ≡ length ks
number_behind [] k x h s = number_here k [] x s
number_behind (j ∷ ks) k x h s =
    cases (same_id x j.id)
    (λ e. clash (is_known (j ∷ ks) x) (known_cons j ks x ∙ ap (λ (t : Bool). t || is_known ks x) e) h)
    (λ e.
    let rest : is_known ks x ≡ false = sym (known_cons j ks x ∙ ap (λ (t : Bool). t || is_known ks x) e) ∙ h in
    number_there j (ks ++ (k ∷ [])) x e ∙ ap suc (number_behind ks k x rest s))

-- places
pub place-yes : (ks : List Known) (x : Id) → is_known ks x ≡ true → place_in ks x ≡ suc (number_in ks x)
unfolding place_in
place-yes ks x e = rw (e, place_in)

pub place_no : (ks : List Known) (x : Id) → is_known ks x ≡ false → place_in ks x ≡ 0
unfolding place_in
place_no ks x e = rw (e, place_in)

place_same : (ks : List Known) (k : Known) (x : Id) → is_known ks k.id ≡ false → same_id x k.id ≡ true → place_in (enter ks k) x ≡ suc (length ks)
place_same ks k x n s =
    let f : is_known ks x ≡ false = ap (is_known ks) (same_id_eq x k.id s) ∙ n in
    let y : is_known (enter ks k) x ≡ true = enter_is ks k x ∙ ap (λ (t : Bool). is_known ks x || t) s ∙ ap (λ (t : Bool). t || true) f in
    place-yes (enter ks k) x y ∙ ap suc (ap (λ (l : List Known). number_in l x) (enter_new ks k n) ∙ number_behind ks k x f s)

place_other : (ks : List Known) (k : Known) (x : Id) → is_known ks k.id ≡ false → same_id x k.id ≡ false → place_in (enter ks k) x ≡ place_in ks x
place_other ks k x n s =
    let q : is_known (enter ks k) x ≡ is_known ks x = enter_is ks k x ∙ ap (λ (t : Bool). is_known ks x || t) s ∙ or-false (is_known ks x) in
    cases (is_known ks x)
    (λ e. place-yes (enter ks k) x (q ∙ e) ∙ ap suc (ap (λ (l : List Known). number_in l x) (enter_new ks k n) ∙ number-front ks (k ∷ []) x e) ∙ sym (place-yes ks x e))
    (λ e. place_no (enter ks k) x (q ∙ e) ∙ sym (place_no ks x e))

place-zero : (ks : List Known) (x : Id) → place_in ks x ≡ 0 → is_known ks x ≡ false
place-zero ks x z = cases (is_known ks x) (λ e. let p = place-yes ks x e in absurd (omega (arith, p, z))) (λ e. e)

place-some : (ks : List Known) (x : Id) → (place_in ks x ≡ 0 → ⊥) → is_known ks x ≡ true
place-some ks x n = cases (is_known ks x) (λ e. e) (λ e. absurd (n (place_no ks x e)))

-- `number`
module _ (xs : List ℕ) (j n : ℕ) where
  pub kept-words : (get_or xs j 0 ≡ 0 → ⊥) → xs ≡ numbered xs j n
  unfolding numbered
  kept-words e = sym (rw (ne_eqb (get_or xs j 0) 0 e, numbered))

  pub kept_count : (get_or xs j 0 ≡ 0 → ⊥) → n ≡ numbered_to xs j n
  unfolding numbered_to
  kept_count e = sym (rw (ne_eqb (get_or xs j 0) 0 e, numbered_to))

  pub more-words : get_or xs j 0 ≡ 0 → set xs j (n + 1) ≡ numbered xs j n
  unfolding numbered
  more-words e = sym (rw (eq-eqb (get_or xs j 0) 0 e, numbered))

  pub more_count : get_or xs j 0 ≡ 0 → n + 1 ≡ numbered_to xs j n
  unfolding numbered_to
  more_count e = sym (rw (eq-eqb (get_or xs j 0) 0 e, numbered_to))

-- id j entered, which no other of them is
module _ (ids : ℕ → Id) (room : ℕ) (xs : List ℕ) (ks : List Known) (n j : ℕ) (N : Numbers ids room xs ks n) (h : j < room) (k : Known) (is : k.id ≡ ids j) (apart : (i : ℕ) → i < room → (i ≡ j → ⊥) → same_id (ids i) (ids j) ≡ false) where
  numbers-kept : (get_or xs j 0 ≡ 0 → ⊥) → Numbers ids room (numbered xs j n) (enter ks k) (numbered_to xs j n)
  numbers-kept ne =
      let y : is_known ks k.id ≡ true = ap (is_known ks) is ∙ place-some ks (ids j) (λ z. ne (N.place j h ∙ z)) in
      let o = enter_old ks k y in
      rw (← kept-words xs j n ne, ← kept_count xs j n ne, o) N

  numbers_new : get_or xs j 0 ≡ 0 → Numbers ids room (numbered xs j n) (enter ks k) (numbered_to xs j n)
  numbers_new z =
      let f : is_known ks k.id ≡ false = ap (is_known ks) is ∙ place-zero ks (ids j) (sym (N.place j h) ∙ z) in
      let o = enter_new ks k f in
      let l = length-append ks (k ∷ []) in
      let c = N.count in
      let g = N.long in
      let s = length-set xs j (n + 1) in
      let fits_in : j < length xs = omega (arith, h, g) in
      let more : n + 1 ≡ length (enter ks k) = rw o (omega (arith, l, c)) in
      let each : (i : ℕ) → i < room → get_or (set xs j (n + 1)) i 0 ≡ place_in (enter ks k) (ids i) = λ i m.
      cases (eqb i j)
      (λ e. let q = eqb-true i j e in
      rw q (get_or-set_same xs j (n + 1) 0 fits_in ∙ add-one n ∙ ap suc c ∙ sym (place_same ks k (ids j) f (ap (same_id (ids j)) is ∙ same_id_lem (ids j)))))
      (λ e. let ne = eqb-false i j e in
      get_or-set_other xs j i (n + 1) 0 ne ∙ N.place i m ∙ sym (place_other ks k (ids i) f (ap (same_id (ids i)) is ∙ apart i m ne))) in
      rw (← more-words xs j n z, ← more_count xs j n z) (record { count = more; long = omega (arith, g, s); place = each })

  pub numbers_more : Numbers ids room (numbered xs j n) (enter ks k) (numbered_to xs j n)
  numbers_more = cases (eqb (get_or xs j 0) 0) (λ e. numbers_new (eqb-true (get_or xs j 0) 0 e)) (λ e. numbers-kept (eqb-false (get_or xs j 0) 0 e))

-- one id more that is not known
pub numbers-grown : (ids ids' : ℕ → Id) (k : ℕ) (xs : List ℕ) (ks : List Known) (n : ℕ) → Numbers ids k xs ks n → ((j : ℕ) → j < k → ids' j ≡ ids j) → k < length xs → get_or xs k 0 ≡ 0 → is_known ks (ids' k) ≡ false → Numbers ids' (suc k) xs ks n
numbers-grown ids ids' k xs ks n N s h z f = record {
  count = N.count;
  long = omega (arith, h);
  place = λ i m. cases (eqb i k)
      (λ e. let q = eqb-true i k e in rw q (z ∙ sym (place_no ks (ids' k) f)))
      (λ e. let l : i < k = omega (arith, m, eqb-false i k e) in N.place i l ∙ ap (place_in ks) (sym (s i l)));
}
