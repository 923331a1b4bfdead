-- A goto's kernel in words: the items of a state moved over a symbol are the places of `moved` that have a token (`packed-moved`).
use Rattle.std.proofs.Common.{◌≡◌, ℕ, zero, suc, ◌+◌, ◌*◌, ◌/◌, ◌%◌, ◌<◌, ◌≤◌, true, false, not, eqb, ltb, Some, List, [], ◌∷◌, ◌++◌, length, get_or, drop, sym, refl, ap, ◌∙◌, arith, ltb-false, ltb-true, eq-eqb, ne_eqb, eqb-true}
use lib.ListN.{get_or-eq_default}
use borrow.Author.Tests.{eqb-false}
use Rattle.lr1_base.specs.repr.Sizes.{index_limit}
use Rattle.lr1_base.specs.repr.Lists.{up_from, below}
use Rattle.lr1_base.specs.repr.Meaning.{Symbol, Production, Table, production_at, TableFits}
use Rattle.lr1_base.specs.repr.Listed.{listed}
use Rattle.lr1_base.specs.repr.Packed.{symbol_words, production_in}
use Rattle.lr1_base.proofs.repr.Lists.{cases, clash, up_from-last, keep-nil, keep-yes, keep_no}
use Rattle.lr1_states.specs.canonical.States.{places, from, begins, moved_to, moved}
use Rattle.lr1_states.proofs.canonical.Goto.{drop-long, length_moved, moved_at, moved_to-zero, symbols_short}
use Rattle.lr1_states.specs.closure.Grammar.{OfTable}
use Rattle.lr1_states.proofs.closure.Grammar.{production_at_lem}
use Rattle.lr1_states.specs.stored_item.Stored.{Entry, held, packed, is_at, moved_over}

-- places of a range that have a token

pub held_none : (S : List ℕ) (x : ℕ) (xs : List ℕ) → get_or S x 0 ≡ 0 → held S (x ∷ xs) ≡ held S xs
held_none S x xs z = rw (keep_no (λ x. not (eqb (get_or S x 0) 0)) x xs (rw (eq-eqb (get_or S x 0) 0 z)))

pub held-some : (S : List ℕ) (x : ℕ) (xs : List ℕ) → (get_or S x 0 ≡ 0 → ⊥) → held S (x ∷ xs) ≡ record { place = x; set = get_or S x 0 } ∷ held S xs
held-some S x xs z = rw (keep-yes (λ x. not (eqb (get_or S x 0) 0)) x xs (rw (ne_eqb (get_or S x 0) 0 z)))

-- by the packed words: the symbols from the cursor of item x on
abbrev cut : List ℕ → ℕ → List Symbol
cut g x = drop (x % index_limit) (listed (symbol_words g (x / index_limit)))

over_here : (g : List ℕ) (X : Symbol) (e : Entry) (es : List Entry) → begins X (cut g e.place) ≡ true → moved_over g (Some X) (e ∷ es) ≡ record { place = e.place + 1; set = e.set } ∷ moved_over g (Some X) es
unfolding moved_over is_at
over_here g X e es t = rw (t, moved_over)

over_past : (g : List ℕ) (X : Symbol) (e : Entry) (es : List Entry) → begins X (cut g e.place) ≡ false → moved_over g (Some X) (e ∷ es) ≡ moved_over g (Some X) es
unfolding moved_over is_at
over_past g X e es t = rw (t, moved_over)

-- M holds what S holds one place before, where the cursor stands at the symbol
module _ (g : List ℕ) (X : Symbol) (S M : List ℕ) (n : ℕ) (at : (x : ℕ) → x < n → begins X (cut g x) ≡ true → get_or M (suc x) 0 ≡ get_or S x 0)
    (off : (x : ℕ) → x < n → begins X (cut g x) ≡ false → get_or M (suc x) 0 ≡ 0) where
  pub held_moved : (x m : ℕ) → x + m ≤ n → moved_over g (Some X) (held S (up_from x m)) ≡ held M (up_from (suc x) m)
  unfolding up_from moved_over
  held_moved x zero h = rw (keep-nil (λ x. not (eqb (get_or S x 0) 0)), keep-nil (λ x. not (eqb (get_or M x 0) 0)))
  held_moved x (suc m) h =
      let more = held_moved (suc x) m (omega arith) in
      let l : x < n = omega arith in
      cases (eqb (get_or S x 0) 0)
      (λ t.
      let z = eqb-true (get_or S x 0) 0 t in
      let none : get_or M (suc x) 0 ≡ 0 = cases (begins X (cut g x)) (λ u. at x l u ∙ z) (λ u. off x l u) in
      ap (moved_over g (Some X)) (held_none S x (up_from (suc x) m) z) ∙ more ∙ sym (held_none M (suc x) (up_from (suc (suc x)) m) none))
      (λ t.
      let z = eqb-false (get_or S x 0) 0 t in
      ap (moved_over g (Some X)) (held-some S x (up_from (suc x) m) z) ∙ cases (begins X (cut g x))
      (λ u.
      let e = at x l u in
      let one : x + 1 ≡ suc x = omega arith in
      over_here g X (record { place = x; set = get_or S x 0 }) (held S (up_from (suc x) m)) u
      ∙ rw (one, more) (sym (held-some M (suc x) (up_from (suc (suc x)) m) (λ q. z (sym e ∙ q)) ∙ rw e))
      )
      (λ u.
      over_past g X (record { place = x; set = get_or S x 0 }) (held S (up_from (suc x) m)) u
      ∙ more ∙ sym (held_none M (suc x) (up_from (suc (suc x)) m) (off x l u))))

-- M at the place behind x

behind-yes : (T : Table) (X : Symbol) (S : List ℕ) (p i : ℕ) → begins X (drop i (production_at T p).symbols) ≡ true → moved_to T X S p (suc i) ≡ get_or S (index_limit * p + i) 0
unfolding moved_to
behind-yes T X S p i t = rw (t, moved_to)

behind_no : (T : Table) (X : Symbol) (S : List ℕ) (p i : ℕ) → begins X (drop i (production_at T p).symbols) ≡ false → moved_to T X S p (suc i) ≡ 0
unfolding moved_to
behind_no T X S p i t = rw (t, moved_to)

begins_long : (X : Symbol) (i : ℕ) (ys : List Symbol) → begins X (drop i ys) ≡ true → i < length ys
unfolding begins
begins_long X i ys t = by (drop i ys) refl t
  where
    by : (zs : List Symbol) → drop i ys ≡ zs → begins X zs ≡ true → i < length ys
    by [] q u = clash false u refl
    by (z ∷ zs) q u = drop-long i ys z zs q

module _ (T : Table) (F : TableFits T) (X : Symbol) (S : List ℕ) where
  next-yes : (x : ℕ) → x < places T → begins X (from T x) ≡ true → get_or (moved T X S) (suc x) 0 ≡ get_or S x 0
  next-yes x h t =
      let l : x % index_limit < length (production_at T (x / index_limit)).symbols = begins_long X (x % index_limit) (production_at T (x / index_limit)).symbols t in
      let k : x % index_limit < 16 = omega (arith, l, symbols_short T F (x / index_limit)) in
      let p : suc x / index_limit ≡ x / index_limit = omega arith in
      let i : suc x % index_limit ≡ suc (x % index_limit) = omega arith in
      let y : index_limit * (x / index_limit) + x % index_limit ≡ x = omega arith in
      moved_at T X S (suc x) (omega arith) ∙ rw (p, i) (behind-yes T X S (x / index_limit) (x % index_limit) t ∙ ap (λ (z : ℕ). get_or S z 0) y)

  next_no : (x : ℕ) → x < places T → begins X (from T x) ≡ false → get_or (moved T X S) (suc x) 0 ≡ 0
  next_no x h t =
      cases (ltb (suc x) (places T))
      (λ u. moved_at T X S (suc x) (ltb-true (suc x) (places T) u) ∙ cases (eqb (x % index_limit) 16)
      (λ v.
      let w : x % index_limit ≡ 16 = eqb-true (x % index_limit) 16 v in
      let i : suc x % index_limit ≡ 0 = omega arith in
      rw i (moved_to-zero T X S (suc x / index_limit)))
      (λ v.
      let w = eqb-false (x % index_limit) 16 v in
      let k : x % index_limit < 16 = omega (arith, w) in
      let p : suc x / index_limit ≡ x / index_limit = omega arith in
      let i : suc x % index_limit ≡ suc (x % index_limit) = omega arith in
      rw (p, i) (behind_no T X S (x / index_limit) (x % index_limit) t)))
      (λ u.
      let o : length (moved T X S) ≤ suc x = rw (length_moved T X S) (ltb-false (suc x) (places T) u) in
      get_or-eq_default (moved T X S) 0 o)

-- the ends of the range have no token

held-last : (M xs : List ℕ) (n : ℕ) → get_or M n 0 ≡ 0 → held M (xs ++ n ∷ []) ≡ held M xs
held-last M [] n z = held_none M n [] z
held-last M (x ∷ xs) n z =
    let more = held-last M xs n z in
    cases (eqb (get_or M x 0) 0)
    (λ t. let q = eqb-true (get_or M x 0) 0 t in held_none M x (xs ++ n ∷ []) q ∙ more ∙ sym (held_none M x xs q))
    (λ t. let q = eqb-false (get_or M x 0) 0 t in held-some M x (xs ++ n ∷ []) q ∙ ap (λ (l : List Entry). record { place = x; set = get_or M x 0 } ∷ l) more ∙ sym (held-some M x xs q))

held_turn : (M : List ℕ) (n : ℕ) → get_or M 0 0 ≡ 0 → get_or M n 0 ≡ 0 → held M (up_from 1 n) ≡ held M (up_from 0 n)
unfolding up_from
held_turn M n a z =
    let e : 0 + n ≡ n = omega arith in
    sym (held_none M 0 (up_from 1 n) a) ∙ ap (held M) (up_from-last 0 n) ∙ held-last M (up_from 0 n) (0 + n) (rw e z)

module _ (T : Table) (g : List ℕ) (k e : ℕ) (sets : List ℕ) (G : OfTable T g k e sets) (X : Symbol) where
  agree : (x : ℕ) → x < places T → begins X (cut g x) ≡ begins X (from T x)
  unfolding production_in
  agree x h = ap (λ (r : Production). begins X (drop (x % index_limit) r.symbols)) (sym (production_at_lem T g k e sets G (x / index_limit) (omega (arith, G.many))))

  -- what `move_over` gives is the kernel of the goto
  pub packed-moved : (S : List ℕ) → length S ≡ places T → moved_over g (Some X) (packed S) ≡ packed (moved T X S)
  unfolding packed below
  packed-moved S long =
      let M : List ℕ = moved T X S in
      let size : length (moved T X S) ≡ places T = length_moved T X S in
      let past : get_or (moved T X S) (places T) 0 ≡ 0 = out in
      rw (long, size) (held_moved g X S (moved T X S) (places T)
      (λ x h t. next-yes T G.fits X S x h (sym (agree x h) ∙ t)) (λ x h t. next_no T G.fits X S x h (sym (agree x h) ∙ t)) 0 (places T) (omega arith)
      ∙ held_turn (moved T X S) (places T) first past)
    where
      out : get_or (moved T X S) (places T) 0 ≡ 0
      out = let o : length (moved T X S) ≤ places T = rw (length_moved T X S) (omega arith) in get_or-eq_default (moved T X S) 0 o

      first : get_or (moved T X S) 0 0 ≡ 0
      first =
          cases (ltb 0 (places T))
          (λ u. moved_at T X S 0 (ltb-true 0 (places T) u) ∙ moved_to-zero T X S 0)
          (λ u. let o : length (moved T X S) ≤ 0 = rw (length_moved T X S) (ltb-false 0 (places T) u) in get_or-eq_default (moved T X S) 0 o)
