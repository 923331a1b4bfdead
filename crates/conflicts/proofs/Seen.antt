-- The cases of `is_whole_example` and `part_observed`, one for each way through the code; the part is the observed symbols.
use mathlib.Core.Path.{◌≡◌, refl, sym, ap, ◌∙◌}
use mathlib.Core.Bool.{true, false, ◌&&◌}
use mathlib.Core.List.{List, []}
use Prim.Native.Nat.{ℕ, ◌+◌, ◌*◌, ◌-◌, ◌≤◌, ◌<◌}
use native.Mathlib.Omega.{arith}
use lib.ListN.{length, get_or, take, drop, length-drop}
use lib.Seq.{length-take-le}
use lib.Dec.{leb}
use borrow.Author.Tests.{le-leb, lt-leb, leb-true}
use Rattle.lr1_base.specs.repr.Sizes.{reduction_place}
use Rattle.lr1_base.proofs.repr.Lists.{cases}
use Rattle.conflict_sides.specs.conflict.Observed.{is_whole_example, before_cursor, observed_of}
use Rattle.conflicts.specs.Part.{part_observed, part_words}
use Rattle.conflicts.specs.declared.Part.{Part}
use Rattle.conflicts.specs.declared.Part.TheVariants.{Action, Reduce}
use Rattle.lr1_base.proofs.laws.Bools.{and-true}

module _ (x : List ℕ) where
  pub whole_short : length x < 3 → false ≡ is_whole_example x
  unfolding is_whole_example
  whole_short h = rw (lt-leb _ _ h)

  pub rest_long : 3 ≤ length x → length (take (length x - 3) (drop 3 x)) ≡ length x - 3
  rest_long h = let d = length-drop 3 x in length-take-le (length x - 3) (drop 3 x) (omega arith)

  module _ (h : 3 ≤ length x) (s c r : ℕ) (es : s ≡ get_or x 0 0) (ec : c ≡ get_or x 1 0) (er : r ≡ get_or x 2 0) where
    pub whole-counts : length x < reduction_place s r → false ≡ is_whole_example x
    unfolding is_whole_example
    whole-counts k = rw (le-leb _ _ h, ← es, ← er, lt-leb _ _ k)

    pub whole_cursor : reduction_place s r ≤ length x → leb c s ≡ is_whole_example x
    unfolding is_whole_example
    whole_cursor k = rw (le-leb _ _ h, ← es, ← er, ← ec, le-leb _ _ k)

  -- what a whole example has
  module _ (e : is_whole_example x ≡ true) where
    pub whole_long : 3 ≤ length x
    unfolding is_whole_example
    whole_long = leb-true _ _ (and-true _ _ e).0

    pub whole_words : 3 + 2 * get_or x 1 0 ≤ length x
    unfolding is_whole_example
    whole_words =
        let rest = and-true (leb (reduction_place (get_or x 0 0) (get_or x 2 0)) (length x)) (leb (get_or x 1 0) (get_or x 0 0)) (and-true (leb 3 (length x)) (leb (reduction_place (get_or x 0 0) (get_or x 2 0)) (length x) && leb (get_or x 1 0) (get_or x 0 0)) e).1 in
        let a : reduction_place (get_or x 0 0) (get_or x 2 0) ≤ length x = leb-true _ _ rest.0 in
        let b : get_or x 1 0 ≤ get_or x 0 0 = leb-true _ _ rest.1 in
        omega arith

module _ (a b : List ℕ) where
  pub part_none : is_whole_example a ≡ false → Action 0 ≡ part_observed a b
  unfolding part_observed
  part_none e = rw (e, part_observed)

  module _ (ea : is_whole_example a ≡ true) where
    pub part_first : is_whole_example b ≡ false → Action 0 ≡ part_observed a b
    unfolding part_observed
    part_first e = rw (ea, e, part_observed)

    module _ (eb : is_whole_example b ≡ true) (ca cb : ℕ) (fa : ca ≡ get_or a 1 0) (fb : cb ≡ get_or b 1 0) where
      pub part_action : cb ≤ ca → Action (2 * ca) ≡ part_observed a b
      unfolding part_observed
      part_action h =
          let k : get_or b 1 0 ≤ get_or a 1 0 = omega arith in
          rw (ea, eb, le-leb _ _ k, part_observed, fa)

      pub part_reduce : ca < cb → Reduce (2 * cb) ≡ part_observed a b
      unfolding part_observed
      part_reduce h =
          let k : get_or a 1 0 < get_or b 1 0 = omega arith in
          rw (ea, eb, lt-leb _ _ k, part_observed, fb)

  -- the part is within its buffer, and is the observed symbols
  unfoldable Within : Part → Type 0
  Within (Action n) = (n ≤ 2 * get_or a 1 0) × (((n ≡ 0 → ⊥) → 3 + n ≤ length a) × (take n (drop 3 a) ≡ observed_of a b))
  Within (Reduce n) = (n ≤ 2 * get_or b 1 0) × ((3 + n ≤ length b) × (take n (drop 3 b) ≡ observed_of a b))

  within : Within (part_observed a b)
  unfolding part_observed observed_of before_cursor Within
  within =
      cases (is_whole_example a)
      (λ p. cases (is_whole_example b)
      (λ q. cases (leb (get_or b 1 0) (get_or a 1 0))
      (λ k. rw (p, q, k, part_observed) (omega arith, (λ _. whole_words a p, rw (p, q, k, observed_of))))
      (λ k. rw (p, q, k, part_observed) (omega arith, (whole_words b q, rw (p, q, k, observed_of)))))
      (λ q. rw (p, q, part_observed) (omega arith, (λ ne. absurd (ne refl), rw (p, q, observed_of)))))
      (λ p. rw (p, part_observed) (omega arith, (λ ne. absurd (ne refl), rw (p, observed_of))))

  pub action_within : (n : ℕ) → part_observed a b ≡ Action n → (n ≡ 0 → ⊥) → 3 + n ≤ length a
  unfolding Within
  action_within n e = (rw e at within).1.0

  pub reduce_within : (n : ℕ) → part_observed a b ≡ Reduce n → 3 + n ≤ length b
  unfolding Within
  reduce_within n e = (rw e at within).1.0

  pub action_few : (n : ℕ) → part_observed a b ≡ Action n → n ≤ 2 * get_or a 1 0
  unfolding Within
  action_few n e = (rw e at within).0

  pub reduce_few : (n : ℕ) → part_observed a b ≡ Reduce n → n ≤ 2 * get_or b 1 0
  unfolding Within
  reduce_few n e = (rw e at within).0

  words-within : (o : Part) → Within o → part_words o a b ≡ observed_of a b
  unfolding Within part_words
  words-within (Action n) h = h.1.1
  words-within (Reduce n) h = h.1.1

  part_observed_lem : part_words (part_observed a b) a b ≡ observed_of a b
  part_observed_lem = words-within (part_observed a b) within

  -- what is returned is that part
  abbrev pub Returned : List ℕ → Type 0
  Returned ws = (ws ≡ part_words (part_observed a b) a b) × (ws ≡ observed_of a b)

  pub returned : (ws : List ℕ) → ws ≡ part_words (part_observed a b) a b → Returned ws
  returned ws e = (e, e ∙ part_observed_lem)

  module _ (n end : ℕ) (f : end ≡ 3 + n) where
    stands : (xs : List ℕ) → take (end - 3) xs ≡ take n xs
    stands xs = let w : end - 3 ≡ n = omega arith in ap (λ (k : ℕ). take k xs) w

    pub action_returned : part_observed a b ≡ Action n → Returned (take (end - 3) (drop 3 a))
    unfolding part_words
    action_returned e = returned (take (end - 3) (drop 3 a)) (stands (drop 3 a) ∙ sym (ap (λ (o : Part). part_words o a b) e))

    pub reduce_returned : part_observed a b ≡ Reduce n → Returned (take (end - 3) (drop 3 b))
    unfolding part_words
    reduce_returned e = returned (take (end - 3) (drop 3 b)) (stands (drop 3 b) ∙ sym (ap (λ (o : Part). part_words o a b) e))

  pub none_returned : (n : ℕ) → part_observed a b ≡ Action n → n ≡ 0 → Returned []
  unfolding part_words
  none_returned n e z = returned [] (ap (λ (k : ℕ). take k (drop 3 a)) (sym z) ∙ sym (ap (λ (o : Part). part_words o a b) e))
