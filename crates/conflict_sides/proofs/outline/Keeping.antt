-- Laws of a side's examples in words (specs/outline/Kept): what was kept at k is read there, the others stay, and so does the room. Assumes nothing.
use Rattle.std.proofs.Common.{◌≡◌, ℕ, suc, ◌+◌, ◌<◌, ltb, ◌≢◌, List, [], ◌∷◌, length, get_or, set, arith, length-set, get_or-set_other, get_or-set_same, ltb-false, ltb-true}
use lib.Seq.{length-sets}
use Rattle.lr1_base.specs.repr.Sizes.{example_limit}
use Rattle.lr1_base.proofs.repr.Lists.{cases}
use Rattle.trace_graph.proofs.Stores.{stored_before, stored_after, stored_at}
use Rattle.conflict_sides.specs.declared.outline.Outline.{Outline}
use Rattle.conflict_sides.specs.outline.Kept.{outline_place, outline_in, turn_in, kept_with, Room}

pub outline_of-words : {p q f l p' q' f' l' : ℕ} → p ≡ p' → q ≡ q' → f ≡ f' → l ≡ l' → ◌≡◌ {A = Outline} (record { places = p; print = q; first = f; label = l }) (record { places = p'; print = q'; first = f'; label = l' })
outline_of-words a b c d = rw (a, b, c, d)

-- `outline_at`
pub outline_read : (kept prints : List ℕ) (k p q f l : ℕ) → p ≡ get_or kept (outline_place k) 0 → q ≡ get_or prints k 0 → f ≡ get_or kept (outline_place k + 1) 0 → l ≡ get_or kept (outline_place k + 2) 0
    → ◌≡◌ {A = Outline} (record { places = p; print = q; first = f; label = l }) (outline_in kept prints k)
unfolding outline_in
outline_read kept prints k p q f l a b c d = outline_of-words a b c d

-- `turn_at`
pub turn_read : (kept : List ℕ) (k t : ℕ) → t ≡ get_or kept (outline_place k + 3) 0 → t ≡ turn_in kept k
unfolding turn_in
turn_read kept k t e = e

module _ (kept : List ℕ) (k : ℕ) (o : Outline) (t : ℕ) where
  -- `keep`: four stores
  pub keep_stores : set (set (set (set kept (outline_place k) o.places) (outline_place k + 1) o.first) (outline_place k + 2) o.label) (outline_place k + 3) t ≡ kept_with kept k o t
  unfolding kept_with
  keep_stores =
      let a : outline_place k + 1 ≡ suc (outline_place k) = omega arith in
      let b : outline_place k + 2 ≡ suc (suc (outline_place k)) = omega arith in
      let c : outline_place k + 3 ≡ suc (suc (suc (outline_place k))) = omega arith in
      rw (a, b, c)

  abbrev words : List ℕ
  words = o.places ∷ o.first ∷ o.label ∷ t ∷ []

  pub keep-length : length (kept_with kept k o t) ≡ length kept
  unfolding kept_with
  keep-length = length-sets kept (outline_place k) words

  module _ (prints : List ℕ) (R : Room kept prints) where
    -- the room stays
    pub keep-room : Room (kept_with kept k o t) (set prints k o.print)
    keep-room = record { by_words = rw keep-length R.by_words; by_print_lem = rw (length-set prints k o.print) R.by_print_lem }

    module _ (h : k < example_limit) where
      here : (i : ℕ) → i < 4 → get_or (kept_with kept k o t) (outline_place k + i) 0 ≡ get_or words i 0
      unfolding kept_with
      here i l = let r = R.by_words in stored_at words kept (outline_place k) i l (omega arith)

      pub keep_here : outline_in (kept_with kept k o t) (set prints k o.print) k ≡ o
      unfolding outline_in
      keep_here =
          let z : outline_place k + 0 ≡ outline_place k = omega arith in
          let r = R.by_print_lem in
          outline_of-words (rw z at (here 0 (omega arith))) (get_or-set_same prints k o.print 0 (omega arith)) (here 1 (omega arith)) (here 2 (omega arith))

      pub keep_turn : turn_in (kept_with kept k o t) k ≡ t
      unfolding turn_in
      keep_turn = here 3 (omega arith)

  module _ (j : ℕ) (ne : j ≢ k) where
    there : (i : ℕ) → i < 4 → get_or (kept_with kept k o t) (outline_place j + i) 0 ≡ get_or kept (outline_place j + i) 0
    unfolding kept_with
    there i l =
        cases (ltb j k)
        (λ q. let a = ltb-true j k q in stored_before words kept (outline_place k) (outline_place j + i) (omega arith))
        (λ q.
        let a = ltb-false j k q in
        let b : k < j = cases (ltb k j) (λ w. ltb-true k j w) (λ w. let d = ltb-false k j w in absurd (ne (omega arith))) in
        stored_after words kept (outline_place k) (outline_place j + i) (omega arith))

    pub keep_there : (prints : List ℕ) → outline_in (kept_with kept k o t) (set prints k o.print) j ≡ outline_in kept prints j
    unfolding outline_in
    keep_there prints =
        let z : outline_place j + 0 ≡ outline_place j = omega arith in
        outline_of-words (rw z at (there 0 (omega arith))) (get_or-set_other prints k j o.print 0 ne) (there 1 (omega arith)) (there 2 (omega arith))

    pub keep_turn_there : turn_in (kept_with kept k o t) j ≡ turn_in kept j
    unfolding turn_in
    keep_turn_there = there 3 (omega arith)
