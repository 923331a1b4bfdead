-- The steps of marking: one law for each way through a turn of its loops, and what the marks are where a pass has come.
use mathlib.Core.Path.{◌≡◌, sym, ap, ◌∙◌}
use mathlib.Core.Bool.{Bool, true, false}
use mathlib.Core.List.{List}
use Prim.Native.Nat.{ℕ, ◌+◌, ◌/◌, ◌≤◌, ◌<◌}
use native.Mathlib.Omega.{arith}
use native.Mathlib.Decide.{ℕ_discrete}
use lib.ListN.{length}
use Rattle.lr1_base.specs.bits.Bits.{bit_at, bit_put}
use Rattle.lr1_base.proofs.bits.Laws.{put-length, put_here, put_other, zeros_none}
use Rattle.table.specs.Words.{Area, word_at, loose, loose_records, names}
use Rattle.table.specs.Reached.{Reached, head, next, reached_by}
use Rattle.table.proofs.Reached.{loose-named, reached, by_reached}
use Rattle.lr1_base.proofs.repr.Lists.{cases, clash}
use Rattle.table_check.specs.Passed.{Blank, Passed, Reaching}

-- the test of the code is the rule
pub tested : (t : List ℕ) (a : Area) (r x : ℕ) {b v : Bool} → a ≡ loose_records t → b ≡ names a r x → b ≡ v → names (loose_records t) r x ≡ v
tested t a r x l e v = rw (← l, ← e) v

module _ {t : List ℕ} {first n k : ℕ} where
  -- nothing is marked yet
  pub none_yet : (ms : List ℕ) → Blank t ms → Passed t first n k 0 (loose t) ms
  none_yet ms b = record {
    long = b.room;
    sound = λ z o. clash _ o (unmarked z);
    heads = λ j x h _ _. absurd (omega arith);
    nexts = λ z x _ o _ _. clash _ o (unmarked z);
  }
    where
      unmarked : (z : ℕ) → bit_at ms z ≡ false
      unmarked z = ap (λ (l : List ℕ). bit_at l z) b.blank ∙ zeros_none (length ms) z

  module _ {i r : ℕ} {ms : List ℕ} (P : Passed t first n k i r ms) where
    -- a mark at a reached record that is not passed yet
    pub put : (x : ℕ) → x / 64 < length ms → r ≤ x → Reached t first n k x → Passed t first n k i r (bit_put ms x)
    put x h le R = record {
      long = rw (put-length ms x) P.long;
      sound = λ z o. reach z (ℕ_discrete z x) o;
      heads = λ j y l e m. keeps y (P.heads j y l e m);
      nexts = λ z y l o e m. keeps y (P.nexts z y l (sym (other z (λ q. absurd (omega arith))) ∙ o) e m);
    }
      where
        other : (z : ℕ) → (z ≡ x → ⊥) → bit_at (bit_put ms x) z ≡ bit_at ms z
        other z ne = put_other ms x z h ne

        keeps : (z : ℕ) → bit_at ms z ≡ true → bit_at (bit_put ms x) z ≡ true
        keeps z o = elim (ℕ_discrete z x) [ yes q ↦ rw q (put_here ms x h) | no ne ↦ other z ne ∙ o ]

        reach : (z : ℕ) → Dec (z ≡ x) → bit_at (bit_put ms x) z ≡ true → Reached t first n k z
        reach z (yes q) o = rw q R
        reach z (no d) o = P.sound z (sym (other z d) ∙ o)

    -- one more head, one more record
    pub head_done : (x : ℕ) → x ≡ word_at t (first + i) k → (names (loose_records t) (first + i) x ≡ true → bit_at ms x ≡ true) → Passed t first n k (i + 1) r ms
    head_done x e f = record {
      long = P.long;
      sound = P.sound;
      heads = λ j y l ey m. at j y (ℕ_discrete j i) l ey m;
      nexts = P.nexts;
    }
      where
        at : (j y : ℕ) → Dec (j ≡ i) → j < i + 1 → y ≡ word_at t (first + j) k → names (loose_records t) (first + j) y ≡ true → bit_at ms y ≡ true
        at j y (no ne) l ey m = P.heads j y (omega arith) ey m
        at j y (yes q) l ey m =
            let w : y ≡ x = ey ∙ ap (λ (a : ℕ). word_at t (first + a) k) q ∙ sym e in
            ap (bit_at ms) w ∙ f (rw (q, w) at m)

    pub next-done : (bit_at ms r ≡ true → (x : ℕ) → x ≡ word_at t r 0 → names (loose_records t) r x ≡ true → bit_at ms x ≡ true) → Passed t first n k i (r + 1) ms
    next-done f = record {
      long = P.long;
      sound = P.sound;
      heads = P.heads;
      nexts = λ z y l o ey m. at z y (ℕ_discrete z r) l o ey m;
    }
      where
        at : (z y : ℕ) → Dec (z ≡ r) → z < r + 1 → bit_at ms z ≡ true → y ≡ word_at t z 0 → names (loose_records t) z y ≡ true → bit_at ms y ≡ true
        at z y (no ne) l o ey m = P.nexts z y (omega arith) o ey m
        at z y (yes q) l o ey m = f (rw q at o) y (rw q at ey) (rw q at m)

    -- the ways through a turn of `mark_heads`
    pub head_no : (x : ℕ) → x ≡ word_at t (first + i) k → names (loose_records t) (first + i) x ≡ false → Passed t first n k (i + 1) r ms
    head_no x e f = head_done x e (λ m. clash _ m f)

module _ {t : List ℕ} {first n k i r : ℕ} {ms : List ℕ} (P : Passed t first n k i r ms) where
  -- a named index has a place
  place : (z x : ℕ) → names (loose_records t) z x ≡ true → x / 64 < length ms
  place z x m = let N = loose-named t z x m in omega (arith, P.long, N.early)

  pub head-yes : (x : ℕ) → i < n → r ≤ loose t → x ≡ word_at t (first + i) k → names (loose_records t) (first + i) x ≡ true → Passed t first n k (i + 1) r (bit_put ms x)
  head-yes x h le e m =
      let N = loose-named t (first + i) x m in
      head_done (put P x (place (first + i) x m) (omega arith) (head i x h e N.some m)) x e (λ _. put_here ms x (place (first + i) x m))

  pub next-yes : (x : ℕ) → bit_at ms r ≡ true → x ≡ word_at t r 0 → names (loose_records t) r x ≡ true → Passed t first n k i (r + 1) (bit_put ms x)
  next-yes x o e m =
      let N = loose-named t r x m in
      next-done (put P x (place r x m) (omega arith) (next r x (P.sound r o) e N.some m))
      (λ _ y ey _. ap (bit_at (bit_put ms x)) (ey ∙ sym e) ∙ put_here ms x (place r x m))

  pub next_no : (x : ℕ) → x ≡ word_at t r 0 → names (loose_records t) r x ≡ false → Passed t first n k i (r + 1) ms
  next_no x e f = next-done P (λ _ y ey m. clash _ m (ap (names (loose_records t) r) (ey ∙ sym e) ∙ f))

  pub next-none : bit_at ms r ≡ false → Passed t first n k i (r + 1) ms
  next-none f = next-done P (λ o _ _ _. clash _ o f)

-- a reached record is marked once all before it are passed
pub whole : {t : List ℕ} {first n k r z : ℕ} {ms : List ℕ} → Passed t first n k n r ms → z ≤ r → Reached t first n k z → bit_at ms z ≡ true
whole P l (head i x h e ne m) = P.heads i x h e m
whole {t = t} P l (next y x R e ne m) = let N = loose-named t y x m in P.nexts y x (omega arith) (whole P (omega arith) R) e m

pub marked : {t : List ℕ} {first n k r : ℕ} {ms : List ℕ} → Passed t first n k n r ms → bit_at ms r ≡ reached_by t first n k r
marked {t} {first} {n} {k} {r} {ms} P =
    cases (bit_at ms r)
    (λ o. o ∙ sym (by_reached (P.sound r o)))
    (λ o. cases (reached_by t first n k r) (λ e. clash _ (whole P (omega arith) (reached r e)) o) (λ e. o ∙ sym e))

-- the marks of the three sorts, where the next index of record r names none
module _ {t : List ℕ} {r x : ℕ} {ss is es : List ℕ} (R : Reaching t r ss is es) (e : x ≡ word_at t r 0) where
  pub reaching_no : names (loose_records t) r x ≡ false → Reaching t (r + 1) ss is es
  reaching_no m = record { symbols = next_no R.symbols x e m; items = next_no R.items x e m; edges = next_no R.edges x e m }
