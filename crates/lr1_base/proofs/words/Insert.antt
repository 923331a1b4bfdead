-- A word put into a list at a place: what `insert_at` makes of it.
use mathlib.Core.Path.{◌≡◌, refl, ap, ◌∙◌}
use mathlib.Core.List.{List, ◌∷◌, ◌++◌, append_assoc}
use Prim.Native.Nat.{ℕ, suc, ◌+◌, ◌-◌, ◌≤◌, ◌<◌}
use native.Mathlib.Numerals.{add-one}
use native.Mathlib.Omega.{arith}
use lib.ListN.{length, take, drop, set, length-append, length-drop}
use lib.Seq.{take-suc-set, take-set-lt, paste, take-take, length-take-le, take_at, drop_at, take-add}
use Rattle.std.proofs.lemmas.List.{set-append_left}
use Rattle.lr1_base.specs.words.Insert.{inserted_at}

drop-take : (k n : ℕ) (o : List ℕ) → k ≤ n → k ≤ length o → drop k (take n o) ≡ take (n - k) (drop k o)
drop-take k n o le h =
    let e : n ≡ k + (n - k) = omega arith in
    ap (λ (j : ℕ). drop k (take j o)) e ∙ ap (drop k) (take-add k (n - k) o) ∙ drop_at (take k o) (take (n - k) (drop k o)) k (length-take-le k o h)

module _ (o : List ℕ) (at n x : ℕ) (le : at ≤ n) (h : n < length o) where
  -- what follows is moved up by one, and x put in
  pub inserted_is : set (paste o (at + 1) (drop at o) (n - at)) at x ≡ inserted_at at x (take n o) ++ drop (suc n) o
  unfolding inserted_at
  inserted_is =
      let s : at + 1 + (n - at) ≡ suc n = omega arith in
      let l : length (take (suc at) o) ≡ suc at = length-take-le (suc at) o (omega arith) in
      let k : at < length (take (suc at) o) = omega arith in
      let lt : at < suc at = omega arith in
      let q : at < length o = omega arith in
      rw (s, append_assoc, add-one at, set-append_left, ← take-set-lt (suc at) o at x lt, take-suc-set o at x q, take-take at n o le, drop-take at n o le (omega arith), append_assoc, append_assoc)
      refl

  -- the first n + 1 words after it
  pub inserted_front : take (suc n) (inserted_at at x (take n o) ++ drop (suc n) o) ≡ inserted_at at x (take n o)
  unfolding inserted_at
  inserted_front =
      let a : length (take n o) ≡ n = length-take-le n o (omega arith) in
      let b : length (take at (take n o)) ≡ at = length-take-le at (take n o) (omega arith) in
      let d : length (drop at (take n o)) ≡ n - at = (simp length-drop (omega arith)) in
      take_at (inserted_at at x (take n o)) (drop (suc n) o) (suc n) (length-append (take at (take n o)) (x ∷ drop at (take n o)) ∙ omega arith)
