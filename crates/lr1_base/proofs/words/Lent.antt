-- Laws of the words that a call leaves (specs/words/Lent): how many they are, zeroed twice, zeroed behind a part that was lent on.
use mathlib.Core.Path.{◌≡◌, sym, ap, ◌∙◌}
use mathlib.Core.List.{List, ◌++◌}
use Prim.Native.Nat.{ℕ, ◌+◌, ◌-◌, ◌≤◌}
use native.Mathlib.Omega.{arith}
use lib.ListN.{length, drop, replicate, length-append, length-drop, length-replicate}
use lib.Seq.{drop_at, drop-append-add, drop-drop}
use Rattle.lr1_base.specs.words.Lent.{in_front, zeroed}

pub length-in_front : (new old : List ℕ) → length new ≤ length old → length (in_front new old) ≡ length old
unfolding in_front
length-in_front new old h =
    let a = length-append new (drop (length new) old) in
    let b = length-drop (length new) old in
    omega arith

pub length-zeroed : (n : ℕ) (s : List ℕ) → n ≤ length s → length (zeroed n s) ≡ length s
unfolding zeroed
length-zeroed n s h =
    let a = length-append (replicate n 0) (drop n s) in
    let b = length-replicate {A = ℕ} n 0 in
    let c = length-drop n s in
    omega arith

-- what a loop that zeroes comes to
pub zeroed_is : (n k : ℕ) (s s₀ : List ℕ) → k ≡ n → s ≡ replicate k 0 ++ drop k s₀ → s ≡ zeroed n s₀
unfolding zeroed
zeroed_is n k s s₀ e h = h ∙ ap (λ (x : ℕ). replicate x 0 ++ drop x s₀) e

-- zeroing again changes nothing
pub zeroed-twice : (n : ℕ) (w₀ w : List ℕ) → w ≡ zeroed n w₀ → zeroed n w ≡ zeroed n w₀
unfolding zeroed
zeroed-twice n w₀ w e = ap (λ (l : List ℕ). replicate n 0 ++ l) (ap (drop n) e ∙ drop_at (replicate n 0) (drop n w₀) n (length-replicate {A = ℕ} n 0))

pub zeroed_again : (n : ℕ) (w₀ w : List ℕ) → w ≡ zeroed n w₀ → w ≡ zeroed n w
zeroed_again n w₀ w e = e ∙ sym (zeroed-twice n w₀ w e)

-- a front of m words was lent on: zeroing passes over it
pub zeroed_lent : (n m : ℕ) (front s : List ℕ) → length front ≡ m → m ≤ n → zeroed n (front ++ drop m s) ≡ zeroed n s
unfolding zeroed
zeroed_lent n m front s e h =
    let q : n ≡ length front + (n - m) = omega arith in
    let r : m + (n - m) ≡ n = omega arith in
    ap (λ (l : List ℕ). replicate n 0 ++ l)
    (ap (λ (k : ℕ). drop k (front ++ drop m s)) q ∙ drop-append-add front (drop m s) (n - m) ∙ drop-drop (n - m) m s ∙ ap (λ (k : ℕ). drop k s) r)
