-- How many newlines the beginnings of a text have.
use Rattle.std.proofs.Common.{◌≡◌, ◌≢◌, ℕ, zero, suc, ◌+◌, ◌-◌, ◌<◌, ◌≤◌, ◌==◌, Bool, true, cond, List, [], ◌∷◌, length, take, count_by, get_or, arith, eq-eqb, inl, inr}
use Rattle.std.proofs.lemmas.Bool.{cases_lt}
use Rattle.std.proofs.lemmas.List.Sums.{count_by_more_yes, sum_by-cons}
use Rattle.std.proofs.Math.Seq.{take-length}
use Rattle.source.specs.Lines.{BeginsLine, newlines}

add_le : (p : ℕ → Bool) (x : ℕ) (xs ys : List ℕ) → count_by p xs ≤ count_by p ys → count_by p (x ∷ xs) ≤ count_by p (x ∷ ys)
add_le p x xs ys h = omega (arith, sum_by-cons (λ b. cond (p b) 1 0) x xs, sum_by-cons (λ b. cond (p b) 1 0) x ys)

-- a longer beginning has no fewer
pub count_grows : (p : ℕ → Bool) (xs : List ℕ) (i j : ℕ) → i ≤ j → count_by p (take i xs) ≤ count_by p (take j xs)
count_grows p xs zero j h = omega arith
count_grows p xs (suc i) zero h = absurd (omega arith)
count_grows p [] (suc i) (suc j) h = omega arith
count_grows p (x ∷ xs) (suc i) (suc j) h = add_le p x (take i xs) (take j xs) (count_grows p xs i j (omega arith))

is_newline : (b : ℕ) → b ≡ 10 → (b == 10) ≡ true
is_newline b e = eq-eqb b 10 e

-- before the next line begins there are no more
pub few_before : (text : List ℕ) (i t at : ℕ) → BeginsLine text (i + 1) t → at < t → newlines (take at text) ≤ i
few_before text i t at next h =
    let within = next.within in
    let inside : t - 1 < length text = omega arith in
    let last = next.behind (omega arith) in
    let step = count_by_more_yes (λ b. b == 10) text (t - 1) 0 inside (is_newline _ last) in
    let whole : t - 1 + 1 ≡ t = omega arith in
    let counted = rw (← whole) at next.counted in
    let grows = count_grows (λ b. b == 10) text at (t - 1) (omega arith) in
    omega arith

-- nor are there in the whole text
pub few_in_all : (text : List ℕ) (i at : ℕ) → at ≤ length text → newlines text ≡ i → newlines (take at text) ≤ i
few_in_all text i at h e =
    let grows = count_grows (λ b. b == 10) text at (length text) h in
    let counted = rw (take-length text) at grows in omega arith

-- where two beginnings have equally many, there is none between
pub none_between : (text : List ℕ) (s at k : ℕ) → newlines (take at text) ≤ newlines (take s text) → at ≤ length text → s ≤ k → k < at → get_or text k 0 ≢ 10
none_between text s at k few within low high e =
    let step = count_by_more_yes (λ b. b == 10) text k 0 (omega arith) (is_newline _ e) in
    let before = count_grows (λ b. b == 10) text s k low in
    let behind = count_grows (λ b. b == 10) text (k + 1) at (omega arith) in
    absurd (omega arith)

-- a line has as many newlines before each of its places as before its begin
pub few_at : (text : List ℕ) (n i at : ℕ) (start : ℕ → ℕ) → n ≡ 1 + newlines text → i < n → at ≤ length text → ((k : ℕ) → k < n → BeginsLine text k (start k))
    → (i + 1 < n → at < start (i + 1)) → newlines (take at text) ≤ i
few_at text n i at start all inside within begins before =
    elim (cases_lt (i + 1) n) [
      | inl more ↦ few_before text i (start (i + 1)) at (begins (i + 1) more) (before more)
      | inr last ↦ few_in_all text i at within (omega arith)
    ]
