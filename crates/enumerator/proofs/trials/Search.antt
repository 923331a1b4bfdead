-- What a search over the trials past a count finds (specs/trials/Lister).
use Rattle.std.proofs.Common.{◌≡◌, ℕ, zero, suc, ◌+◌, ◌<◌, ◌≤◌, Bool, true, false, List, [], ◌∷◌, length, drop, sym, refl, ap, ◌∙◌, not-suc-le-zero, arith}
use Rattle.lr1_base.specs.repr.Lists.{keep}
use Rattle.lr1_base.proofs.repr.Lists.{keep-nil, keep-yes, keep_no}
use Rattle.enumerator.specs.trials.Trials.{Path}
use Rattle.enumerator.specs.trials.Lister.{Found, hit, out, over, search}
use Rattle.enumerator.proofs.trials.After.{drop-tail, drop_more}

drop_end : (c : ℕ) (us : List Path) → c ≤ length us → drop c us ≡ [] → c ≡ length us
drop_end zero [] h e = refl
drop_end zero (x ∷ xs) h e = let z : ◌≡◌ {A = ℕ} 0 1 = cc in omega arith
drop_end (suc c) [] h e = absurd (not-suc-le-zero h)
drop_end (suc c) (x ∷ xs) h e = let z : c ≡ length xs = drop_end c xs (omega arith) e in omega arith

module _ (t : Path → Bool) (ts : List Path) where
  -- past c trials with l more allowed: an example is the first of the rest that passes, and its count its number; at the end none of the rest passes,
  -- and the count is that of all; else none of the allowed passes, and there is a trial past them
  unfoldable pub Finds : ℕ → ℕ → Found → Type 0
  Finds l c (hit n p) =
      (m : ℕ) × (n ≡ suc m) × (c ≤ m) × (n ≤ c + l) × (drop m ts ≡ p ∷ drop n ts) × (t p ≡ true) × (keep t (drop c ts) ≡ p ∷ keep t (drop n ts))
  Finds l c (out n) = (n ≡ length ts) × (n ≤ c + l) × (keep t (drop c ts) ≡ [])
  Finds l c over = (c + l < length ts) × (keep t (drop c ts) ≡ keep t (drop (c + l) ts))

  pub finds : (l c : ℕ) (rest : List Path) → drop c ts ≡ rest → c ≤ length ts → Finds l c (search t l c rest)
  unfolding Finds search
  finds l c [] d h = (drop_end c ts h d, omega arith, ap (keep t) d ∙ keep-nil t)
  finds zero c (p ∷ rest) d h = let z = drop_more c ts p rest d in let s : c + 0 ≡ c = omega arith in (omega arith, rw s)
  finds (suc l) c (p ∷ rest) d h = by (t p) refl (finds l (suc c) rest (drop-tail c ts p rest d) (drop_more c ts p rest d))
    where
      tail : drop (suc c) ts ≡ rest
      tail = drop-tail c ts p rest d

      skip : t p ≡ false → keep t (drop c ts) ≡ keep t (drop (suc c) ts)
      skip e = ap (keep t) d ∙ keep_no t p rest e ∙ sym (ap (keep t) tail)

      take : t p ≡ true → keep t (drop c ts) ≡ p ∷ keep t (drop (suc c) ts)
      take e = ap (keep t) d ∙ keep-yes t p rest e ∙ sym (ap {B = List Path} (λ (r : List Path). p ∷ keep t r) tail)

      carry : (F : Found) → t p ≡ false → Finds l (suc c) F → Finds (suc l) c F
      carry (hit n q) e (m, a, v, z, b, y, k) = (m, a, omega arith, omega arith, b, y, skip e ∙ k)
      carry (out n) e (a, z, k) = (a, omega arith, skip e ∙ k)
      carry over e (m, k) = let s : c + suc l ≡ suc c + l = omega arith in (omega arith, rw s (skip e ∙ k))

      by : (b : Bool) → t p ≡ b → Finds l (suc c) (search t l (suc c) rest) → Finds (suc l) c (search t (suc l) c (p ∷ rest))
      by true e ih = rw (e, search) (c, refl, omega arith, omega arith, d ∙ sym (ap {B = List Path} (λ (r : List Path). p ∷ r) tail), e, take e)
      by false e ih = rw (e, search) (carry (search t l (suc c) rest) e ih)

-- the ways through a turn
pub search-hit : (t : Path → Bool) (l c : ℕ) (p : Path) (ps : List Path) → t p ≡ true → search t (suc l) c (p ∷ ps) ≡ hit (suc c) p
unfolding search
search-hit t l c p ps e = rw (e, search)

pub search_on : (t : Path → Bool) (l c : ℕ) (p : Path) (ps : List Path) → t p ≡ false → search t (suc l) c (p ∷ ps) ≡ search t l (suc c) ps
unfolding search
search_on t l c p ps e = rw (e, search)
