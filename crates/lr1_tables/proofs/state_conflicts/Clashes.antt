-- The conflicts by token sets are those of specs/canonical/States of lr1_states.
use mathlib.Core.Path.{◌≡◌, refl, sym, ap, ◌∙◌}
use mathlib.Core.Bool.{Bool, true, false, ◌&&◌}
use mathlib.Core.List.{List, [], ◌∷◌}
use Prim.Native.Nat.{ℕ, zero, suc, ◌+◌, ◌-◌, ◌≤◌, ◌<◌}
use native.Mathlib.Omega.{arith}
use lib.Dec.{ltb}
use lib.ListN.{length}
use borrow.Author.Tests.{ltb-true, ltb-false, lt-ltb, le-ltb}
use Rattle.lr1_base.specs.repr.Lists.{up_from, below, keep}
use Rattle.lr1_base.specs.repr.Meaning.{Table}
use Rattle.lr1_base.proofs.repr.Lists.{cases, keep-yes, keep_no}
use Rattle.lr1_base.specs.lookahead.Tokens.{has, meet, members}
use Rattle.lr1_base.proofs.lookahead.Laws.{has_meet}
use Rattle.lr1_states.specs.canonical.States.{reduces, shifts, clashes_of}
use Rattle.lr1_tables.specs.state_conflicts.Clashes.{shift_clash, reduce_clash, Shifted, clashes_with}

keep-none : (f : ℕ → Bool) (x n : ℕ) → ((t : ℕ) → x ≤ t → f t ≡ false) → keep f (up_from x n) ≡ []
unfolding up_from keep
keep-none f x zero g = refl
keep-none f x (suc n) g = keep_no f x (up_from (suc x) n) (g x (omega arith)) ∙ keep-none f (suc x) n (λ t h. g t (omega arith))

-- two tests that agree below n, one of them false from there on
keep_agree : (f g : ℕ → Bool) (x n d : ℕ) → ((t : ℕ) → t < x + n → f t ≡ g t) → ((t : ℕ) → x + n ≤ t → f t ≡ false) → keep f (up_from x (n + d)) ≡ keep g (up_from x n)
unfolding up_from keep
keep_agree f g x zero d a b = let q : zero + d ≡ d = omega arith in rw q (keep-none f x d (λ t h. b t (omega arith)))
keep_agree f g x (suc n) d a b =
    let more = keep_agree f g (suc x) n d (λ t h. a t (omega arith)) (λ t h. b t (omega arith)) in
    let q : suc n + d ≡ suc (n + d) = omega arith in
    let here = a x (omega arith) in
    rw q (cases (g x)
    (λ t. keep-yes f x (up_from (suc x) (n + d)) (here ∙ t) ∙ ap (λ (l : List ℕ). x ∷ l) more ∙ sym (keep-yes g x (up_from (suc x) n) t))
    (λ t. keep_no f x (up_from (suc x) (n + d)) (here ∙ t) ∙ more ∙ sym (keep_no g x (up_from (suc x) n) t)))

-- the numbers above p
keep_all : (p x n : ℕ) → p < x → keep (ltb p) (up_from x n) ≡ up_from x n
unfolding up_from keep
keep_all p x zero h = refl
keep_all p x (suc n) h = keep-yes (ltb p) x (up_from (suc x) n) (lt-ltb p x h) ∙ ap (λ (l : List ℕ). x ∷ l) (keep_all p (suc x) n (omega arith))

keep-above : (p x n : ℕ) → x ≤ suc p → keep (ltb p) (up_from x n) ≡ up_from (suc p) (x + n - suc p)
unfolding up_from keep
keep-above p x zero h = let z : x + 0 - suc p ≡ 0 = omega arith in rw z refl
keep-above p x (suc n) h =
    cases (ltb p x)
    (λ t.
    let u = ltb-true p x t in
    let q : x ≡ suc p = omega arith in
    let z : x + suc n - suc p ≡ suc n = omega arith in
    keep_all p x (suc n) u ∙ rw (q) (ap (up_from (suc p)) (sym (rw q at z))))
    (λ t.
    let u = ltb-false p x t in
    let z : suc x + n - suc p ≡ x + suc n - suc p = omega arith in
    keep_no (ltb p) x (up_from (suc x) n) t ∙ keep-above p (suc x) n (omega arith) ∙ ap (up_from (suc p)) z)

and-true : (b c : Bool) → b ≡ true → (b && c) ≡ c
and-true b c t = rw t refl

and-false : (a b c : Bool) → b ≡ false → (a && (b && c)) ≡ false
and-false true b c t = rw t refl
and-false false b c t = refl

pub clashes_with_lem : (T : Table) (S : List ℕ) (sh : ℕ) → Shifted T S sh → T.terminals ≤ 63 → (p : ℕ) → clashes_with T S sh p ≡ clashes_of T S p
unfolding clashes_with clashes_of members below shift_clash reduce_clash
clashes_with_lem T S sh w few p =
    let r : ℕ = reduces T S p in
    let e : ℕ = T.terminals in
    let z : T.terminals + (64 - T.terminals) ≡ 64 = omega arith in
    let is : (t : ℕ) → has (meet (reduces T S p) sh) t ≡ (has (reduces T S p) t && (ltb t T.terminals && shifts T S t)) = λ t. has_meet (reduces T S p) sh t ∙ ap (λ (b : Bool). has (reduces T S p) t && b) (w t) in
    let low : keep (has (meet (reduces T S p) sh)) (up_from 0 (T.terminals + (64 - T.terminals))) ≡ keep (λ t. has (reduces T S p) t && shifts T S t) (up_from 0 T.terminals) =
    keep_agree (has (meet (reduces T S p) sh)) (λ t. has (reduces T S p) t && shifts T S t) 0 T.terminals (64 - T.terminals)
    (λ t h. is t ∙ ap (λ (b : Bool). has (reduces T S p) t && b) (and-true (ltb t T.terminals) (shifts T S t) (lt-ltb t T.terminals (omega arith))))
    (λ t h. is t ∙ and-false (has (reduces T S p) t) (ltb t T.terminals) (shifts T S t) (le-ltb t T.terminals (omega arith))) in
    let high : keep (ltb p) (up_from 0 (length T.productions)) ≡ up_from (suc p) (length T.productions - suc p) = keep-above p 0 (length T.productions) (omega arith) ∙ ap (λ (n : ℕ). up_from (suc p) (n - suc p)) (omega arith) in
    rw (high, ← low, z) refl
