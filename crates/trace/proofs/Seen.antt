-- Laws of the measure of tracing (specs/Seen): a pair that is entered for the first time takes one from it; pairs in range have numbers of their own, below 4,096.
use Rattle.std.proofs.Common.{◌≡◌, ℕ, zero, suc, ◌<◌, ◌≤◌, true, false, eqb, List, [], ◌∷◌, ◌++◌, sym, refl, ap, ◌∙◌, arith, eq-eqb, ne_eqb, eqb-true}
use borrow.Author.Tests.{eqb-false}
use Rattle.lr1_base.specs.repr.Lists.{mem}
use Rattle.lr1_base.proofs.repr.Lists.{cases, mem-yes, mem_no, mem-cons_there}
use Rattle.trace.specs.Traced.{pair}
use Rattle.trace.specs.Seen.{free, unentered}

-- the number at the end of the range
pub free_in : (k : ℕ) (seen : List ℕ) → mem k seen ≡ true → free (suc k) seen ≡ free k seen
unfolding free
free_in k seen e = rw (e, free)

pub free-out : (k : ℕ) (seen : List ℕ) → mem k seen ≡ false → free (suc k) seen ≡ suc (free k seen)
unfolding free
free-out k seen e = rw (e, free)

free-none : (seen : List ℕ) → free 0 seen ≡ 0
unfolding free
free-none seen = refl

pub free_le : (k : ℕ) (seen : List ℕ) → free k seen ≤ k
free_le zero seen = rw (free-none seen) (omega arith)
free_le (suc k) seen = let r = free_le k seen in cases (mem k seen) (λ e. rw (free_in k seen e) (omega arith)) (λ e. rw (free-out k seen e) (omega arith))

-- a list that agrees on the range has as many
pub free_agree : (k : ℕ) (us vs : List ℕ) → ((j : ℕ) → j < k → mem j us ≡ mem j vs) → free k us ≡ free k vs
free_agree zero us vs h = free-none us ∙ sym (free-none vs)
free_agree (suc k) us vs h =
    let r = free_agree k us vs (λ j l. h j (omega arith)) in
    let q = h k (omega arith) in
    cases (mem k vs)
    (λ e. free_in k us (q ∙ e) ∙ r ∙ sym (free_in k vs e))
    (λ e. free-out k us (q ∙ e) ∙ ap suc r ∙ sym (free-out k vs e))

-- a number more in the list: none more outside, and one less where it is new and in the range
free-cons_le : (n : ℕ) (seen : List ℕ) (k : ℕ) → free k (n ∷ seen) ≤ free k seen
free-cons_le n seen zero = rw (free-none (n ∷ seen)) (omega arith)
free-cons_le n seen (suc k) =
    let r = free-cons_le n seen k in
    cases (mem k seen)
    (λ e. rw (free_in k seen e, free_in k (n ∷ seen) (mem-cons_there k n seen e)) r)
    (λ e. rw (free-out k seen e) (cases (mem k (n ∷ seen))
    (λ d. rw (free_in k (n ∷ seen) d) (omega arith))
    (λ d. rw (free-out k (n ∷ seen) d) (omega arith))))

apart : (k n : ℕ) (seen : List ℕ) → (k ≡ n → ⊥) → mem k (n ∷ seen) ≡ mem k seen
apart k n seen ne = mem_no k n seen (ne_eqb k n ne)

pub free-cons : (n : ℕ) (seen : List ℕ) → mem n seen ≡ false → (k : ℕ) → n < k → suc (free k (n ∷ seen)) ≡ free k seen
free-cons n seen m zero h = absurd (omega arith)
free-cons n seen m (suc k) h =
    cases (eqb k n)
    (λ e.
    let q = eqb-true k n e in
    let same = free_agree k (n ∷ seen) seen (λ j l. apart j n seen (λ w. omega arith)) in
    free_in_here q same)
    (λ e. let ne = eqb-false k n e in other ne (free-cons n seen m k (omega arith)))
  where
    free_in_here : k ≡ n → free k (n ∷ seen) ≡ free k seen → suc (free (suc k) (n ∷ seen)) ≡ free (suc k) seen
    free_in_here q same =
        let yes-in : mem k (n ∷ seen) ≡ true = mem-yes k n seen (eq-eqb k n q) in
        let out : mem k seen ≡ false = ap (λ (j : ℕ). mem j seen) q ∙ m in
        rw (free_in k (n ∷ seen) yes-in, free-out k seen out, same)

    other : (k ≡ n → ⊥) → suc (free k (n ∷ seen)) ≡ free k seen → suc (free (suc k) (n ∷ seen)) ≡ free (suc k) seen
    other ne r =
        let q = apart k n seen ne in
        cases (mem k seen)
        (λ e. rw (free_in k (n ∷ seen) (q ∙ e), free_in k seen e) r)
        (λ e. rw (free-out k (n ∷ seen) (q ∙ e), free-out k seen e) (ap suc r))

-- the measure

pub unentered_le : (seen : List ℕ) → unentered seen ≤ 4096
unfolding unentered
unentered_le seen = free_le 4096 seen

-- an entry never raises it, and a first entry lowers it by one
pub unentered-cons_le : (k : ℕ) (seen : List ℕ) → unentered (k ∷ seen) ≤ unentered seen
unfolding unentered
unentered-cons_le k seen = free-cons_le k seen 4096

pub unentered-cons : (k : ℕ) (seen : List ℕ) → k < 4096 → mem k seen ≡ false → suc (unentered (k ∷ seen)) ≡ unentered seen
unfolding unentered
unentered-cons k seen h m = free-cons k seen m 4096 h

pub unentered-append : (us seen : List ℕ) → unentered (us ++ seen) ≤ unentered seen
unentered-append [] seen = omega arith
unentered-append (u ∷ us) seen = let a = unentered-cons_le u (us ++ seen) in let b = unentered-append us seen in omega arith

-- a pair in range has a number below 4,096, and no other pair has it
pub pair_lt : (s n : ℕ) → s < 128 → n < 32 → pair s n < 4096
unfolding pair
pair_lt s n hs hn = omega arith
