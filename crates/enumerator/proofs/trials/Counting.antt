-- How often each nonterminal stands on a walk, kept in a list (specs/trials/Counts): one more, one fewer, whether it is there.
use Rattle.std.proofs.Common.{◌≡◌, ℕ, suc, ◌+◌, ◌-◌, ◌<◌, ◌≤◌, true, false, eqb, List, [], ◌∷◌, length, get_or, set, replicate, sym, refl, ap, ◌∙◌, arith, length-set, get_or-set_other, get_or-set_same, eq-eqb, ne_eqb, eqb-true}
use lib.ListN.{length-replicate, get_or-replicate}
use borrow.Author.Tests.{eqb-false}
use Rattle.lr1_base.specs.repr.Sizes.{reduction_limit}
use Rattle.lr1_base.specs.repr.Lists.{mem, occurrences}
use Rattle.lr1_base.proofs.repr.Lists.{cases, occurrences-nil, occurrences-yes, occurrences_no, occurrences-none, occurrences-some}
use Rattle.enumerator.specs.trials.Counts.{Counted}

-- a list's counts

few_times : (n : ℕ) (us : List ℕ) → occurrences n us ≤ length us
few_times n [] = let o = occurrences-nil n in omega arith
few_times n (x ∷ us) =
    let ih = few_times n us in
    cases (eqb n x) (λ e. let o = occurrences-yes n x us e in omega arith) (λ e. let o = occurrences_no n x us e in omega arith)

times_here : (n : ℕ) (us : List ℕ) → occurrences n (n ∷ us) ≡ suc (occurrences n us)
times_here n us = occurrences-yes n n us (eq-eqb n n refl)

times_there : (k n : ℕ) (us : List ℕ) → (k ≡ n → ⊥) → occurrences k (n ∷ us) ≡ occurrences k us
times_there k n us ne = occurrences_no k n us (ne_eqb k n ne)

pub counted_none : Counted [] (replicate 32 0)
counted_none = record { size = length-replicate {A = ℕ} 32 0; times = λ n h. get_or-replicate 32 n 0 0 h ∙ sym (occurrences-nil n) }

-- lists that differ in how often n stands in them
counted-set : (us vs ms : List ℕ) (n x : ℕ) → Counted us ms → n < 32 → x ≡ occurrences n vs → ((k : ℕ) → (k ≡ n → ⊥) → occurrences k us ≡ occurrences k vs) → Counted vs (set ms n x)
counted-set us vs ms n x C h e other = record {
  size = length-set ms n x ∙ C.size;
  times = λ k hk. cases (eqb k n)
      (λ q.
      let z = eqb-true k n q in
      ap (λ (j : ℕ). get_or (set ms n x) j 0) z ∙ get_or-set_same ms n x 0 (omega (arith, C.size)) ∙ e ∙ ap (λ (j : ℕ). occurrences j vs) (sym z))
      (λ q. let ne = eqb-false k n q in get_or-set_other ms n k x 0 ne ∙ C.times k hk ∙ other k ne);
}

module _ {ms : List ℕ} {n x : ℕ} (h : n < 32) (ex : x ≡ get_or ms n 0) where
  pub counted_small : {us : List ℕ} → Counted us ms → length us ≤ reduction_limit → x < 255
  counted_small {us} C l = omega (arith, C.times n h, few_times n us)

  pub counted-more : {us : List ℕ} → Counted us ms → Counted (n ∷ us) (set ms n (x + 1))
  counted-more {us} C = counted-set us (n ∷ us) ms n (x + 1) C h (let o = times_here n us in omega (arith, C.times n h)) (λ k ne. sym (times_there k n us ne))

  pub counted-some : {us : List ℕ} → Counted (n ∷ us) ms → 0 < x
  counted-some {us} C = omega (arith, C.times n h, times_here n us)

  pub counted_fewer : {us : List ℕ} → Counted (n ∷ us) ms → Counted us (set ms n (x - 1))
  counted_fewer {us} C = counted-set (n ∷ us) us ms n (x - 1) C h (let o = times_here n us in omega (arith, C.times n h)) (λ k ne. times_there k n us ne)

  -- on the walk or not
  pub counted_in : {us : List ℕ} → Counted us ms → (x ≡ 0 → ⊥) → mem n us ≡ true
  counted_in {us} C ne = cases (mem n us) (λ e. e) (λ e. absurd (ne (ex ∙ C.times n h ∙ occurrences-none n us e)))

  pub counted-out : {us : List ℕ} → Counted us ms → x ≡ 0 → mem n us ≡ false
  counted-out {us} C z = cases (mem n us) (λ e. let o = occurrences-some n us e in absurd (omega (arith, C.times n h))) (λ e. e)
