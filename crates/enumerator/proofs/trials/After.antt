-- The trials after one of them: what the machine goes on to, and the rest past its number (specs/trials/Words, specs/trials/Machine).
use Rattle.std.proofs.Common.{◌≡◌, ℕ, zero, suc, ◌≤◌, Bool, true, false, ◌⊎◌, List, [], ◌∷◌, map, reverse, length, drop, sym, refl, ap, ◌∙◌, subst, inl, inr, arith}
use mathlib.Core.List.Memᴰ
use mathlib.Core.List.{Memᴰ}
use mathlib.Core.Option.{Option, none, some}
use Rattle.lr1_base.proofs.words.Same.{same_words_eq, eq_same_words, ne_same_words}
use Rattle.lr1_base.specs.words.Same.{same_words}
use Rattle.trace_graph.specs.Graph.{Node}
use Rattle.enumerator.specs.trials.Trials.{Path, Ends, trials, Distinct, Small}
use Rattle.enumerator.specs.trials.Words.{after}
use Rattle.enumerator.specs.trials.Machine.{next, Run}
use Rattle.enumerator.proofs.trials.Paths.{all_in}
use Rattle.enumerator.proofs.trials.Order.{each_once}
use Rattle.enumerator.proofs.trials.Run.{next_runs}

pub after_here : (p q : Path) (qs : List Path) → same_words p q ≡ true → after p (q ∷ qs) ≡ qs
unfolding after
after_here p q qs e = rw (e, after)

pub after-later : (p q : Path) (qs : List Path) → same_words p q ≡ false → after p (q ∷ qs) ≡ after p qs
unfolding after
after-later p q qs e = rw (e, after)

-- number m + 1 of the list is p
pub drop-tail : (m : ℕ) (ts : List Path) (p : Path) (r : List Path) → drop m ts ≡ p ∷ r → drop (suc m) ts ≡ r
drop-tail zero [] p r e = cc
drop-tail zero (x ∷ xs) p r e = cc
drop-tail (suc m) [] p r e = cc
drop-tail (suc m) (x ∷ xs) p r e = drop-tail m xs p r e

pub drop_more : (m : ℕ) (ts : List Path) (p : Path) (r : List Path) → drop m ts ≡ p ∷ r → suc m ≤ length ts
drop_more zero [] p r e = let z : ◌≡◌ {A = ℕ} 0 1 = cc in omega arith
drop_more zero (x ∷ xs) p r e = omega arith
drop_more (suc m) [] p r e = let z : ◌≡◌ {A = ℕ} 0 1 = cc in omega arith
drop_more (suc m) (x ∷ xs) p r e = let z : suc m ≤ length xs = drop_more m xs p r e in omega arith

pub drop_in : (m : ℕ) (ts : List Path) (p : Path) (r : List Path) → drop m ts ≡ p ∷ r → Memᴰ p ts
drop_in zero ts p r e = rw e (Memᴰ.head refl)
drop_in (suc m) [] p r e = let z : ◌≡◌ {A = ℕ} 0 1 = cc in absurd (omega arith)
drop_in (suc m) (x ∷ xs) p r e = Memᴰ.tail (drop_in m xs p r e)

-- the trials after the one with number m + 1 are those past m + 1
pub after-number : (ts : List Path) → Distinct ts → (m : ℕ) (p : Path) (r : List Path) → drop m ts ≡ p ∷ r → after p ts ≡ drop (suc m) ts
after-number [] d zero p r e = let z : ◌≡◌ {A = ℕ} 0 1 = cc in absurd (omega arith)
after-number [] d (suc m) p r e = let z : ◌≡◌ {A = ℕ} 0 1 = cc in absurd (omega arith)
after-number (q ∷ qs) d zero p r e = let z : p ≡ q = cc in after_here p q qs (eq_same_words p q z)
after-number (q ∷ qs) d (suc m) p r e =
    after-later p q qs (ne_same_words p q (λ z. all_in (λ x. q ≡ x → ⊥) qs p d.0 (drop_in m qs p r e) (sym z))) ∙ after-number qs d.1 m p r e

module _ (G : Ends) (start : Node) where
  -- a run goes on from any of its trials
  run-after : (ts : List Path) (o : Option (List ℕ)) → Run G start o (map reverse ts) → (p : Path) → Memᴰ p ts
      → Run G start (next G start (reverse p)) (map reverse (after p ts))
  run-after [] o r p m = absurd (Memᴰ.not-nil m)
  run-after (q ∷ qs) none r p m = absurd r
  run-after (q ∷ qs) (some s) r p m =
      by (run-after qs (next G start s) r.1 p) (same_words p q) refl (Memᴰ.cases_cons m)
    where
      by : (Memᴰ p qs → Run G start (next G start (reverse p)) (map reverse (after p qs))) → (b : Bool) → same_words p q ≡ b → (p ≡ q) ⊎ Memᴰ p qs
          → Run G start (next G start (reverse p)) (map reverse (after p (q ∷ qs)))
      by ih true e w =
          rw (after_here p q qs e)
          (subst (λ (x : List ℕ). Run G start (next G start x) (map reverse qs)) (r.0 ∙ ap (λ (x : Path). reverse x) (sym (same_words_eq p q e))) r.1)
      by ih false e (inl z) = absurd (let y : ◌≡◌ {A = Bool} true false = sym (eq_same_words p q z) ∙ e in let x : ◌≡◌ {A = ℕ} 0 1 = cc in omega arith)
      by ih false e (inr m') = rw (after-later p q qs e) (ih m')

  -- from a trial's stack the machine gives the trials after it
  pub next-after : Small G → (p : Path) → Memᴰ p (trials G start) → Run G start (next G start (reverse p)) (map reverse (after p (trials G start)))
  next-after small p m = run-after (trials G start) (next G start []) (next_runs G start small) p m

  pub after_trial : (m : ℕ) (p : Path) (r : List Path) → drop m (trials G start) ≡ p ∷ r → after p (trials G start) ≡ drop (suc m) (trials G start)
  after_trial m p r e = after-number (trials G start) (each_once G start) m p r e
