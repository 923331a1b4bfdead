-- What a test keeps of the trials: each once, in order, exactly the trials that pass.
use Rattle.std.proofs.Common.{◌≡◌, Bool, true, false, ◌⊎◌, ◌↔◌, List, [], ◌∷◌, refl, ap, ◌∙◌, inl, inr}
use mathlib.Core.List.Memᴰ
use mathlib.Core.List.{Memᴰ}
use Rattle.lr1_base.specs.repr.Lists.{keep}
use Rattle.lr1_base.proofs.repr.Lists.{keep-nil, keep-yes, keep_no, clash}
use Rattle.trace_graph.specs.Graph.{Node}
use Rattle.enumerator.specs.trials.Trials.{Path, Ends, Before, AllPaths, Increasing, IsTrial, trials, Small}
use Rattle.enumerator.proofs.trials.Order.{increasing}
use Rattle.enumerator.proofs.trials.Exact.{sound, complete}

all_keep : (P : Path → Type 0) (t : Path → Bool) (ps : List Path) → AllPaths P ps → AllPaths P (keep t ps)
all_keep P t [] a = rw (keep-nil t) tt
all_keep P t (p ∷ ps) a = by (all_keep P t ps a.1) (t p) refl
  where
    by : AllPaths P (keep t ps) → (b : Bool) → t p ≡ b → AllPaths P (keep t (p ∷ ps))
    by ih true e = rw (keep-yes t p ps e) (a.0, ih)
    by ih false e = rw (keep_no t p ps e) ih

keep_increasing : (t : Path → Bool) (ps : List Path) → Increasing ps → Increasing (keep t ps)
keep_increasing t [] i = rw (keep-nil t) tt
keep_increasing t (p ∷ ps) i = by (keep_increasing t ps i.1) (t p) refl
  where
    by : Increasing (keep t ps) → (b : Bool) → t p ≡ b → Increasing (keep t (p ∷ ps))
    by ih true e = rw (keep-yes t p ps e) (all_keep (Before p) t ps i.0, ih)
    by ih false e = rw (keep_no t p ps e) ih

keep_in : (t : Path → Bool) (ps : List Path) (p : Path) → Memᴰ p ps → t p ≡ true → Memᴰ p (keep t ps)
keep_in t [] p m e = absurd (Memᴰ.not-nil m)
keep_in t (q ∷ ps) p m e = by (λ m'. keep_in t ps p m' e) (t q) refl (Memᴰ.cases_cons m)
  where
    by : (Memᴰ p ps → Memᴰ p (keep t ps)) → (b : Bool) → t q ≡ b → (p ≡ q) ⊎ Memᴰ p ps → Memᴰ p (keep t (q ∷ ps))
    by ih true d (inl r) = rw (keep-yes t q ps d) (Memᴰ.head r)
    by ih true d (inr m') = rw (keep-yes t q ps d) (Memᴰ.tail (ih m'))
    by ih false d (inl r) = clash (t p) e (ap t r ∙ d)
    by ih false d (inr m') = rw (keep_no t q ps d) (ih m')

keep_out : (t : Path → Bool) (ps : List Path) (p : Path) → Memᴰ p (keep t ps) → Memᴰ p ps × (t p ≡ true)
keep_out t [] p m = absurd (Memᴰ.not-nil (rw (keep-nil t) at m))
keep_out t (q ∷ ps) p m = by (keep_out t ps p) (t q) refl
  where
    yes_case : (Memᴰ p (keep t ps) → Memᴰ p ps × (t p ≡ true)) → t q ≡ true → (p ≡ q) ⊎ Memᴰ p (keep t ps) → Memᴰ p (q ∷ ps) × (t p ≡ true)
    yes_case ih d (inl r) = (Memᴰ.head r, ap t r ∙ d)
    yes_case ih d (inr m') = (Memᴰ.tail (ih m').0, (ih m').1)

    by : (Memᴰ p (keep t ps) → Memᴰ p ps × (t p ≡ true)) → (b : Bool) → t q ≡ b → Memᴰ p (q ∷ ps) × (t p ≡ true)
    by ih true d = yes_case ih d (Memᴰ.cases_cons (rw (keep-yes t q ps d) at m))
    by ih false d = let r = ih (rw (keep_no t q ps d) at m) in (Memᴰ.tail r.0, r.1)

module _ (G : Ends) (start : Node) where
  pub examples_ordered : (t : Path → Bool) → Increasing (keep t (trials G start))
  examples_ordered t = keep_increasing t (trials G start) (increasing G start)

  pub examples_exact : Small G → (t : Path → Bool) (p : Path)
      → Memᴰ p (keep t (trials G start)) ↔ (IsTrial G start p × (t p ≡ true))
  examples_exact small t p = (
    λ m. let r = keep_out t (trials G start) p m in (sound G start p r.0, r.1),
    λ h. keep_in t (trials G start) p (complete G small start p h.0) h.1,
  )
