-- The order of trials (docs/RULES.md, "Listing") is strict and total, so that the trials are the only list of all trials in that order.
use Rattle.std.proofs.Common.{◌≡◌, ◌<◌, ◌⊎◌, List, [], ◌∷◌, sym, refl, ◌∙◌, inl, inr, arith}
use native.Mathlib.Decide.{dec_lt}
use mathlib.Core.List.Memᴰ
use mathlib.Core.List.{Memᴰ}
use Rattle.trace_graph.specs.Graph.{Node}
use Rattle.enumerator.specs.trials.Trials.{Path, Ends, Before, shorter, later, alike, Increasing, trials, Small, Enumerates}
use Rattle.enumerator.proofs.trials.Paths.{all_in}
use Rattle.enumerator.proofs.trials.Order.{increasing, before-apart}
use Rattle.enumerator.proofs.trials.Exact.{sound, complete}

-- asymmetric
pub before_asym : {p q : Path} → Before p q → Before q p → ⊥
before_asym (later h) (later k) = omega arith
before_asym (later h) (alike r b) = omega arith
before_asym (alike r b) (later k) = omega arith
before_asym (alike r b) (alike s d) = before_asym b d
before_asym (shorter {f = f} {q = q}) x4 = elim x4 [ ]

-- and total on distinct paths
pub before_total : (p q : Path) → (p ≡ q → ⊥) → Before p q ⊎ Before q p
before_total [] [] n = absurd (n refl)
before_total [] (f ∷ q) n = inl shorter
before_total (e ∷ p) [] n = inr shorter
before_total (e ∷ p) (f ∷ q) n = by (before_total p q) (dec_lt e f) (dec_lt f e)
  where
    on : e ≡ f → Before p q ⊎ Before q p → Before (e ∷ p) (f ∷ q) ⊎ Before (f ∷ q) (e ∷ p)
    on s (inl b) = inl (alike s b)
    on s (inr b) = inr (alike (sym s) b)

    by : ((p ≡ q → ⊥) → Before p q ⊎ Before q p) → Dec (e < f) → Dec (f < e) → Before (e ∷ p) (f ∷ q) ⊎ Before (f ∷ q) (e ∷ p)
    by ih (yes h) d = inr (later h)
    by ih (no h) (yes k) = inl (later k)
    by ih (no h) (no k) = let s : e ≡ f = omega arith in on s (ih (λ z. n (cc)))

-- two increasing lists with the same members are one
same_increasing : (ps qs : List Path) → Increasing ps → Increasing qs → ((p : Path) → Memᴰ p ps → Memᴰ p qs) → ((p : Path) → Memᴰ p qs → Memᴰ p ps) → ps ≡ qs
same_increasing [] [] i j to from = refl
same_increasing [] (q ∷ qs) i j to from = absurd (Memᴰ.not-nil (from q (Memᴰ.head refl)))
same_increasing (p ∷ ps) [] i j to from = absurd (Memᴰ.not-nil (to p (Memᴰ.head refl)))
same_increasing (p ∷ ps) (q ∷ qs) i j to from =
    let h = heads (Memᴰ.cases_cons (to p (Memᴰ.head refl))) (Memᴰ.cases_cons (from q (Memᴰ.head refl))) in
    let r = same_increasing ps qs i.1 j.1
    (λ x m. past q qs x (λ e. before-apart (all_in (Before p) ps x i.0 m) (h ∙ sym e)) (Memᴰ.cases_cons (to x (Memᴰ.tail m))))
    (λ x m. past p ps x (λ e. before-apart (all_in (Before q) qs x j.0 m) (sym h ∙ sym e)) (Memᴰ.cases_cons (from x (Memᴰ.tail m)))) in
    cc
  where
    heads : (p ≡ q) ⊎ Memᴰ p qs → (q ≡ p) ⊎ Memᴰ q ps → p ≡ q
    heads (inl e) b = e
    heads (inr m) (inl e) = sym e
    heads (inr m) (inr n) = absurd (before_asym (all_in (Before q) qs p j.0 m) (all_in (Before p) ps q i.0 n))

    past : (y : Path) (ys : List Path) (x : Path) → (x ≡ y → ⊥) → (x ≡ y) ⊎ Memᴰ x ys → Memᴰ x ys
    past y ys x n (inl e) = absurd (n e)
    past y ys x n (inr m) = m

module _ (G : Ends) (start : Node) (small : Small G) where
  pub trials_are : Enumerates G start (trials G start)
  trials_are = record { order = increasing G start; members = λ p. (sound G start p, complete G small start p) }

  pub trials-only : (ps : List Path) → Enumerates G start ps → ps ≡ trials G start
  trials-only ps E =
      same_increasing ps (trials G start) E.order (increasing G start)
      (λ p m. complete G small start p ((E.members p).0 m)) (λ p m. (E.members p).1 (sound G start p m))
