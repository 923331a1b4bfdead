-- What the machine steps to is a trial again, so that its words are such as the next step asks.
use Rattle.std.proofs.Common.{◌≡◌, ℕ, Bool, true, false, List, [], ◌∷◌, map, reverse, refl, ap, ◌∙◌, subst}
use mathlib.Core.List.{reverse-reverse, Memᴰ}
use mathlib.Core.Option.{Option, some}
use Rattle.lr1_base.specs.words.Same.{same_words}
use Rattle.trace_graph.specs.Graph.{Node}
use Rattle.enumerator.specs.trials.Trials.{Path, Ends, trials, Small}
use Rattle.enumerator.specs.trials.Words.{after}
use Rattle.enumerator.specs.trials.Machine.{next, Run}
use Rattle.enumerator.proofs.trials.Run.{next_runs}
use Rattle.enumerator.proofs.trials.After.{after_here, after-later, next-after}

pub after_in : (p q : Path) (ts : List Path) → Memᴰ q (after p ts) → Memᴰ q ts
unfolding after
after_in p q [] m = m
after_in p q (x ∷ xs) m = by (after_in p q xs) (same_words p x) refl
  where
    by : (Memᴰ q (after p xs) → Memᴰ q xs) → (b : Bool) → same_words p x ≡ b → Memᴰ q (x ∷ xs)
    by ih true e = Memᴰ.tail (subst (Memᴰ q) (after_here p x xs e) m)
    by ih false e = Memᴰ.tail (ih (subst (Memᴰ q) (after-later p x xs e) m))

module _ (G : Ends) (start : Node) where
  run-head : (s : List ℕ) (rest : List Path) → Run G start (some s) (map reverse rest) → Memᴰ (reverse s) rest
  run-head s [] r = absurd r
  run-head s (x ∷ xs) r = Memᴰ.head (ap reverse r.0 ∙ reverse-reverse x)

  -- the first stack is a trial's, and what follows a trial's is one's
  pub first_trial : Small G → (s : List ℕ) → next G start [] ≡ some s → Memᴰ (reverse s) (trials G start)
  first_trial small s e = run-head s (trials G start) (subst (λ (o : Option (List ℕ)). Run G start o (map reverse (trials G start))) e (next_runs G start small))

  pub next_trial : Small G → (p : Path) (s : List ℕ) → Memᴰ p (trials G start) → next G start (reverse p) ≡ some s → Memᴰ (reverse s) (trials G start)
  next_trial small p s m e =
      after_in p (reverse s) (trials G start)
      (run-head s (after p (trials G start)) (subst (λ (o : Option (List ℕ)). Run G start o (map reverse (after p (trials G start)))) e (next-after G start small p m)))
