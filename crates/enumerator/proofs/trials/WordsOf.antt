-- The words of a trial (specs/trials/Words): 32,000, and different for different trials; what words that hold a trial are.
use Rattle.std.proofs.Common.{◌≡◌, ℕ, ◌-◌, ◌≤◌, true, ◌↔◌, List, [], ◌++◌, length, take, drop, replicate, sym, refl, ap, ◌∙◌, append_assoc, append-nil, arith, length-append, take-append-drop, take_at}
use mathlib.Core.List.{Memᴰ}
use lib.ListN.{length-replicate}
use Rattle.lr1_base.specs.repr.Sizes.{scratch_words}
use Rattle.lr1_base.proofs.words.Same.{same_words_eq, eq_same_words}
use Rattle.lr1_base.specs.words.Same.{same_words}
use Rattle.lr1_base.specs.repr.Lists.{some?}
use Rattle.trace_graph.specs.Graph.{Node}
use Rattle.enumerator.specs.trials.Trials.{Path, Ends, IsTrial, trials, is_example_in, Small}
use Rattle.enumerator.specs.trials.Words.{words_of, path_in, has_trial, path_room}
use Rattle.lr1_base.proofs.laws.Bools.{and_left, and_right}
use Rattle.enumerator.proofs.trials.Short.{short_trial}
use Rattle.enumerator.proofs.trials.Exact.{sound, complete}
use Rattle.enumerator.proofs.trials.SameWords.{found_of_member, member_of_found}

pub words_long : (p : Path) → length p ≤ path_room → length (words_of p) ≡ scratch_words
unfolding words_of
words_long p h = simp (length-append, length-replicate) (omega arith)

-- the words give the path back, whatever follows them
pub path_in-words : (p : Path) (rest : List ℕ) → path_in (words_of p ++ rest) ≡ p
unfolding words_of path_in
path_in-words p rest = ap (take (length p)) (append_assoc p (replicate (path_room - length p) 0) rest) ∙ take_at p (replicate (path_room - length p) 0 ++ rest) (length p) refl

pub path_in-front : (p : Path) → path_in (words_of p) ≡ p
path_in-front p = ap path_in (sym (append-nil (words_of p))) ∙ path_in-words p []

-- different paths have different words
pub words_differ : (p q : Path) → words_of p ≡ words_of q → p ≡ q
words_differ p q e = sym (path_in-front p) ∙ ap path_in e ∙ path_in-front q

take_words : (p : Path) (rest : List ℕ) → length p ≤ path_room → take scratch_words (words_of p ++ rest) ≡ words_of p
take_words p rest h = take_at (words_of p) rest scratch_words (words_long p h)

module _ (G : Ends) (start : Node) where
  -- after an example the words hold its trial
  pub words_hold : (p : Path) (rest : List ℕ) → Memᴰ p (trials G start) → is_example_in G p ≡ true → has_trial G start (words_of p ++ rest) ≡ true
  unfolding has_trial
  words_hold p rest m e =
      let s = short_trial G start p m in
      rw (path_in-words p rest, take_words p rest (omega arith), eq_same_words (words_of p) (words_of p) refl, e) (found_of_member p (trials G start) m)

  -- what words that hold a trial are
  pub held-words : (ws : List ℕ) → has_trial G start ws ≡ true → take scratch_words ws ≡ words_of (path_in ws)
  unfolding has_trial
  held-words ws h = same_words_eq (take scratch_words ws) (words_of (path_in ws)) (and_left (same_words (take scratch_words ws) (words_of (path_in ws))) _ h)

  pub held-example : (ws : List ℕ) → has_trial G start ws ≡ true → is_example_in G (path_in ws) ≡ true
  unfolding has_trial
  held-example ws h =
      and_left (is_example_in G (path_in ws)) (some? (same_words (path_in ws)) (trials G start)) (and_right (same_words (take scratch_words ws) (words_of (path_in ws))) _ h)

  pub held_trial : (ws : List ℕ) → has_trial G start ws ≡ true → Memᴰ (path_in ws) (trials G start)
  unfolding has_trial
  held_trial ws h =
      member_of_found (path_in ws) (trials G start)
      (and_right (is_example_in G (path_in ws)) (some? (same_words (path_in ws)) (trials G start)) (and_right (same_words (take scratch_words ws) (words_of (path_in ws))) _ h))

  -- the words hold a trial exactly if the first 32,000 are those of a trial that is an example
  pub holds_exactly : Small G → (ws : List ℕ)
      → (has_trial G start ws ≡ true) ↔ ((p : Path) × IsTrial G start p × (is_example_in G p ≡ true) × (take scratch_words ws ≡ words_of p))
  holds_exactly small ws = (
    λ h. (path_in ws, sound G start (path_in ws) (held_trial ws h), held-example ws h, held-words ws h),
    λ r.
        let e : ws ≡ words_of r.0 ++ drop scratch_words ws = sym (take-append-drop scratch_words ws) ∙ ap (λ (l : List ℕ). l ++ drop scratch_words ws) r.3 in
        ap (has_trial G start) e ∙ words_hold r.0 (drop scratch_words ws) (complete G small start r.0 r.1) r.2,
  )
