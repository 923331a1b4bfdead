-- The machine's search is the search over the list of trials (specs/trials/Machine, specs/trials/Advance): the second level meets the first.
use Rattle.std.proofs.Common.{◌≡◌, ℕ, zero, suc, Bool, true, false, List, [], ◌∷◌, map, reverse, sym, refl, ap, ◌∙◌}
use mathlib.Core.List.{reverse-reverse}
use mathlib.Core.Option.{Option, none, some}
use Rattle.trace_graph.specs.Graph.{Node}
use Rattle.enumerator.specs.trials.Trials.{Path, Ends, trials, Small}
use Rattle.enumerator.specs.trials.Words.{path_in, has_trial}
use Rattle.enumerator.specs.trials.Lister.{hit, out, over, search}
use Rattle.enumerator.specs.trials.Advance.{rest_of}
use Rattle.enumerator.specs.trials.Machine.{next, Run, walk, stack_from}
use Rattle.enumerator.proofs.trials.Run.{next_runs}
use Rattle.enumerator.proofs.trials.After.{next-after}
use Rattle.enumerator.proofs.trials.Search.{search-hit, search_on}
use Rattle.enumerator.proofs.trials.WordsOf.{held_trial}

module _ (G : Ends) (start : Node) (t : Path → Bool) where
  -- the ways through a turn
  pub walk_end : (l c : ℕ) → walk G start t l c none ≡ out c
  unfolding walk
  walk_end zero c = refl
  walk_end (suc l) c = refl

  pub walk-over : (c : ℕ) (s : List ℕ) → walk G start t zero c (some s) ≡ over
  unfolding walk
  walk-over c s = refl

  pub walk-hit : (l c : ℕ) (s : List ℕ) → t (reverse s) ≡ true → walk G start t (suc l) c (some s) ≡ hit (suc c) (reverse s)
  unfolding walk
  walk-hit l c s e = rw (e, walk)

  pub walk_on : (l c : ℕ) (s : List ℕ) → t (reverse s) ≡ false → walk G start t (suc l) c (some s) ≡ walk G start t l (suc c) (next G start s)
  unfolding walk
  walk_on l c s e = rw (e, walk)

  pub walk-search : (l c : ℕ) (o : Option (List ℕ)) (rest : List Path) → Run G start o (map reverse rest) → walk G start t l c o ≡ search t l c rest
  unfolding walk search
  walk-search zero c none [] r = refl
  walk-search zero c none (p ∷ rest) r = absurd r
  walk-search zero c (some s) [] r = absurd r
  walk-search zero c (some s) (p ∷ rest) r = refl
  walk-search (suc l) c none [] r = refl
  walk-search (suc l) c none (p ∷ rest) r = absurd r
  walk-search (suc l) c (some s) [] r = absurd r
  walk-search (suc l) c (some s) (p ∷ rest) r = by (walk-search l (suc c) (next G start s) rest r.1) (t p) refl
    where
      s_p : reverse s ≡ p
      s_p = ap (λ (x : Path). reverse x) r.0 ∙ reverse-reverse p

      by : walk G start t l (suc c) (next G start s) ≡ search t l (suc c) rest → (b : Bool) → t p ≡ b → walk G start t (suc l) c (some s) ≡ search t (suc l) c (p ∷ rest)
      by ih true e = walk-hit l c s (ap t s_p ∙ e) ∙ ap (hit (suc c)) s_p ∙ sym (search-hit t l c p rest e)
      by ih false e = walk_on l c s (ap t s_p ∙ e) ∙ ih ∙ sym (search_on t l c p rest e)

  -- from where an open listing goes on: what `advance` searches is what the machine walks
  pub rest_runs : Small G → (c : ℕ) (ws : List ℕ) → ((k : ℕ) → c ≡ suc k → has_trial G start ws ≡ true)
      → Run G start (next G start (stack_from c ws)) (map reverse (rest_of c ws (trials G start)))
  unfolding stack_from rest_of
  rest_runs small zero ws h = next_runs G start small
  rest_runs small (suc c) ws h = next-after G start small (path_in ws) (held_trial G start ws (h c refl))

  pub machine_search : Small G → (l c : ℕ) (ws : List ℕ) → ((k : ℕ) → c ≡ suc k → has_trial G start ws ≡ true)
      → walk G start t l c (next G start (stack_from c ws)) ≡ search t l c (rest_of c ws (trials G start))
  machine_search small l c ws h = walk-search l c (next G start (stack_from c ws)) (rest_of c ws (trials G start)) (rest_runs small c ws h)
