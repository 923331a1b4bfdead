-- Laws of the whole list.
use mathlib.Core.Path.{◌≡◌, ap, ◌∙◌}
use mathlib.Core.List.{List, [], ◌∷◌, append-nil}
use Prim.Native.Nat.{ℕ, zero, suc, ◌+◌, ◌-◌, ◌*◌, ◌≤◌, ◌<◌}
use native.Mathlib.Omega.{arith}
use lib.ListN.{length, get_or, take, length-append}
use lib.Seq.{take-suc, take-length}
use Rattle.lr1_base.specs.words.Lent.{in_front}
use Rattle.lr1_base.specs.repr.Lists.{up_from, below, joined}
use Rattle.lr1_base.specs.repr.Meaning.{Table}
use Rattle.lr1_base.proofs.repr.Lists.{below_last, joined_append}
use Rattle.lr1_base.specs.words.Insert.{put_at}
use Rattle.lr1_base.proofs.words.Put.{put_front, Turn, turn_start, turn_room, turn_next, turn_end}
use Rattle.lr1_states.specs.canonical.Canonical.{Clash}
use Rattle.lr1_states.specs.canonical.States.{clashes}
use Rattle.lr1_states.specs.canonical.Built.{clash_words, conflict_words}
use Rattle.lr1_states.specs.canonical.Outcome.{sum}
use Rattle.lr1_states.proofs.state_list.Holds.{sum-append}
use Rattle.lr1_tables.proofs.state_conflicts.Counts.{joined_more, joined_end, joined_start}
use Rattle.lr1_tables.specs.conflict_list.Listed.{state_words}

-- what is left to write, from state k of n on
abbrev pub rest : Table → List (List ℕ) → ℕ → ℕ → List ℕ
rest T Rs k n = joined (state_words T Rs) (up_from k (n - k))

module _ (T : Table) (Rs : List (List ℕ)) (n : ℕ) (many : n ≡ length Rs) (first : List ℕ) where
  pub list_start : length (conflict_words T Rs) ≤ length first → Turn 0 (conflict_words T Rs) first 0 (rest T Rs 0 n) first
  unfolding conflict_words
  list_start h = turn_start 0 (conflict_words T Rs) first (rest T Rs 0 n) (joined_start (state_words T Rs) n ∙ ap (λ (i : ℕ). joined (state_words T Rs) (below i)) many) (omega arith)

  module _ (k place : ℕ) (list : List ℕ) (t : Turn 0 (conflict_words T Rs) first place (rest T Rs k n) list) where
    pub list_room : k < n → place + length (state_words T Rs k) ≤ length list
    list_room h = turn_room t (state_words T Rs k) (rest T Rs (k + 1) n) (joined_more (state_words T Rs) k n h)

    pub list_more : k < n → (after : List ℕ) (r : ℕ) → after ≡ put_at place (state_words T Rs k) list → r ≡ place + length (state_words T Rs k) → Turn 0 (conflict_words T Rs) first r (rest T Rs (k + 1) n) after
    list_more h after r e q = turn_next t (state_words T Rs k) (rest T Rs (k + 1) n) (joined_more (state_words T Rs) k n h) after e r q

    pub list_end : n ≤ k → list ≡ in_front (conflict_words T Rs) first
    list_end h = (turn_end t (joined_end (state_words T Rs) k n h)).0 ∙ put_front (conflict_words T Rs) first

-- how long the list is

five_each : (k : ℕ) (cs : List Clash) → length (joined (clash_words k) cs) ≡ 5 * length cs
unfolding joined clash_words
five_each k [] = omega arith
five_each k (c ∷ cs) = let more = five_each k cs in omega arith

module _ (T : Table) (Rs : List (List ℕ)) where
  long_to : (k : ℕ) → k ≤ length Rs → length (joined (state_words T Rs) (below k)) ≡ 5 * sum (λ (S : List ℕ). length (clashes T S)) (take k Rs)
  unfolding below up_from joined sum
  long_to zero h = omega arith
  long_to (suc k) h =
      let more = long_to k (omega arith) in
      let here = five_each k (clashes T (get_or Rs k [])) in
      let last = ap (λ (xs : List ℕ). length (joined (state_words T Rs) xs)) (below_last k) ∙ ap length (joined_append (state_words T Rs) (below k) (k ∷ [])) ∙ length-append (joined (state_words T Rs) (below k)) (joined (state_words T Rs) (k ∷ [])) in
      let one : length (joined (state_words T Rs) (k ∷ [])) ≡ length (state_words T Rs k) = ap length (append-nil (state_words T Rs k)) in
      let all = ap (sum (λ (S : List ℕ). length (clashes T S))) (take-suc Rs k [] (omega arith)) ∙ sum-append (λ (S : List ℕ). length (clashes T S)) (take k Rs) (get_or Rs k []) in
      omega (arith, more, here, last, one, all)

  -- so its room is what `measure` asks for
  pub list_long : length (conflict_words T Rs) ≡ 5 * sum (λ (S : List ℕ). length (clashes T S)) Rs
  unfolding conflict_words
  list_long = long_to (length Rs) (omega arith) ∙ ap (λ (l : List (List ℕ)). 5 * sum (λ (S : List ℕ). length (clashes T S)) l) (take-length Rs)
