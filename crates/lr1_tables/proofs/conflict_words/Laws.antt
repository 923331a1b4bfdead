-- Laws of conflicts written one behind the other, one for each way through the code.
use Rattle.std.specs.Prelude.{◌≡◌, ℕ, ◌+◌, ◌-◌, ◌<◌, ◌≤◌, List, [], ◌∷◌, ◌++◌, map, length, get_or}
use mathlib.Core.Path.{refl, sym, ap, ◌∙◌}
use mathlib.Core.List.{append-nil}
use native.Mathlib.Omega.{arith}
use Rattle.lr1_base.specs.repr.Lists.{up_from, joined}
use Rattle.lr1_base.proofs.repr.Lists.{joined_nil, joined_cons, joined_append}
use Rattle.lr1_base.specs.lookahead.Tokens.{meet, members}
use Rattle.lr1_base.specs.words.Insert.{put_at}
use Rattle.lr1_base.proofs.words.Put.{Turn, turn_start, turn_room, turn_next, turn_end}
use Rattle.lr1_states.specs.canonical.Built.{clash_words}
use Rattle.lr1_tables.specs.state_conflicts.Clashes.{shift_clash, reduce_clash}
use Rattle.lr1_tables.specs.state_conflicts.Clashed.{pairs_in, clashes_in}
use Rattle.lr1_tables.proofs.state_conflicts.Counts.{pairs-more, pairs_end, joined_more, joined_end}
use Rattle.lr1_tables.specs.conflict_words.Tokens.{token_words}
use Rattle.lr1_tables.specs.declared.conflict_words.Action.TheVariants.{Shift, Reduce}
use Rattle.lr1_tables.specs.declared.conflict_words.Pair.{Pair}

pub five : (pair : Pair) (t : ℕ) → length (token_words pair t) ≡ 5
unfolding token_words
five pair t = refl

-- the tokens of a set

module _ (pair : Pair) (at place s t : ℕ) (whole first list ts : List ℕ) (u : Turn at whole first place (joined (token_words pair) (members s)) list) (e : members s ≡ t ∷ ts) where
  next : joined (token_words pair) (members s) ≡ token_words pair t ++ joined (token_words pair) ts
  next = ap (joined (token_words pair)) e ∙ joined_cons (token_words pair) t ts

  pub tokens-room : place + 5 ≤ length list
  tokens-room = let r = turn_room u (token_words pair t) (joined (token_words pair) ts) next in omega (arith, r, five pair t)

  pub tokens-more : (after : List ℕ) → after ≡ put_at place (token_words pair t) list → Turn at whole first (place + 5) (joined (token_words pair) ts) after
  tokens-more after w = turn_next u (token_words pair t) (joined (token_words pair) ts) next after w (place + 5) (ap (λ (n : ℕ). place + n) (sym (five pair t)))

-- the words of conflicts

shift_words_lem : (k p : ℕ) (ts : List ℕ) → joined (clash_words k) (map (shift_clash p) ts) ≡ joined (token_words (record { state = k; production = p; action = Shift })) ts
unfolding joined clash_words shift_clash token_words
shift_words_lem k p [] = refl
shift_words_lem k p (t ∷ ts) = ap (λ (l : List ℕ). k ∷ p ∷ 0 ∷ t ∷ t ∷ l) (shift_words_lem k p ts)

reduce_words_lem : (k p q : ℕ) (ts : List ℕ) → joined (clash_words k) (map (reduce_clash p q) ts) ≡ joined (token_words (record { state = k; production = p; action = Reduce q })) ts
unfolding joined clash_words reduce_clash token_words
reduce_words_lem k p q [] = refl
reduce_words_lem k p q (t ∷ ts) = ap (λ (l : List ℕ). k ∷ p ∷ 1 ∷ q ∷ t ∷ l) (reduce_words_lem k p q ts)

module _ (k : ℕ) (r : List ℕ) where
  pub pair_words_lem : (p q n s : ℕ) → q < n → s ≡ meet (get_or r p 0) (get_or r q 0) → joined (clash_words k) (pairs_in r p (up_from q (n - q)))
      ≡ joined (token_words (record { state = k; production = p; action = Reduce q })) (members s) ++ joined (clash_words k) (pairs_in r p (up_from (q + 1) (n - (q + 1))))
  pair_words_lem p q n s h e =
      ap (joined (clash_words k)) (pairs-more r p q n h) ∙ joined_append (clash_words k) (map (reduce_clash p q) (members (meet (get_or r p 0) (get_or r q 0)))) (pairs_in r p (up_from (q + 1) (n - (q + 1))))
      ∙ rw (reduce_words_lem k p q (members (meet (get_or r p 0) (get_or r q 0))), e) refl

  pub pair-room : (p q n s at place : ℕ) (whole first list : List ℕ) → Turn at whole first place (joined (clash_words k) (pairs_in r p (up_from q (n - q)))) list → q < n
      → s ≡ meet (get_or r p 0) (get_or r q 0) → place + length (joined (token_words (record { state = k; production = p; action = Reduce q })) (members s)) ≤ length list
  pair-room p q n s at place whole first list u h e = turn_room u (joined (token_words (record { state = k; production = p; action = Reduce q })) (members s)) (joined (clash_words k) (pairs_in r p (up_from (q + 1) (n - (q + 1))))) (pair_words_lem p q n s h e)

  pub pair-none : (p q n : ℕ) → n ≤ q → joined (clash_words k) (pairs_in r p (up_from q (n - q))) ≡ []
  pair-none p q n h = ap (joined (clash_words k)) (pairs_end r p q n h) ∙ joined_nil (clash_words k)

  production-words : (sh n p s : ℕ) → s ≡ meet (get_or r p 0) sh → joined (clash_words k) (clashes_in r sh n p)
      ≡ joined (token_words (record { state = k; production = p; action = Shift })) (members s) ++ joined (clash_words k) (pairs_in r p (up_from (p + 1) (n - (p + 1))))
  unfolding clashes_in
  production-words sh n p s e =
      joined_append (clash_words k) (map (shift_clash p) (members (meet (get_or r p 0) sh))) (pairs_in r p (up_from (p + 1) (n - (p + 1))))
      ∙ rw (shift_words_lem k p (members (meet (get_or r p 0) sh)), e) refl

  module _ (sh n p s at : ℕ) (first : List ℕ) (e : s ≡ meet (get_or r p 0) sh) (room : at + length (joined (clash_words k) (clashes_in r sh n p)) ≤ length first) where
    begun : Turn at (joined (clash_words k) (clashes_in r sh n p)) first at (joined (clash_words k) (clashes_in r sh n p)) first
    begun = turn_start at (joined (clash_words k) (clashes_in r sh n p)) first (joined (clash_words k) (clashes_in r sh n p)) refl room

    pub shifts-room : at + length (joined (token_words (record { state = k; production = p; action = Shift })) (members s)) ≤ length first
    shifts-room = turn_room begun (joined (token_words (record { state = k; production = p; action = Shift })) (members s)) (joined (clash_words k) (pairs_in r p (up_from (p + 1) (n - (p + 1))))) (production-words sh n p s e)

    module _ (mid : List ℕ) (m : ℕ) (w : mid ≡ put_at at (joined (token_words (record { state = k; production = p; action = Shift })) (members s)) first) (q : m ≡ at + length (joined (token_words (record { state = k; production = p; action = Shift })) (members s))) where
      second : Turn at (joined (clash_words k) (clashes_in r sh n p)) first m (joined (clash_words k) (pairs_in r p (up_from (p + 1) (n - (p + 1))))) mid
      second = turn_next begun (joined (token_words (record { state = k; production = p; action = Shift })) (members s)) (joined (clash_words k) (pairs_in r p (up_from (p + 1) (n - (p + 1))))) (production-words sh n p s e) mid w m q

      pub pairs-room : m + length (joined (clash_words k) (pairs_in r p (up_from (p + 1) (n - (p + 1))))) ≤ length mid
      pairs-room = omega (arith, second.sum, second.size, second.room)

      pub production-done : (last : List ℕ) (z : ℕ) → last ≡ put_at m (joined (clash_words k) (pairs_in r p (up_from (p + 1) (n - (p + 1))))) mid
          → z ≡ m + length (joined (clash_words k) (pairs_in r p (up_from (p + 1) (n - (p + 1)))))
          → (last ≡ put_at at (joined (clash_words k) (clashes_in r sh n p)) first) × (z ≡ at + length (joined (clash_words k) (clashes_in r sh n p)))
      production-done last z v y =
          turn_end (turn_next second (joined (clash_words k) (pairs_in r p (up_from (p + 1) (n - (p + 1))))) [] (sym (append-nil (joined (clash_words k) (pairs_in r p (up_from (p + 1) (n - (p + 1))))))) last v z y) refl

  pub state_words_lem : (sh n p : ℕ) → p < n → joined (clash_words k) (joined (clashes_in r sh n) (up_from p (n - p)))
      ≡ joined (clash_words k) (clashes_in r sh n p) ++ joined (clash_words k) (joined (clashes_in r sh n) (up_from (p + 1) (n - (p + 1))))
  state_words_lem sh n p h =
      ap (joined (clash_words k)) (joined_more (clashes_in r sh n) p n h) ∙ joined_append (clash_words k) (clashes_in r sh n p) (joined (clashes_in r sh n) (up_from (p + 1) (n - (p + 1))))

  pub state_room : (sh n p at place : ℕ) (whole first list : List ℕ) → Turn at whole first place (joined (clash_words k) (joined (clashes_in r sh n) (up_from p (n - p)))) list → p < n
      → place + length (joined (clash_words k) (clashes_in r sh n p)) ≤ length list
  state_room sh n p at place whole first list u h = turn_room u (joined (clash_words k) (clashes_in r sh n p)) (joined (clash_words k) (joined (clashes_in r sh n) (up_from (p + 1) (n - (p + 1))))) (state_words_lem sh n p h)

  pub state_none : (sh n p : ℕ) → n ≤ p → joined (clash_words k) (joined (clashes_in r sh n) (up_from p (n - p))) ≡ []
  state_none sh n p h = ap (joined (clash_words k)) (joined_end (clashes_in r sh n) p n h) ∙ joined_nil (clash_words k)
