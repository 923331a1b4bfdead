-- Where the reached records are moved, the areas are the same, the chains of productions too, and the others are renumbered.
use mathlib.Core.Path.{◌≡◌}
use mathlib.Core.Bool.{true, false, ◌&&◌}
use mathlib.Core.List.{List, map}
use Prim.Native.Nat.{ℕ, ◌+◌, ◌≤◌, ◌<◌}
use native.Mathlib.Omega.{arith}
use lib.Dec.{ltb, leb}
use borrow.Author.Tests.{leb-true, ltb-true}
use Rattle.lr1_base.proofs.repr.Lists.{cases}
use Rattle.table.specs.Words.{word_at, nonterminals, terminals, states, productions, state_area, production_area, loose, loose_records, production_records, against, chain}
use Rattle.table.specs.Decoded.{production_chain, symbol_chain, item_chain, edge_chain}
use Rattle.table.specs.Refusals.{is_state}
use Rattle.table.proofs.Accepted.{Accepts, areas_of, state_place, symbol-head, item-head, edge_head}
use Rattle.table_rewrite.specs.compaction.Compaction.{reached, moved, count_of}
use Rattle.table_rewrite.proofs.compaction.Renumbered.{Renumbers, head_renumbered, index_renumbered, chain_agree}
use Rattle.table_rewrite.proofs.compaction.Moves.{MovedTo, moved-zero, moved_inside, moved_early, moved_rises, reached-next, reached-closed, symbol_headed, item_headed, edge_headed}
use Rattle.lr1_base.proofs.laws.Bools.{and-true}

pub no_state_lem : (t : List ℕ) (r : ℕ) → (state_area t ≤ r → r < production_area t → ⊥) → is_state t r ≡ false
unfolding is_state
no_state_lem t r h =
    cases (leb (state_area t) r && ltb r (production_area t))
    (λ e. let p = and-true _ _ e in absurd (h (leb-true (state_area t) r p.0) (ltb-true r (production_area t) p.1)))
    (λ e. e)

module _ (t u : List ℕ) (A : Accepts t) (M : MovedTo t u) where
  -- record 0 and the areas
  pub same_nonterminals : nonterminals u ≡ nonterminals t
  same_nonterminals = let l = areas_of t in M.stays 0 (omega arith) (no_state_lem t 0 (λ a b. omega arith))

  pub same_terminals : terminals u ≡ terminals t
  same_terminals = let l = areas_of t in M.stays_one 0 (omega arith)

  pub same_states : states u ≡ states t
  same_states = let l = areas_of t in M.stays_two 0 (omega arith)

  pub same_productions : productions u ≡ productions t
  same_productions = let l = areas_of t in M.stays_three 0 (omega arith)

  pub same_state_area : state_area u ≡ state_area t
  same_state_area = let l = areas_of t in let m = areas_of u in let n = same_nonterminals in omega arith

  pub same_production-area : production_area u ≡ production_area t
  same_production-area = let l = areas_of t in let m = areas_of u in let n = same_nonterminals in let s = same_states in omega arith

  pub same_loose : loose u ≡ loose t
  same_loose = let l = areas_of t in let m = areas_of u in let n = same_nonterminals in let s = same_states in let p = same_productions in omega arith

  pub same_production-records : production_records u ≡ production_records t
  unfolding production_records
  same_production-records = rw (same_production-area, same_loose)

  -- the key law's hypotheses
  pub renumbers : Renumbers t u (loose_records t) (loose_records u) (λ x. reached t x ≡ true) (moved t)
  unfolding loose_records
  renumbers = record {
    whole = omega arith;
    whole' = omega arith;
    zero = moved-zero t;
    some = λ x e z. let l = areas_of t in let i = moved_inside t x e in omega arith;
    inside = λ x e. let i = moved_inside t x e in let l = same_loose in omega arith;
    early = λ x e. let i = moved_early t x e in let l = M.enough in omega arith;
    rises = moved_rises t;
    good = reached-next t A;
    closed = reached-closed t A;
    next = M.next;
  }

  -- a head: 0, or reached and so behind the areas
  after : (r x : ℕ) → r < loose t → ((x ≡ 0 → ⊥) → reached t x ≡ true) → (x ≡ 0 → ⊥) → (reached t x ≡ true) × (r < moved t x)
  after r x h f ne = let e = f ne in let i = moved_inside t x e in (e, omega arith)

  pub symbol-word : (p : ℕ) → p < productions t → word_at u (production_area t + p) 1 ≡ moved t (word_at t (production_area t + p) 1)
  symbol-word p h = let l = areas_of t in M.heads (production_area t + p) (omega arith) (omega arith)

  pub item-word : (s : ℕ) → s < states t → word_at u (state_area t + s) 0 ≡ moved t (word_at t (state_area t + s) 0)
  item-word s h = let l = areas_of t in M.items (state_area t + s) (omega arith) (state_place t s h)

  pub edge_word : (s : ℕ) → s < states t → word_at u (state_area t + s) 1 ≡ moved t (word_at t (state_area t + s) 1)
  edge_word s h = let l = areas_of t in M.heads (state_area t + s) (omega arith) (omega arith)

  pub symbol_chain_lem : (p : ℕ) → p < productions t → symbol_chain u p ≡ map (moved t) (symbol_chain t p)
  unfolding symbol_chain
  symbol_chain_lem p h =
      let l = areas_of t in
      rw (same_production-area, symbol-word p h)
      (head_renumbered renumbers (production_area t + p) (production_area t + p) (word_at t (production_area t + p) 1) (symbol-head t A p h)
      (after (production_area t + p) _ (omega arith) (symbol_headed t A p h)))

  pub item_chain_lem : (s : ℕ) → s < states t → item_chain u s ≡ map (moved t) (item_chain t s)
  unfolding item_chain
  item_chain_lem s h =
      let l = areas_of t in
      rw (same_state_area, item-word s h)
      (head_renumbered renumbers (state_area t + s) (state_area t + s) (word_at t (state_area t + s) 0) (item-head t A s h)
      (after (state_area t + s) _ (omega arith) (item_headed t A s h)))

  pub edge_chain_lem : (s : ℕ) → s < states t → edge_chain u s ≡ map (moved t) (edge_chain t s)
  unfolding edge_chain
  edge_chain_lem s h =
      let l = areas_of t in
      rw (same_state_area, edge_word s h)
      (head_renumbered renumbers (state_area t + s) (state_area t + s) (word_at t (state_area t + s) 1) (edge_head t A s h)
      (after (state_area t + s) _ (omega arith) (edge_headed t A s h)))

  -- the new heads and next indexes keep the rule
  pub symbol_index : (p : ℕ) → p < productions t → against (loose_records u) (production_area t + p) (word_at u (production_area t + p) 1) ≡ false
  symbol_index p h =
      let l = areas_of t in
      rw (symbol-word p h) (index_renumbered renumbers (production_area t + p) (production_area t + p) _ (after (production_area t + p) _ (omega arith) (symbol_headed t A p h)))

  pub item_index : (s : ℕ) → s < states t → against (loose_records u) (state_area t + s) (word_at u (state_area t + s) 0) ≡ false
  item_index s h =
      let l = areas_of t in
      rw (item-word s h) (index_renumbered renumbers (state_area t + s) (state_area t + s) _ (after (state_area t + s) _ (omega arith) (item_headed t A s h)))

  pub edge_index : (s : ℕ) → s < states t → against (loose_records u) (state_area t + s) (word_at u (state_area t + s) 1) ≡ false
  edge_index s h =
      let l = areas_of t in
      rw (edge_word s h) (index_renumbered renumbers (state_area t + s) (state_area t + s) _ (after (state_area t + s) _ (omega arith) (edge_headed t A s h)))

  -- the chains of productions
  pub nonterminal-word : (r : ℕ) → r < state_area t → word_at u r 0 ≡ word_at t r 0
  nonterminal-word r h = let l = areas_of t in M.stays r (omega arith) (no_state_lem t r (λ a b. omega arith))

  pub production-word : (r : ℕ) → production_area t ≤ r → r < loose t → word_at u r 0 ≡ word_at t r 0
  production-word r h k = M.stays r k (no_state_lem t r (λ a b. omega arith))

  agree : (r x : ℕ) → chain u (production_records t) r x ≡ chain t (production_records t) r x
  unfolding production_records count_of
  agree r x = let a = A.areas in let e = M.enough in chain_agree t u (production_records t) r x (omega arith) (omega arith) production-word

  pub production_chain_lem : (n : ℕ) → n < nonterminals t → production_chain u n ≡ production_chain t n
  unfolding production_chain
  production_chain_lem n h =
      let l = areas_of t in
      rw (same_production-records, nonterminal-word (1 + n) (omega arith)) (agree (1 + n) (word_at t (1 + n) 0))
