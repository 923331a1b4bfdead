-- Taking back unused records a second time moves nothing and counts the same, on the whole slice and on its front.
use mathlib.Core.Path.{◌≡◌, sym, ap, ◌∙◌}
use mathlib.Core.Bool.{true, false}
use mathlib.Core.List.{List, map}
use Prim.Native.Nat.{ℕ, ◌-◌, ◌*◌, ◌≤◌, ◌<◌}
use native.Mathlib.Omega.{arith}
use lib.ListN.{take}
use Rattle.lr1_base.specs.repr.Lists.{below, mem}
use Rattle.lr1_base.proofs.repr.Lists.{cases}
use Rattle.lr1_base.proofs.repr.Tests.{some?-below_witness}
use Rattle.table.specs.Checked.{Accepted}
use Rattle.table.specs.Words.{records, states, productions, loose}
use Rattle.table.specs.Decoded.{symbol_chain, item_chain, edge_chain}
use Rattle.table.specs.Refusals.{as_symbol, as_item, as_edge, check_of}
use Rattle.table.proofs.ListLaws.{mem-map_in}
use Rattle.table.proofs.Accepted.{Accepts, accepts}
use Rattle.table.specs.Quads.{words, quad_at}
use Rattle.table_rewrite.specs.compaction.Compaction.{reached, rank, moved, count_of, compact_quad, compacted_to, compacted}
use Rattle.table_rewrite.proofs.compaction.Ranks.{rank-onto}
use Rattle.table_rewrite.proofs.compaction.Moves.{MovedTo, by_kind, as_symbol_lem, as_item_lem, as_edge_lem, moved_is, moved_early}
use Rattle.table_rewrite.proofs.compaction.Chains.{same_states, same_productions, same_loose, symbol_chain_lem, item_chain_lem, edge_chain_lem}
use Rattle.table_rewrite.proofs.compaction.Meaning.{map_below, in_symbols, in_items, in_edges}
use Rattle.table_rewrite.proofs.compaction.Accepted.{was_symbol, was_item, was_edge}
use Rattle.table_rewrite.proofs.compaction.Placed.{to_records, to_next, to_one, to_two, to_three, quad_freed, count_least}
use Rattle.table.proofs.Quads.{made_quad}
use Rattle.table_rewrite.proofs.compaction.Settled.{Settled, settled_count, settled_quad}
use Rattle.table_rewrite.proofs.compaction.Theorems.{count_most, front-moved, front_accepted, compacted-front}

module _ (t u : List ℕ) (A : Accepts t) (M : MovedTo t u) where
  -- what is reached in t is reached in u, as the same
  is_symbol : (x : ℕ) → as_symbol t x ≡ true → as_symbol u (moved t x) ≡ true
  unfolding as_symbol
  is_symbol x e =
      let w = some?-below_witness (λ p. mem x (symbol_chain t p)) (productions t) e in
      let c = same_productions t u A M in
      in_symbols u w.0 (moved t x) (omega (arith, w.1, c)) (ap (mem (moved t x)) (symbol_chain_lem t u A M w.0 w.1) ∙ mem-map_in (moved t) x (symbol_chain t w.0) w.2)

  is_item : (x : ℕ) → as_item t x ≡ true → as_item u (moved t x) ≡ true
  unfolding as_item
  is_item x e =
      let w = some?-below_witness (λ p. mem x (item_chain t p)) (states t) e in
      let c = same_states t u A M in
      in_items u w.0 (moved t x) (omega (arith, w.1, c)) (ap (mem (moved t x)) (item_chain_lem t u A M w.0 w.1) ∙ mem-map_in (moved t) x (item_chain t w.0) w.2)

  is_edge : (x : ℕ) → as_edge t x ≡ true → as_edge u (moved t x) ≡ true
  unfolding as_edge
  is_edge x e =
      let w = some?-below_witness (λ p. mem x (edge_chain t p)) (states t) e in
      let c = same_states t u A M in
      in_edges u w.0 (moved t x) (omega (arith, w.1, c)) (ap (mem (moved t x)) (edge_chain_lem t u A M w.0 w.1) ∙ mem-map_in (moved t) x (edge_chain t w.0) w.2)

  pub still_reached : (x : ℕ) → reached t x ≡ true → reached u (moved t x) ≡ true
  still_reached x = by_kind t x (λ e. as_symbol_lem u _ (is_symbol x e)) (λ e. as_item_lem u _ (is_item x e)) (λ e. as_edge_lem u _ (is_edge x e))

  pub was_reached : (r : ℕ) → reached u r ≡ true → (x : ℕ) × (reached t x ≡ true) × (moved t x ≡ r)
  was_reached r =
      by_kind u r
      (λ e. let w = was_symbol t u A M r e in (w.0, as_symbol_lem t w.0 w.1, w.2))
      (λ e. let w = was_item t u A M r e in (w.0, as_item_lem t w.0 w.1, w.2))
      (λ e. let w = was_edge t u A M r e in (w.0, as_edge_lem t w.0 w.1, w.2))

  -- no gaps: the reached records of u are those from the end of the areas up to the count
  pub no_gaps : (r : ℕ) → loose t ≤ r → r < count_of t → reached u r ≡ true
  unfolding count_of rank
  no_gaps r h l =
      let w = rank-onto (reached t) (records t) (r - loose t) (omega arith) in
      let m = moved_is t w.0 w.2 in
      let z : moved t w.0 ≡ r = omega (arith, m, w.3) in
      sym (ap (reached u) z) ∙ still_reached w.0 w.2

  pub none-behind : (r : ℕ) → count_of t ≤ r → reached u r ≡ false
  none-behind r h =
      cases (reached u r)
      (λ e. let w = was_reached r e in let m = moved_early t w.0 w.1 in absurd (omega (arith, m, w.2)))
      (λ e. e)

module _ (t : List ℕ) (e : check_of t ≡ Accepted) (n : ℕ) (a : count_of t ≤ n) (b : n ≤ records t) where
  -- the quads of a front are those of `compact_quad`
  quad_is : (r : ℕ) → r < n → quad_at (compacted_to n t) r ≡ compact_quad t r
  quad_is r h = made_quad _ _ _ _ _ _ _ _ (to_next t n r h) (to_one t n r h) (to_two t n r h) (to_three t n r h)

  pub front_settled : Settled (compacted_to n t) (count_of t)
  front_settled =
      let A = accepts t e in
      let M = front-moved t e n a b in
      let z = to_records t n in
      let l = same_loose t (compacted_to n t) A M in
      let c = count_least t in
      record {
        from = omega arith;
        past = omega arith;
        full = λ r h k. no_gaps t (compacted_to n t) A M r (omega arith) k;
        none = none-behind t (compacted_to n t) A M;
        freed = λ r h k. quad_is r (omega arith) ∙ quad_freed t r h;
      }

  pub front_count : count_of (compacted_to n t) ≡ count_of t
  front_count = settled_count (compacted_to n t) (accepts (compacted_to n t) (front_accepted t e n a b)) (count_of t) front_settled

  pub front_again : compacted (compacted_to n t) ≡ compacted_to n t
  unfolding compacted compacted_to
  front_again =
      let z = to_records t n in
      ap (λ (k : ℕ). words (map (compact_quad (compacted_to n t)) (below k))) z
      ∙ ap words (map_below (compact_quad (compacted_to n t)) (compact_quad t) n
      (λ r h.
      settled_quad (compacted_to n t) (accepts (compacted_to n t) (front_accepted t e n a b)) (count_of t) front_settled r (omega arith)
      ∙ quad_is r h))

module _ (t : List ℕ) (e : check_of t ≡ Accepted) where
  -- on the whole slice
  pub compacted_again : compacted (compacted t) ≡ compacted t
  unfolding compacted
  compacted_again = front_again t e (records t) (count_most t e) (omega arith)

  pub count_again : count_of (compacted t) ≡ count_of t
  unfolding compacted
  count_again = front_count t e (records t) (count_most t e) (omega arith)

  -- and on its front
  pub compacted-front_again : compacted (take (4 * count_of t) (compacted t)) ≡ take (4 * count_of t) (compacted t)
  compacted-front_again =
      ap compacted (compacted-front t e) ∙ front_again t e (count_of t) (omega arith) (count_most t e) ∙ sym (compacted-front t e)

  pub count_front_again : count_of (take (4 * count_of t) (compacted t)) ≡ count_of t
  count_front_again = ap count_of (compacted-front t e) ∙ front_count t e (count_of t) (omega arith) (count_most t e)
