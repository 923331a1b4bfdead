-- The chains of a spelling: symbols, items and edges are consecutive, and a nonterminal's productions are those that it owns, ascending.
use mathlib.Core.Path.{◌≡◌, refl, ap, ◌∙◌}
use mathlib.Core.Bool.{true}
use mathlib.Core.List.{List, [], ◌∷◌, map}
use mathlib.Core.Option.{none, some}
use Prim.Native.Nat.{ℕ, zero, suc, ◌+◌, ◌-◌, ◌≤◌, ◌<◌}
use native.Mathlib.Omega.{arith}
use lib.ListN.{length, get_or, drop}
use borrow.Author.Tests.{eqb-true}
use Rattle.lr1_base.specs.repr.Lists.{up_from, below, keep, first?}
use Rattle.lr1_base.specs.repr.Meaning.{Table, production_at, state_at}
use Rattle.lr1_base.proofs.repr.Lists.{cases, keep-nil, keep-yes, keep_no}
use Rattle.lr1_base.proofs.repr.Tests.{first?-nil, first?-yes, first?_no}
use Rattle.table.specs.Words.{word_at, records, state_area, production_area, loose_records, production_records, chain}
use Rattle.table.specs.Decoded.{production_chain, symbol_chain, item_chain, edge_chain}
use Rattle.table.proofs.Chains.{names_good, chain_end, chain-step, loose-whole}
use Rattle.table.specs.Quads.{Quad, no_quad}
use Rattle.table_rewrite.specs.spelling.Spelled.{head_of, chain_from, place_of, symbol_quad, item_quad, edge_quad, symbol_lists, item_lists, edge_lists, states_at, productions_at, symbols_at, items_place, edges_at, owns, record_or, next_owned_from, nonterminal_quad, state_quad, production_quad, quads, spell}
use Rattle.table_rewrite.specs.spelling.Grown.{Stands}
use Rattle.table_rewrite.proofs.spelling.Laid.{length_chain_from, get_d_chain_from, chain-laid}
use Rattle.table_rewrite.proofs.spelling.Places.{begins, Within, nonterminal_at, state_at_lem, production_at_lem, symbols_stand, items_stand, edges_stand, symbols-within, items_within, edges_within, spell_next, spell_one, spell-state_area, spell-production_area, spell-loose, spell-records}

-- one chain of loose records

module _ {ℓ} {A : Type ℓ} (f : ℕ → A → Quad) (T : Table) (o : ℕ) (xs : List A) (S : Stands (quads T) o (chain_from f o xs)) where
  pub laid_at : (i : ℕ) (d : A) → i < length xs → get_or (quads T) (o + i) no_quad ≡ f (head_of (o + suc i) (drop (suc i) xs)) (get_or xs i d)
  laid_at i d h = S.at i (omega (arith, length_chain_from f o xs)) ∙ get_d_chain_from f o xs i d h

  first : (xs : List A) → 0 < length xs → A
  first [] h = absurd (omega arith)
  first (x ∷ ys) h = x

  module _ (keeps : (n : ℕ) (x : A) → (f n x).next ≡ n) (W : Within T o (length xs)) where
    pub loose-chain : (r : ℕ) → r < symbols_at T → chain (spell T) (loose_records (spell T)) r (head_of o xs) ≡ up_from o (length xs)
    unfolding loose_records
    loose-chain r h =
        let l = spell-loose T in
        let n = spell-records T in
        chain-laid (spell T) (loose_records (spell T)) (loose-whole (spell T)) r o xs (omega arith) (omega arith) (omega arith)
        (λ i b.
        let d = first xs (omega arith) in
        spell_next T (o + i) (f (head_of (o + suc i) (drop (suc i) xs)) (get_or xs i d)) (laid_at i d b) ∙ keeps (head_of (o + suc i) (drop (suc i) xs)) (get_or xs i d))

module _ (T : Table) where
  pub symbol_chain_lem : (p : ℕ) → p < length T.productions
      → symbol_chain (spell T) p ≡ up_from (place_of (symbols_at T) (symbol_lists T) p) (length (production_at T p).symbols)
  unfolding symbol_chain production_quad
  symbol_chain_lem p h =
      let b = begins T in
      let a : production_area (spell T) + p ≡ productions_at T + p = ap (λ (n : ℕ). n + p) (spell-production_area T) in
      rw (a, spell_one T (productions_at T + p) (production_quad T p) (production_at_lem T p h))
      (loose-chain symbol_quad T (place_of (symbols_at T) (symbol_lists T) p) (production_at T p).symbols (symbols_stand T p h) (λ n x. refl) (symbols-within T p h)
      (productions_at T + p) (omega arith))

  pub item_chain_lem : (s : ℕ) → s < length T.states → item_chain (spell T) s ≡ up_from (place_of (items_place T) (item_lists T) s) (length (state_at T s).items)
  unfolding item_chain state_quad
  item_chain_lem s h =
      let b = begins T in
      let a : state_area (spell T) + s ≡ states_at T + s = ap (λ (n : ℕ). n + s) (spell-state_area T) in
      rw (a, spell_next T (states_at T + s) (state_quad T s) (state_at_lem T s h))
      (loose-chain item_quad T (place_of (items_place T) (item_lists T) s) (state_at T s).items (items_stand T s h) (λ n x. refl) (items_within T s h)
      (states_at T + s) (omega arith))

  pub edge_chain_lem : (s : ℕ) → s < length T.states → edge_chain (spell T) s ≡ up_from (place_of (edges_at T) (edge_lists T) s) (length (state_at T s).edges)
  unfolding edge_chain state_quad
  edge_chain_lem s h =
      let b = begins T in
      let a : state_area (spell T) + s ≡ states_at T + s = ap (λ (n : ℕ). n + s) (spell-state_area T) in
      rw (a, spell_one T (states_at T + s) (state_quad T s) (state_at_lem T s h))
      (loose-chain edge_quad T (place_of (edges_at T) (edge_lists T) s) (state_at T s).edges (edges_stand T s h) (λ n x. refl) (edges_within T s h)
      (states_at T + s) (omega arith))

-- productions

pub owned_is : (T : Table) (n p : ℕ) → owns T n p ≡ true → (production_at T p).nonterminal ≡ n
unfolding owns
owned_is T n p e = eqb-true (production_at T p).nonterminal n e

record_none : (o : ℕ) → record_or o none ≡ 0
unfolding record_or
record_none o = refl

record_some : (o p : ℕ) → record_or o (some p) ≡ o + p
unfolding record_or
record_some o p = refl

up_suc : (p k : ℕ) → up_from p (suc k) ≡ p ∷ up_from (suc p) k
unfolding up_from
up_suc p k = refl

up_zero : (p : ℕ) → up_from p 0 ≡ []
unfolding up_from
up_zero p = refl

module _ (T : Table) where
  pub next_word : (n p k : ℕ) → p + suc k ≡ length T.productions → owns T n p ≡ true
      → word_at (spell T) (productions_at T + p) 0 ≡ record_or (productions_at T) (first? (owns T n) (up_from (suc p) k))
  unfolding production_quad next_owned_from
  next_word n p k e o =
      let d : length T.productions - suc p ≡ k = omega arith in
      spell_next T (productions_at T + p) (production_quad T p) (production_at_lem T p (omega arith))
      ∙ rw (owned_is T n p o, d)

  -- the chain of n's productions from p on
  pub owned-chain : (n k p r : ℕ) → p + k ≡ length T.productions → r < productions_at T + p
      → chain (spell T) (production_records (spell T)) r (record_or (productions_at T) (first? (owns T n) (up_from p k))) ≡ map (λ q. productions_at T + q) (keep (owns T n) (up_from p k))
  unfolding production_records
  owned-chain n zero p r e h =
      rw (up_zero p, first?-nil (owns T n), keep-nil (owns T n), record_none (productions_at T)) (chain_end (spell T) (production_records (spell T)) r)
  owned-chain n (suc k) p r e h =
      let b = begins T in
      let l = spell-loose T in
      let a = spell-production_area T in
      let z = spell-records T in
      let w : (production_records (spell T)).past ≤ records (spell T) = omega arith in
      cases (owns T n p)
      (λ o.
      rw (up_suc p k, first?-yes (owns T n) p (up_from (suc p) k) o, keep-yes (owns T n) p (up_from (suc p) k) o, record_some (productions_at T) p)
      (chain-step (spell T) (production_records (spell T)) w r (productions_at T + p) (λ q. omega arith)
      (names_good (production_records (spell T)) r (productions_at T + p) (omega arith) (omega arith) h)
      ∙ ap (λ (x : List ℕ). (productions_at T + p) ∷ x)
      (ap (chain (spell T) (production_records (spell T)) (productions_at T + p)) (next_word n p k e o)
      ∙ owned-chain n k (suc p) (productions_at T + p) (omega arith) (omega arith))))
      (λ o.
      rw (up_suc p k, first?_no (owns T n) p (up_from (suc p) k) o, keep_no (owns T n) p (up_from (suc p) k) o)
      (owned-chain n k (suc p) r (omega arith) (omega arith)))

  pub production_chain_lem : (n : ℕ) → n < length T.nonterminals
      → production_chain (spell T) n ≡ map (λ q. productions_at T + q) (keep (owns T n) (below (length T.productions)))
  unfolding production_chain nonterminal_quad next_owned_from below
  production_chain_lem n h =
      let b = begins T in
      let d : length T.productions - 0 ≡ length T.productions = omega arith in
      ap (chain (spell T) (production_records (spell T)) (1 + n)) (spell_next T (1 + n) (nonterminal_quad T n) (nonterminal_at T n h) ∙ rw d)
      ∙ owned-chain n (length T.productions) 0 (1 + n) (omega arith) (omega arith)
