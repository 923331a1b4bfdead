-- Laws of the writing of symbols from the packed productions: one production's, and all of them.
use mathlib.Core.Path.{◌≡◌, refl, sym, ap, ◌∙◌}
use mathlib.Core.Bool.{true}
use mathlib.Core.List.{List, [], ◌∷◌}
use Prim.Native.Nat.{ℕ, suc, ◌+◌, ◌-◌, ◌*◌, ◌/◌, ◌≤◌, ◌<◌}
use native.Mathlib.Omega.{arith}
use lib.ListN.{length, get_or, drop}
use lib.Dec.{eqb, ltb}
use borrow.Author.Tests.{eqb-true, eqb-false, ltb-true, ltb-false}
use lib.ListN.{get_or-append}
use lib.Seq.{drop-drop}
use Rattle.std.proofs.Common.{length-drop, length-append, get_or-drop, ◌++◌}
use Rattle.std.proofs.Math.Seq.{drop-append_seam}
use Rattle.lr1_base.specs.repr.Sizes.{record_limit, nonterminal_limit, terminal_limit}
use Rattle.lr1_base.specs.repr.Meaning.{Table, Production}
use Rattle.lr1_base.specs.repr.Listed.{symbol_of_kind, listed, list_is_fit}
use Rattle.lr1_base.specs.repr.Packed.{symbol_words}
use Rattle.lr1_base.proofs.repr.Lists.{cases, length_mapped}
use Rattle.lr1_base.proofs.repr.Listed.{fits_head, listed-none, listed-step, symbol_range}
use Rattle.table.specs.Quads.{Quad, no_quad, put_quad}
use Rattle.table_rewrite.specs.spelling.Spelled.{head_of, chain_from, place_of, symbol_lists, symbol_quad, quads, symbols_at, items_place, records_of}
use Rattle.table_rewrite.specs.spelling.Grown.{Grown, Room, Stands}
use Rattle.table_rewrite.proofs.spelling.Laid.{stands_front, stands_back, length_chain_from}
use Rattle.table_rewrite.proofs.spelling.Places.{begins, regions, symbol_list, symbols_stand, spell_next, spell_one, spell_two, spell_three}
use Rattle.table_rewrite.proofs.spelling.Grown.{grown-none, grown-join, grown-put, head-none, head-some, place-start, place-next}
use Rattle.table_rewrite.proofs.spelling.Writing.{room_same}
use Rattle.table_rewrite.specs.grammar_records.Target.{PackedAs}
use Rattle.table_rewrite.proofs.grammar_records.Packed.{row_of, many_of, packed-inside, place_end}
use Rattle.table_rewrite.proofs.spelling.Sources.{kind-back, number-back}

-- chunk k of two words, where the chunks from it on are left
module _ (ws x r : List ℕ) (k : ℕ) (e : drop (2 * k) ws ≡ x ++ r) (two : length x ≡ 2) where
  pub chunk_inside : 2 * k + 2 ≤ length ws
  chunk_inside = omega (arith, length-drop (2 * k) ws, ap length e, length-append x r)

  pub chunk_word : (j : ℕ) → j < 2 → get_or x j 0 ≡ get_or ws (2 * k + j) 0
  chunk_word j h = sym (get_or-append x r 0 j (omega arith)) ∙ ap (λ (l : List ℕ). get_or l j 0) (sym e) ∙ get_or-drop (2 * k) ws j 0

  pub chunk_rest : drop (2 * (k + 1)) ws ≡ r
  chunk_rest =
      let y : 2 * (k + 1) ≡ 2 * k + 2 = omega arith in
      rw y (sym (drop-drop 2 (2 * k) ws) ∙ ap (drop 2) e ∙ rw two at (drop-append_seam x r))

-- the words before i are written, the others are left
pub record Chain (ws : List ℕ) (begin at i : ℕ) : Type 0 where
  pub fits : list_is_fit nonterminal_limit terminal_limit (drop i ws) ≡ true
  pub left : at + length (listed (drop i ws)) ≡ begin + length (listed ws)

pub record Written (U : Table) (ws g₀ g : List ℕ) (begin at i : ℕ) : Type 0 where
  pub grown : Grown U g₀ g begin at
  pub stands : Stands (quads U) at (chain_from symbol_quad at (listed (drop i ws)))
  pub room : Room U g

module _ (ws : List ℕ) (begin : ℕ) where
  pub chain-start : list_is_fit nonterminal_limit terminal_limit ws ≡ true → Chain ws begin begin 0
  chain-start f = record { fits = f; left = refl }

  pub written_start : (U : Table) (g : List ℕ) → Stands (quads U) begin (chain_from symbol_quad begin (listed ws)) → Room U g → Written U ws g g begin begin 0
  written_start U g S R = record { grown = grown-none U g begin; stands = S; room = R }

  module _ (at i : ℕ) (h : i < length ws) (C : Chain ws begin at i) where
    pub chain-whole : i + 1 < length ws
    chain-whole = (fits_head nonterminal_limit terminal_limit ws i h C.fits).0

    more : listed (drop i ws) ≡ symbol_of_kind (get_or ws i 0) (get_or ws (i + 1) 0) ∷ listed (drop (i + 2) ws)
    more = listed-step ws i chain-whole

    pub chain-step : Chain ws begin (at + 1) (i + 2)
    chain-step = let l = ap length more in record { fits = (fits_head nonterminal_limit terminal_limit ws i h C.fits).1.1; left = omega (arith, C.left) }

    -- whether one follows, counted in symbols
    pub chain-next : (k next : ℕ) → i ≡ 2 * k → (length ws / 2 - k - 1 ≡ 0 → next ≡ 0) × ((length ws / 2 - k - 1 ≡ 0 → ⊥) → next ≡ at + 1)
        → (length ws - (i + 2) ≡ 0 → next ≡ 0) × ((length ws - (i + 2) ≡ 0 → ⊥) → next ≡ at + 1)
    chain-next k next e f =
        (λ z. f.0 (omega arith), λ z. f.1 (λ q. let w = (fits_head nonterminal_limit terminal_limit ws (i + 2) (omega (arith, z)) chain-step.fits).0 in omega (arith, w, q)))

    module _ (next : ℕ) (f : (length ws - (i + 2) ≡ 0 → next ≡ 0) × ((length ws - (i + 2) ≡ 0 → ⊥) → next ≡ at + 1)) where
      follower : next ≡ head_of (suc at) (listed (drop (i + 2) ws))
      follower =
          cases (eqb (length ws - (i + 2)) 0)
          (λ q. let z = eqb-true (length ws - (i + 2)) 0 q in f.0 z ∙ sym (head-none (suc at) (listed (drop (i + 2) ws)) (listed-none ws (i + 2) (omega arith))))
          (λ q.
          let z = eqb-false (length ws - (i + 2)) 0 q in
          let y : at + 1 ≡ suc at = omega arith in
          let w = (fits_head nonterminal_limit terminal_limit ws (i + 2) (omega arith) chain-step.fits).0 in
          f.1 z ∙ y ∙ sym (head-some (suc at) _ (listed (drop (i + 2) ws)) _ (listed-step ws (i + 2) w)))

    module _ (U : Table) (g₀ g : List ℕ) (W : Written U ws g₀ g begin at i) where
      pub written-room : (at < record_limit) × (at * 4 + 3 < length g)
      written-room =
          let l = ap length more in
          let m = length_chain_from symbol_quad at (listed (drop i ws)) in
          let k : at < records_of U = omega (arith, W.stands.within, (regions U).long) in
          (omega (arith, W.room.few), omega (arith, W.room.long))

      here : (get_or (quads U) at no_quad ≡ symbol_quad (head_of (suc at) (listed (drop (i + 2) ws))) (symbol_of_kind (get_or ws i 0) (get_or ws (i + 1) 0)))
          × Stands (quads U) (at + 1) (chain_from symbol_quad (at + 1) (listed (drop (i + 2) ws)))
      unfolding chain_from
      here =
          let S = rw more at W.stands in
          let q : Quad = symbol_quad (head_of (suc at) (listed (drop (i + 2) ws))) (symbol_of_kind (get_or ws i 0) (get_or ws (i + 1) 0)) in
          let rest = chain_from symbol_quad (suc at) (listed (drop (i + 2) ws)) in
          let z : at + 0 ≡ at = omega arith in
          let y : suc at ≡ at + 1 = omega arith in
          (rw z at ((stands_front (quads U) at (q ∷ []) rest S).at 0 (omega arith)), rw y at (stands_back (quads U) at (q ∷ []) rest S))

      pub written_step : (g' : List ℕ) (next kind number : ℕ) → (length ws - (i + 2) ≡ 0 → next ≡ 0) × ((length ws - (i + 2) ≡ 0 → ⊥) → next ≡ at + 1)
          → kind ≡ get_or ws i 0 → number ≡ get_or ws (i + 1) 0 → g' ≡ put_quad g at next kind number 0 → Written U ws g₀ g' begin (at + 1) (i + 2)
      written_step g' next kind number f ek en eg =
          let r = (symbol_range nonterminal_limit terminal_limit (get_or ws i 0) (get_or ws (i + 1) 0) (fits_head nonterminal_limit terminal_limit ws i h C.fits).1.0).0 in
          let G : Grown U g g' at (at + 1) =
          rw eg (grown-put U g at next kind number 0 written-room.1
          (follower next f ∙ sym (spell_next U at _ here.0)) (ek ∙ sym (kind-back (get_or ws i 0) (get_or ws (i + 1) 0) r) ∙ sym (spell_one U at _ here.0))
          (en ∙ sym (number-back (get_or ws i 0) (get_or ws (i + 1) 0)) ∙ sym (spell_two U at _ here.0)) (sym (spell_three U at _ here.0))) in
          record { grown = grown-join U g₀ g g' begin at (at + 1) W.grown G; stands = here.1; room = room_same U g g' G.long W.room }

  pub chain_room : (U : Table) (g : List ℕ) → Stands (quads U) begin (chain_from symbol_quad begin (listed ws)) → Room U g → begin + length (listed ws) ≤ record_limit
  chain_room U g S R = let m = length_chain_from symbol_quad begin (listed ws) in omega (arith, S.within, (regions U).long, R.few)

  pub chain_past : (at k : ℕ) → length ws / 2 ≤ k → Chain ws begin at (2 * k) → length ws ≤ 2 * k
  chain_past at k h C = cases (ltb (2 * k) (length ws))
      (λ t. let w = chain-whole at (2 * k) (ltb-true (2 * k) (length ws) t) C in absurd (omega (arith, w)))
      (λ t. ltb-false (2 * k) (length ws) t)

  pub chain_end : (at i : ℕ) → length ws ≤ i → Chain ws begin at i → at ≡ begin + length (listed ws)
  chain_end at i h C = let l = ap length (listed-none ws i h) in omega (arith, C.left)

-- the symbols of the productions before p are written
pub record Walk (U : Table) (g₀ g : List ℕ) (at p : ℕ) : Type 0 where
  pub place : at ≡ place_of (symbols_at U) (symbol_lists U) p
  pub grown : Grown U g₀ g (symbols_at U) at
  pub room : Room U g

module _ (U : Table) (grammar : List ℕ) (n : ℕ) (P : PackedAs U grammar n) where
  pub walk_start : (g : List ℕ) (begin : ℕ) → begin ≡ symbols_at U → Room U g → Walk U g g begin 0
  walk_start g begin e R = record { place = e ∙ sym (place-start (symbols_at U) (symbol_lists U)); grown = rw e (grown-none U g (symbols_at U)); room = R }

  module _ (g₀ g ws : List ℕ) (at p : ℕ) (h : p < n) (ew : ws ≡ symbol_words grammar p) (W : Walk U g₀ g at p) where
    inside : p < length U.productions
    inside = packed-inside U grammar n p P h

    pub walk-fits : list_is_fit nonterminal_limit terminal_limit ws ≡ true
    walk-fits = rw ew (P.packed.fits p h)

    pub walk_stands : Stands (quads U) at (chain_from symbol_quad at (listed ws))
    walk_stands = rw (W.place, ew, ← (row_of U grammar n p P h).symbols) (symbols_stand U p inside)

    pub walk_step : (g' : List ℕ) (next : ℕ) → next ≡ at + length (listed ws) → Grown U g g' at next → Walk U g₀ g' next (p + 1)
    walk_step g' next e G =
        let x = place-next (symbols_at U) (symbol_lists U) p (omega (arith, inside, length_mapped (λ (q : Production). q.symbols) U.productions)) in
        let l = ap length (symbol_list U p inside) in
        let m = ap length (row_of U grammar n p P h).symbols in
        let v = ap (λ (k : List ℕ). length (listed k)) ew in
        let y : suc p ≡ p + 1 = omega arith in
        record {
          place = (let k : next ≡ place_of (symbols_at U) (symbol_lists U) (suc p) = omega (arith, W.place) in k) ∙ ap (place_of (symbols_at U) (symbol_lists U)) y;
          grown = grown-join U g₀ g g' (symbols_at U) at next W.grown G;
          room = room_same U g g' G.long W.room;
        }

  pub walk_end : (g₀ g : List ℕ) (at p : ℕ) → p ≤ n → n ≤ p → Walk U g₀ g at p → Grown U g₀ g (symbols_at U) (items_place U)
  walk_end g₀ g at p a b W =
      let o = begins U in
      let l = length_mapped (λ (q : Production). q.symbols) U.productions ∙ many_of U grammar n P in
      let z : p ≡ length (symbol_lists U) = omega arith in
      let d : at ≡ items_place U = W.place ∙ ap (place_of (symbols_at U) (symbol_lists U)) z ∙ place_end (symbols_at U) (symbol_lists U) ∙ sym o.items in
      rw d at W.grown
