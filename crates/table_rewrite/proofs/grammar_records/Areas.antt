-- Laws of the writing of record 0, the nonterminals and the productions.
use mathlib.Core.Path.{◌≡◌, sym, ap, ◌∙◌}
use mathlib.Core.List.{List}
use Prim.Native.Nat.{ℕ, suc, ◌+◌, ◌*◌, ◌≤◌, ◌<◌}
use native.Mathlib.Omega.{arith}
use lib.ListN.{length, get_or}
use Rattle.lr1_base.specs.repr.Sizes.{record_limit, production_place}
use Rattle.lr1_base.specs.repr.Meaning.{Table, Production, production_at}
use Rattle.lr1_base.proofs.repr.Lists.{length_mapped}
use Rattle.table.specs.Quads.{put_quad}
use Rattle.table_rewrite.specs.spelling.Spelled.{head_of, place_of, symbol_lists, states_at, productions_at, symbols_at, next_owned_from, count_quad, nonterminal_quad, production_quad}
use Rattle.table_rewrite.specs.spelling.Grown.{Grown, Room}
use Rattle.table_rewrite.proofs.spelling.Places.{begins, count_at, nonterminal_at, production_at_lem, symbol_list, symbols-within, spell_next, spell_one, spell_two, spell_three}
use Rattle.table_rewrite.proofs.spelling.Grown.{grown-none, grown-join, grown-put, place-start, place-next}
use Rattle.table_rewrite.proofs.spelling.Areas.{head-is}
use Rattle.table_rewrite.proofs.spelling.Writing.{room_same}
use Rattle.table_rewrite.specs.grammar_records.Target.{Target, PackedAs}
use Rattle.table_rewrite.proofs.grammar_records.Packed.{Row, many_of}
use Rattle.table_rewrite.proofs.grammar_records.Owned.{owned_small}

-- the areas, by the counts
pub record AreasAt (U : Table) (n s p : ℕ) : Type 0 where
  pub begin : 1 + n + s ≡ productions_at U
  pub end : 1 + n + s + p ≡ symbols_at U
  pub few : 1 + n + s + p ≤ record_limit

pub areas_at : (U : Table) (n t s p : ℕ) (g grammar : List ℕ) → Target U n t s g → PackedAs U grammar p → AreasAt U n s p
areas_at U n t s p g grammar D P =
    let b = begins U in
    let m = many_of U grammar p P in
    record { begin = omega (arith, D.nonterminals, D.states); end = omega (arith, D.nonterminals, D.states); few = omega (arith, D.nonterminals, D.states, D.room.few) }

pub index_small : (U : Table) (n p r : ℕ) (g : List ℕ) → Room U g → r ≡ next_owned_from U n p → r < 65536
index_small U n p r g R e = let s = owned_small U n p in let b = begins U in omega (arith, R.few)

-- record 0 and the nonterminals
pub record Front (U : Table) (g₀ g : List ℕ) (n : ℕ) : Type 0 where
  pub few : n ≤ length U.nonterminals
  pub grown : Grown U g₀ g 0 (1 + n)
  pub room : Room U g

module _ (U : Table) where
  pub front-start : (g g' grammar : List ℕ) (n t s p : ℕ) → Target U n t s g → PackedAs U grammar p → g' ≡ put_quad g 0 n t s p → Front U g g' 0
  unfolding count_quad
  front-start g g' grammar n t s p D P eg =
      let b = begins U in
      let q = count_at U in
      let G : Grown U g g' 0 1 =
      rw eg (grown-put U g 0 n t s p (omega (arith, D.room.long))
      (D.nonterminals ∙ sym (spell_next U 0 (count_quad U) q)) (D.terminals ∙ sym (spell_one U 0 (count_quad U) q))
      (D.states ∙ sym (spell_two U 0 (count_quad U) q)) (sym (many_of U grammar p P) ∙ sym (spell_three U 0 (count_quad U) q))) in
      record { few = omega arith; grown = G; room = room_same U g g' G.long D.room }

  module _ (g₀ g : List ℕ) (n : ℕ) (h : n < length U.nonterminals) (W : Front U g₀ g n) where
    pub front-room : (1 + n < record_limit) × ((1 + n) * 4 + 3 < length g)
    front-room = let b = begins U in (omega (arith, W.room.few), omega (arith, W.room.long))

    pub front-step : (g' : List ℕ) (head : ℕ) → head ≡ next_owned_from U n 0 → g' ≡ put_quad g (1 + n) head 0 0 0 → Front U g₀ g' (n + 1)
    unfolding nonterminal_quad
    front-step g' head eh eg =
        let q = nonterminal_at U n h in
        let z : 1 + n + 1 ≡ 1 + (n + 1) = omega arith in
        let G : Grown U g g' (1 + n) (1 + n + 1) =
        rw eg (grown-put U g (1 + n) head 0 0 0 front-room.1
        (eh ∙ sym (spell_next U (1 + n) (nonterminal_quad U n) q)) (sym (spell_one U (1 + n) (nonterminal_quad U n) q))
        (sym (spell_two U (1 + n) (nonterminal_quad U n) q)) (sym (spell_three U (1 + n) (nonterminal_quad U n) q))) in
        record { few = omega arith; grown = rw z at (grown-join U g₀ g g' 0 (1 + n) (1 + n + 1) W.grown G); room = room_same U g g' G.long W.room }

  pub front_end : (g₀ g : List ℕ) (n : ℕ) → length U.nonterminals ≤ n → Front U g₀ g n → Grown U g₀ g 0 (states_at U)
  front_end g₀ g n h W = let b = begins U in let z : 1 + n ≡ states_at U = omega (arith, W.few) in rw z at W.grown

-- the productions, from record `to` on; their symbols from record y on
pub record Rows (U : Table) (g₀ g : List ℕ) (to y p : ℕ) : Type 0 where
  pub begin : to ≡ productions_at U
  pub few : p ≤ length U.productions
  pub symbols : y ≡ place_of (symbols_at U) (symbol_lists U) p
  pub grown : Grown U g₀ g (productions_at U) (productions_at U + p)
  pub room : Room U g

module _ (U : Table) where
  pub rows_start : (g : List ℕ) (to p : ℕ) → to ≡ productions_at U → to + p ≡ symbols_at U → Room U g → Rows U g g to (to + p) 0
  rows_start g to p A Y R =
      let z : productions_at U + 0 ≡ productions_at U = omega arith in
      record {
        begin = A;
        few = omega arith;
        symbols = Y ∙ sym (place-start (symbols_at U) (symbol_lists U));
        grown = rw z (grown-none U g (productions_at U));
        room = R;
      }

  module _ (g₀ g : List ℕ) (to y p : ℕ) (h : p < length U.productions) (W : Rows U g₀ g to y p) where
    pub rows_room : (to + p < record_limit) × ((to + p) * 4 + 3 < length g)
    rows_room = let b = begins U in (omega (arith, W.begin, W.room.few), omega (arith, W.begin, W.room.long))

    pub rows_head : y ≤ record_limit
    rows_head = let w = symbols-within U p h in omega (arith, W.symbols, w.before, W.room.few)

    pub rows_step : (g' grammar : List ℕ) (owner next c hy a z : ℕ) → Row grammar p (production_at U p) → owner ≡ get_or grammar (production_place p) 0 → next ≡ next_owned_from U owner (p + 1)
        → c ≡ get_or grammar (production_place p + 1) 0 → a ≡ get_or grammar (production_place p + 2) 0 → z ≡ get_or grammar (production_place p + 3) 0
        → (c ≡ 0 → hy ≡ 0) × ((c ≡ 0 → ⊥) → hy ≡ y) → g' ≡ put_quad g (to + p) next hy a z → Rows U g₀ g' to (y + c) (p + 1)
    unfolding production_quad
    rows_step g' grammar owner next c hy a z o eo eu ec ea ez qc eg =
        let b = begins U in
        let r : to + p ≡ productions_at U + p = omega (arith, W.begin) in
        let y' : p + 1 ≡ suc p = omega arith in
        let en = eu ∙ ap (λ (k : ℕ). next_owned_from U k (p + 1)) (eo ∙ o.owner) ∙ ap (next_owned_from U (production_at U p).nonterminal) y' in
        let q = production_at_lem U p h in
        let v : productions_at U + p + 1 ≡ productions_at U + (p + 1) = omega arith in
        let x : suc p ≡ p + 1 = omega arith in
        let wy : hy ≡ head_of (place_of (symbols_at U) (symbol_lists U) p) (production_at U p).symbols = head-is y (production_at U p).symbols c hy (ec ∙ o.many) qc ∙ ap (λ (k : ℕ). head_of k (production_at U p).symbols) W.symbols in
        let ny = place-next (symbols_at U) (symbol_lists U) p (omega (arith, length_mapped (λ (k : Production). k.symbols) U.productions)) in
        let ly = ap length (symbol_list U p h) in
        let G : Grown U g g' (productions_at U + p) (productions_at U + p + 1) =
        rw (eg, r) (grown-put U g (productions_at U + p) next hy a z (rw r at rows_room.1)
        (en ∙ sym (spell_next U (productions_at U + p) (production_quad U p) q)) (wy ∙ sym (spell_one U (productions_at U + p) (production_quad U p) q))
        (ea ∙ o.start ∙ sym (spell_two U (productions_at U + p) (production_quad U p) q)) (ez ∙ o.end ∙ sym (spell_three U (productions_at U + p) (production_quad U p) q))) in
        record {
          begin = W.begin;
          few = omega arith;
          symbols = (let k : y + c ≡ place_of (symbols_at U) (symbol_lists U) (suc p) = omega (arith, W.symbols, ec, o.many) in k) ∙ ap (place_of (symbols_at U) (symbol_lists U)) x;
          grown = rw v at (grown-join U g₀ g g' (productions_at U) (productions_at U + p) (productions_at U + p + 1) W.grown G);
          room = room_same U g g' G.long W.room;
        }

  pub rows_end : (g₀ g : List ℕ) (to y p : ℕ) → length U.productions ≤ p → Rows U g₀ g to y p → Grown U g₀ g (productions_at U) (symbols_at U)
  rows_end g₀ g to y p h W = let b = begins U in let z : productions_at U + p ≡ symbols_at U = omega (arith, W.few) in rw z at W.grown
