-- Laws of the writing of record 0 and the areas.
use mathlib.Core.Path.{◌≡◌, sym, ap, ◌∙◌}
use mathlib.Core.List.{List, [], ◌∷◌, map}
use Prim.Native.Nat.{ℕ, suc, ◌+◌, ◌*◌, ◌≤◌, ◌<◌, min}
use native.Mathlib.Omega.{arith}
use lib.ListN.{length}
use lib.Dec.{eqb}
use borrow.Author.Tests.{eqb-true, eqb-false}
use Rattle.lr1_base.specs.repr.Sizes.{record_limit}
use Rattle.lr1_base.specs.repr.Meaning.{Table, Production, State, state_at, production_at}
use Rattle.lr1_base.proofs.repr.Lists.{cases, length_mapped}
use Rattle.table.specs.Checked.{Accepted}
use Rattle.table.specs.Words.{word_at, nonterminals, productions, production_area}
use Rattle.table.specs.Decoded.{symbol_at, item_at, edge_at, meaning, production_of, items_from, edges_from}
use Rattle.table.specs.Refusals.{check_of}
use Rattle.table.specs.Index.{CountsOf}
use Rattle.table.specs.Written.{symbols_from, SymbolIndex}
use Rattle.table.proofs.Accepted.{accepts, areas_of, rows_first}
use Rattle.table_check.specs.Marks.{Sized}
use Rattle.table.proofs.Decoding.{many_nonterminals, many_states, many_productions, production_at_lem}
use Rattle.table.proofs.Indexes.{counts, inside, Asked}
use Rattle.table_check.specs.Known.{AreasOf}
use Rattle.table_check.specs.declared.areas.Areas.{Areas}
use Rattle.table.proofs.Written.{first-symbol_is}
use Rattle.table.specs.Quads.{put_quad}
use Rattle.table_rewrite.specs.spelling.Spelled.{head_of, place_of, symbol_lists, item_lists, edge_lists, states_at, productions_at, symbols_at, items_place, edges_at, count_quad, nonterminal_quad, state_quad, production_quad}
use Rattle.table_rewrite.specs.spelling.Grown.{Grown, Room, records_from}
use Rattle.table_rewrite.proofs.spelling.Places.{begins, count_at, nonterminal_at, state_at_lem, item_list, edge_list, symbol_list, items_within, edges_within, symbols-within, spell_next, spell_one, spell_two, spell_three, production_at_lem as production-quad}
use Rattle.table_rewrite.proofs.spelling.Copied.{nonterminal_copied, production_copied, same_productions}
use Rattle.table_rewrite.proofs.spelling.Grown.{grown-none, grown-join, grown-put, place-start, place-next}
use Rattle.table_rewrite.proofs.spelling.Writing.{room_same}

-- the head of a chain by its length
pub head-is {ℓ} : {A : Type ℓ} (o : ℕ) (xs : List A) (count r : ℕ) → count ≡ length xs → (count ≡ 0 → r ≡ 0) × ((count ≡ 0 → ⊥) → r ≡ o) → r ≡ head_of o xs
unfolding head_of
head-is o [] count r e h = h.0 e
head-is o (x ∷ xs) count r e h = h.1 (λ z. omega arith)

pub head_small : (o count r : ℕ) → o ≤ record_limit → (count ≡ 0 → r ≡ 0) × ((count ≡ 0 → ⊥) → r ≡ o) → r < 65536
head_small o count r l h =
    cases (eqb count 0)
    (λ q. let z = h.0 (eqb-true count 0 q) in omega arith)
    (λ q. let z = h.1 (eqb-false count 0 q) in omega arith)

-- a chain that has at most 8,192 records is counted whole
counted-whole {ℓ} : {A : Type ℓ} (t : List ℕ) (g : ℕ → A) (xs : List A) (from count : ℕ) → map g (records_from t from) ≡ xs → length xs ≤ record_limit → count ≡ min (length (records_from t from)) record_limit
    → (count ≡ length xs) × (count ≤ record_limit)
counted-whole t g xs from count e h ec =
    let l = length_mapped g (records_from t from) in
    let m = ap length e in
    (omega arith, omega arith)

pub inside_is : (i n m : ℕ) → i < n → n ≡ m → i < m
inside_is i n m h e = omega arith

pub sized : (t : List ℕ) → check_of t ≡ Accepted → Sized t
sized t e = let r = rows_first t e in record { words = r.0; counts = r.1 }

-- the areas of the table are those of its spelling, and its counts are what it means
pub record Spelled (t : List ℕ) (a : Areas) : Type 0 where
  pub counts : CountsOf (meaning t) a.counts.nonterminals a.counts.terminals a.counts.states a.counts.productions
  pub states : a.states_at ≡ states_at (meaning t)
  pub productions : a.productions_at ≡ productions_at (meaning t)
  pub symbols : a.loose_at ≡ symbols_at (meaning t)

pub spelled : (t : List ℕ) (a : Areas) → check_of t ≡ Accepted → AreasOf t a → Spelled t a
spelled t a e A =
    let C = counts t e a.counts.nonterminals a.counts.terminals a.counts.states a.counts.productions A.nonterminals A.terminals A.states A.productions in
    let b = begins (meaning t) in
    record {
      counts = C;
      states = omega (arith, C.nonterminals, A.states_at, (areas_of t).state_area_lem, A.nonterminals);
      productions = omega (arith, C.nonterminals, C.states, A.productions_is, A.states_at, (areas_of t).state_area_lem, A.nonterminals);
      symbols = omega (arith, C.nonterminals, C.states, C.productions, A.loose_is, A.productions_is, A.states_at, (areas_of t).state_area_lem, A.nonterminals);
    }

-- record 0
pub counts-put : (T : Table) (g g' : List ℕ) (n u s p : ℕ) → CountsOf T n u s p → Room T g → g' ≡ put_quad g 0 n u s p → Grown T g g' 0 1
unfolding count_quad
counts-put T g g' n u s p C R eg =
    let b = begins T in
    let q = count_at T in
    rw eg (grown-put T g 0 n u s p (omega (arith, R.long))
    (C.nonterminals ∙ sym (spell_next T 0 (count_quad T) q)) (C.terminals ∙ sym (spell_one T 0 (count_quad T) q))
    (C.states ∙ sym (spell_two T 0 (count_quad T) q)) (C.productions ∙ sym (spell_three T 0 (count_quad T) q)))

-- nonterminals
pub record Nonterminals (t g₀ g : List ℕ) (n : ℕ) : Type 0 where
  pub few : n ≤ length (meaning t).nonterminals
  pub grown : Grown (meaning t) g₀ g 1 (1 + n)
  pub room : Room (meaning t) g

module _ (t : List ℕ) (e : check_of t ≡ Accepted) where
  pub nonterminals-start : (g : List ℕ) → Room (meaning t) g → Nonterminals t g g 0
  nonterminals-start g R = record { few = omega arith; grown = grown-none (meaning t) g 1; room = R }

  module _ (g₀ g : List ℕ) (n : ℕ) (h : n < length (meaning t).nonterminals) (W : Nonterminals t g₀ g n) where
    pub nonterminals-room : (1 + n < record_limit) × ((1 + n) * 4 + 3 < length g)
    nonterminals-room = let b = begins (meaning t) in (omega (arith, W.room.few), omega (arith, W.room.long))

    pub nonterminals-step : (g' : List ℕ) (head : ℕ) → head ≡ word_at t (1 + n) 0 → g' ≡ put_quad g (1 + n) head 0 0 0 → Nonterminals t g₀ g' (n + 1)
    unfolding nonterminal_quad
    nonterminals-step g' head eh eg =
        let T = meaning t in
        let l : n < nonterminals t = rw (many_nonterminals t) at h in
        let q = nonterminal_at T n h in
        let z : 1 + n + 1 ≡ 1 + (n + 1) = omega arith in
        let G : Grown T g g' (1 + n) (1 + n + 1) =
        rw eg (grown-put T g (1 + n) head 0 0 0 nonterminals-room.1
        (eh ∙ nonterminal_copied t e n l ∙ sym (spell_next T (1 + n) (nonterminal_quad T n) q)) (sym (spell_one T (1 + n) (nonterminal_quad T n) q))
        (sym (spell_two T (1 + n) (nonterminal_quad T n) q)) (sym (spell_three T (1 + n) (nonterminal_quad T n) q))) in
        record { few = omega arith; grown = rw z at (grown-join T g₀ g g' 1 (1 + n) (1 + n + 1) W.grown G); room = room_same T g g' G.long W.room }

  pub nonterminals_end : (g₀ g : List ℕ) (n : ℕ) → length (meaning t).nonterminals ≤ n → Nonterminals t g₀ g n → Grown (meaning t) g₀ g 1 (states_at (meaning t))
  nonterminals_end g₀ g n h W = let b = begins (meaning t) in let z : 1 + n ≡ states_at (meaning t) = omega (arith, W.few) in rw z at W.grown

-- states
pub record States (t g₀ g : List ℕ) (s i d : ℕ) : Type 0 where
  pub few : s ≤ length (meaning t).states
  pub items : i ≡ place_of (items_place (meaning t)) (item_lists (meaning t)) s
  pub edges : d ≡ place_of (edges_at (meaning t)) (edge_lists (meaning t)) s
  pub grown : Grown (meaning t) g₀ g (states_at (meaning t)) (states_at (meaning t) + s)
  pub room : Room (meaning t) g

module _ (t : List ℕ) where
  pub states-start : (g : List ℕ) (i d : ℕ) → i ≡ items_place (meaning t) → d ≡ edges_at (meaning t) → Room (meaning t) g → States t g g 0 i d
  states-start g i d ei ed R =
      let z : states_at (meaning t) + 0 ≡ states_at (meaning t) = omega arith in
      record {
        few = omega arith;
        items = ei ∙ sym (place-start (items_place (meaning t)) (item_lists (meaning t)));
        edges = ed ∙ sym (place-start (edges_at (meaning t)) (edge_lists (meaning t)));
        grown = rw z (grown-none (meaning t) g (states_at (meaning t)));
        room = R;
      }

  module _ (g₀ g : List ℕ) (s i d : ℕ) (h : s < length (meaning t).states) (W : States t g₀ g s i d) where
    pub states-room : (o : ℕ) → o ≡ states_at (meaning t) → (o + s < record_limit) × ((o + s) * 4 + 3 < length g)
    states-room o eo = let b = begins (meaning t) in (omega (arith, W.room.few), omega (arith, W.room.long))

    pub states_heads : (i ≤ record_limit) × (d ≤ record_limit)
    states_heads =
        let w = items_within (meaning t) s h in
        let v = edges_within (meaning t) s h in
        (omega (arith, W.items, w.before, W.room.few), omega (arith, W.edges, v.before, W.room.few))

    pub states_items : (from count : ℕ) → items_from t from ≡ (state_at (meaning t) s).items → count ≡ min (length (records_from t from)) record_limit
        → (count ≡ length (state_at (meaning t) s).items) × (count ≤ record_limit)
    unfolding items_from records_from
    states_items from count e ec = counted-whole t (item_at t) (state_at (meaning t) s).items from count e (omega (arith, (items_within (meaning t) s h).before, W.room.few)) ec

    pub states_edges : (from count : ℕ) → edges_from t from ≡ (state_at (meaning t) s).edges → count ≡ min (length (records_from t from)) record_limit
        → (count ≡ length (state_at (meaning t) s).edges) × (count ≤ record_limit)
    unfolding edges_from records_from
    states_edges from count e ec = counted-whole t (edge_at t) (state_at (meaning t) s).edges from count e (omega (arith, (edges_within (meaning t) s h).before, W.room.few)) ec

    pub states-step : (g' : List ℕ) (o ci ce hi he : ℕ) → o ≡ states_at (meaning t)
        → (ci ≡ length (state_at (meaning t) s).items) × (ci ≤ record_limit) → (ce ≡ length (state_at (meaning t) s).edges) × (ce ≤ record_limit)
        → (ci ≡ 0 → hi ≡ 0) × ((ci ≡ 0 → ⊥) → hi ≡ i) → (ce ≡ 0 → he ≡ 0) × ((ce ≡ 0 → ⊥) → he ≡ d)
        → g' ≡ put_quad g (o + s) hi he 0 0 → States t g₀ g' (s + 1) (i + ci) (d + ce)
    unfolding state_quad
    states-step g' o ci ce hi he eo pi pe qi qe eg =
        let T = meaning t in
        let b = begins T in
        let r : o + s ≡ states_at T + s = omega arith in
        let q = state_at_lem T s h in
        let z : states_at T + s + 1 ≡ states_at T + (s + 1) = omega arith in
        let y : suc s ≡ s + 1 = omega arith in
        let wi : hi ≡ head_of (place_of (items_place T) (item_lists T) s) (state_at T s).items = head-is i (state_at T s).items ci hi pi.0 qi ∙ ap (λ (o : ℕ). head_of o (state_at T s).items) W.items in
        let we : he ≡ head_of (place_of (edges_at T) (edge_lists T) s) (state_at T s).edges = head-is d (state_at T s).edges ce he pe.0 qe ∙ ap (λ (o : ℕ). head_of o (state_at T s).edges) W.edges in
        let ni = place-next (items_place T) (item_lists T) s (omega (arith, length_mapped (λ (q : State). q.items) T.states)) in
        let ne = place-next (edges_at T) (edge_lists T) s (omega (arith, length_mapped (λ (q : State). q.edges) T.states)) in
        let li = ap length (item_list T s h) in
        let le = ap length (edge_list T s h) in
        let room = states-room o eo in
        let G : Grown T g g' (states_at T + s) (states_at T + s + 1) =
        rw (eg, r) (grown-put T g (states_at T + s) hi he 0 0 (rw r at room.1)
        (wi ∙ sym (spell_next T (states_at T + s) (state_quad T s) q)) (we ∙ sym (spell_one T (states_at T + s) (state_quad T s) q))
        (sym (spell_two T (states_at T + s) (state_quad T s) q)) (sym (spell_three T (states_at T + s) (state_quad T s) q))) in
        record {
          few = omega arith;
          items = (let k : i + ci ≡ place_of (items_place (meaning t)) (item_lists (meaning t)) (suc s) = omega (arith, W.items, pi.0) in k) ∙ ap (place_of (items_place (meaning t)) (item_lists (meaning t))) y;
          edges = (let k : d + ce ≡ place_of (edges_at (meaning t)) (edge_lists (meaning t)) (suc s) = omega (arith, W.edges, pe.0) in k) ∙ ap (place_of (edges_at (meaning t)) (edge_lists (meaning t))) y;
          grown = rw z at (grown-join T g₀ g g' (states_at T) (states_at T + s) (states_at T + s + 1) W.grown G);
          room = room_same T g g' G.long W.room;
        }

  pub states_end : (g₀ g : List ℕ) (s i d : ℕ) → length (meaning t).states ≤ s → States t g₀ g s i d → Grown (meaning t) g₀ g (states_at (meaning t)) (productions_at (meaning t))
  states_end g₀ g s i d h W = let b = begins (meaning t) in let z : states_at (meaning t) + s ≡ productions_at (meaning t) = omega (arith, W.few) in rw z at W.grown

-- productions
pub record Productions (t g₀ g : List ℕ) (p y : ℕ) : Type 0 where
  pub few : p ≤ length (meaning t).productions
  pub symbols : y ≡ place_of (symbols_at (meaning t)) (symbol_lists (meaning t)) p
  pub grown : Grown (meaning t) g₀ g (productions_at (meaning t)) (productions_at (meaning t) + p)
  pub room : Room (meaning t) g

module _ (t : List ℕ) (e : check_of t ≡ Accepted) where
  pub productions-start : (g : List ℕ) (y : ℕ) → y ≡ symbols_at (meaning t) → Room (meaning t) g → Productions t g g 0 y
  productions-start g y ey R =
      let z : productions_at (meaning t) + 0 ≡ productions_at (meaning t) = omega arith in
      record {
        few = omega arith;
        symbols = ey ∙ sym (place-start (symbols_at (meaning t)) (symbol_lists (meaning t)));
        grown = rw z (grown-none (meaning t) g (productions_at (meaning t)));
        room = R;
      }

  -- its record may be read
  pub productions-asked : (o p k : ℕ) → o ≡ productions_at (meaning t) → p < length (meaning t).productions → k < 4 → Asked t (o + p) k
  productions-asked o p k eo h l =
      let A = accepts t e in
      let a = areas_of t in
      let b = begins (meaning t) in
      inside t A (o + p) k (omega (arith, many_nonterminals t, many_states t, many_productions t, A.areas)) l

  module _ (g₀ g : List ℕ) (p y : ℕ) (h : p < length (meaning t).productions) (W : Productions t g₀ g p y) where
    pub productions-room : (o : ℕ) → o ≡ productions_at (meaning t) → (o + p < record_limit) × ((o + p) * 4 + 3 < length g)
    productions-room o eo = let b = begins (meaning t) in (omega (arith, W.room.few), omega (arith, W.room.long))

    pub productions-head : y ≤ record_limit
    productions-head = let w = symbols-within (meaning t) p h in omega (arith, W.symbols, w.before, W.room.few)

    -- the head of its symbols, and how many they are
    pub productions-first : (o from : ℕ) → o ≡ productions_at (meaning t) → from ≡ word_at t (o + p) 1
        → (symbols_from t from ≡ (production_at (meaning t) p).symbols) × SymbolIndex t from
    productions-first o from eo ef = first-symbol_is t e p (o + p) from (omega (arith, eo, same_productions t)) h ef

    pub productions-symbols : (from count : ℕ) → symbols_from t from ≡ (production_at (meaning t) p).symbols → count ≡ min (length (records_from t from)) record_limit
        → (count ≡ length (production_at (meaning t) p).symbols) × (count ≤ record_limit)
    unfolding symbols_from records_from
    productions-symbols from count q ec = counted-whole t (symbol_at t) (production_at (meaning t) p).symbols from count q (omega (arith, (symbols-within (meaning t) p h).before, W.room.few)) ec

    pub productions-step : (g' : List ℕ) (o next c hy a z : ℕ) → o ≡ productions_at (meaning t)
        → next ≡ word_at t (o + p) 0 → a ≡ word_at t (o + p) 2 → z ≡ word_at t (o + p) 3
        → (c ≡ length (production_at (meaning t) p).symbols) × (c ≤ record_limit) → (c ≡ 0 → hy ≡ 0) × ((c ≡ 0 → ⊥) → hy ≡ y)
        → g' ≡ put_quad g (o + p) next hy a z → Productions t g₀ g' (p + 1) (y + c)
    unfolding production_quad production_of
    productions-step g' o next c hy a z eo ew ea ez pc qc eg =
        let T = meaning t in
        let b = begins T in
        let l : p < productions t = rw (many_productions t) at h in
        let r : o + p ≡ productions_at T + p = omega arith in
        let ar : o + p ≡ production_area t + p = omega (arith, same_productions t) in
        let q = production-quad T p h in
        let v : productions_at T + p + 1 ≡ productions_at T + (p + 1) = omega arith in
        let x : suc p ≡ p + 1 = omega arith in
        let wy : hy ≡ head_of (place_of (symbols_at T) (symbol_lists T) p) (production_at T p).symbols = head-is y (production_at T p).symbols c hy pc.0 qc ∙ ap (λ (o : ℕ). head_of o (production_at T p).symbols) W.symbols in
        let nx = ew ∙ ap (λ (k : ℕ). word_at t k 0) ar ∙ production_copied t e p l in
        let st : a ≡ (production_at T p).start = ea ∙ ap (λ (k : ℕ). word_at t k 2) ar ∙ sym (ap (λ (k : Production). k.start) (production_at_lem t p l)) in
        let nd : z ≡ (production_at T p).end = ez ∙ ap (λ (k : ℕ). word_at t k 3) ar ∙ sym (ap (λ (k : Production). k.end) (production_at_lem t p l)) in
        let ny = place-next (symbols_at T) (symbol_lists T) p (omega (arith, length_mapped (λ (q : Production). q.symbols) T.productions)) in
        let ly = ap length (symbol_list T p h) in
        let room = productions-room o eo in
        let G : Grown T g g' (productions_at T + p) (productions_at T + p + 1) =
        rw (eg, r) (grown-put T g (productions_at T + p) next hy a z (rw r at room.1)
        (nx ∙ sym (spell_next T (productions_at T + p) (production_quad T p) q)) (wy ∙ sym (spell_one T (productions_at T + p) (production_quad T p) q))
        (st ∙ sym (spell_two T (productions_at T + p) (production_quad T p) q)) (nd ∙ sym (spell_three T (productions_at T + p) (production_quad T p) q))) in
        record {
          few = omega arith;
          symbols = (let k : y + c ≡ place_of (symbols_at (meaning t)) (symbol_lists (meaning t)) (suc p) = omega (arith, W.symbols, pc.0) in k) ∙ ap (place_of (symbols_at (meaning t)) (symbol_lists (meaning t))) x;
          grown = rw v at (grown-join T g₀ g g' (productions_at T) (productions_at T + p) (productions_at T + p + 1) W.grown G);
          room = room_same T g g' G.long W.room;
        }

  pub productions_end : (g₀ g : List ℕ) (p y : ℕ) → length (meaning t).productions ≤ p → Productions t g₀ g p y → Grown (meaning t) g₀ g (productions_at (meaning t)) (symbols_at (meaning t))
  productions_end g₀ g p y h W = let b = begins (meaning t) in let z : productions_at (meaning t) + p ≡ symbols_at (meaning t) = omega (arith, W.few) in rw z at W.grown
