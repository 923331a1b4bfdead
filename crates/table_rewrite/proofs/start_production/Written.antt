-- Laws of the writing of a grammar alone.
use mathlib.Core.Path.{◌≡◌, refl, sym, ap, ◌∙◌}
use mathlib.Core.List.{List, [], ◌∷◌, map}
use Prim.Native.Nat.{ℕ, ◌+◌, ◌*◌, ◌/◌, ◌≤◌, ◌<◌}
use native.Mathlib.Omega.{arith}
use lib.ListN.{length, get_or}
use borrow.Author.Tests.{le-leb, lt-leb}
use Rattle.lr1_base.specs.repr.Reply.{refused}
use Rattle.lr1_base.specs.repr.Sizes.{symbol_limit}
use Rattle.lr1_base.specs.repr.Meaning.{State, Production, Table, All, ProductionFits, TableFits, no_state, state_at}
use Rattle.lr1_base.specs.repr.Packed.{productions_in}
use Rattle.table.specs.Quads.{no_quad, put_quad}
use Rattle.table_rewrite.specs.spelling.Spelled.{size_of, head_of, place_of, symbol_lists, item_lists, edge_lists, states_at, productions_at, symbols_at, items_place, edges_at, records_of, state_quad, quads}
use Rattle.table_rewrite.specs.spelling.Grown.{Grown, Room}
use Rattle.table_rewrite.proofs.spelling.Places.{begins, state_at_lem, spell_next, spell_one, spell_two, spell_three}
use Rattle.table_rewrite.proofs.spelling.Grown.{grown-join, grown-put, grown-all, head-none}
use Rattle.table_rewrite.proofs.spelling.Wrote.{front_is}
use Rattle.table_rewrite.specs.grammar_records.Target.{Target}
use Rattle.table_rewrite.specs.start_production.Started.{started_as, started_in, GrammarOf}

sizes_small : (U : Table) (ps : List Production) → All (ProductionFits U) ps → size_of (map (λ (p : Production). p.symbols) ps) ≤ symbol_limit * length ps
unfolding All size_of
sizes_small U [] A = omega arith
sizes_small U (p ∷ ps) A = let s = A.0.short in let i = sizes_small U ps A.1 in omega arith

-- one state, without items and edges
module _ (U : Table) (e : U.states ≡ no_state ∷ []) where
  no_items : size_of (item_lists U) ≡ 0
  unfolding size_of
  no_items = ap (λ (ss : List State). size_of (map (λ (s : State). s.items) ss)) e

  no_edges : size_of (edge_lists U) ≡ 0
  unfolding size_of
  no_edges = ap (λ (ss : List State). size_of (map (λ (s : State). s.edges) ss)) e

  items_head : (o : ℕ) → head_of o (state_at U 0).items ≡ 0
  items_head o = head-none o (state_at U 0).items (ap (λ (ss : List State). (get_or ss 0 no_state).items) e)

  edges_head : (o : ℕ) → head_of o (state_at U 0).edges ≡ 0
  edges_head o = head-none o (state_at U 0).edges (ap (λ (ss : List State). (get_or ss 0 no_state).edges) e)

  records_are : records_of U ≡ 2 + length U.nonterminals + length U.productions + size_of (symbol_lists U)
  records_are = let b = begins U in let o = ap length e in let i = no_items in let d = no_edges in omega arith

  pub few_records : TableFits U → records_of U ≤ 2210
  few_records F = let r = records_are in let z = sizes_small U U.productions F.productions in omega (arith, F.few_nonterminals, F.few_productions_lem)

module _ (U : Table) (n t s p : ℕ) (grammar : List ℕ) (G : GrammarOf U n t s p grammar) where
  -- where its records stand, and how many there are
  pub record Extent : Type 0 where
    pub states : 1 + n ≡ states_at U
    pub behind : 1 + n + 1 ≡ productions_at U
    pub symbols : 2 + n + p ≡ symbols_at U
    pub items : items_place U ≡ records_of U
    pub many : records_of U ≡ 2 + n + p + size_of (symbol_lists U)
    pub few : records_of U ≤ 2210

  pub extent : Extent
  extent =
      let b = begins U in
      let o = ap length G.alone in
      let i = no_items U G.alone in
      let d = no_edges U G.alone in
      let r = records_are U G.alone in
      record {
        states = omega (arith, G.counts.nonterminals);
        behind = omega (arith, G.counts.nonterminals);
        symbols = omega (arith, G.counts.nonterminals, G.counts.productions);
        items = omega arith;
        many = omega (arith, G.counts.nonterminals, G.counts.productions);
        few = few_records U G.alone G.counts.fits;
      }

  -- behind the productions, where they begin at record f
  module _ (f : ℕ) (e : f ≡ 1 + n + s) where
    pub counted_from : (c : ℕ) → f + p + c ≡ 2 + n + p + c
    counted_from c = let o = ap length G.alone in omega (arith, G.counts.states)

    pub behind_productions : f + p ≡ symbols_at U
    behind_productions = let o = ap length G.alone in omega (arith, G.counts.states, extent.symbols)

  module _ (c r : ℕ) (ec : c ≡ size_of (map (λ (k : Production). k.symbols) (productions_in grammar p))) (er : r ≡ 2 + n + p + c) where
    pub counted : r ≡ records_of U
    counted =
        let k = ap (λ (ps : List Production). size_of (map (λ (q : Production). q.symbols) ps)) G.packed.same in
        let m = extent.many in
        omega arith

    pub started_short : (production : ℕ) (out : List ℕ) → length out / 4 < r → record { answer = refused 17 0; out = out } ≡ started_in U production out
    unfolding started_in
    started_short production out h = let k = counted in rw (lt-leb (records_of U) (length out / 4) (omega arith), started_in)

    -- in words of length l
    module _ (l : ℕ) (h : r ≤ l / 4) (g : List ℕ) (e : length g ≡ l) where
      started_room : Room U g
      started_room = let k = counted in let f = extent.few in record { few = omega arith; long = omega arith }

      pub started_target : Target U n t s g
      started_target = record {
        nonterminals = G.counts.nonterminals;
        terminals = G.counts.terminals;
        small = let f = G.counts.fits.few_terminals in let k = G.counts.terminals in omega arith;
        states = G.counts.states;
        room = started_room;
      }

    module _ (out : List ℕ) (h : r ≤ length out / 4) where
      -- the state's record, of zeros
      state_room : (g : List ℕ) → length g ≡ length out → (1 + n) * 4 + 3 < length g
      state_room g e = let k = counted in let x = extent in omega (arith, x.many)

      state_put : (g g' : List ℕ) → length g ≡ length out → g' ≡ put_quad g (1 + n) 0 0 0 0 → Grown U g g' (states_at U) (productions_at U)
      unfolding state_quad
      state_put g g' e eg =
          let x = extent in
          let o = ap length G.alone in
          let a : states_at U + 0 ≡ 1 + n = omega (arith, x.states) in
          let q = ap (λ (k : ℕ). get_or (quads U) k no_quad) (sym a) ∙ state_at_lem U 0 (omega arith) in
          rw (← x.states, ← x.behind, eg)
          (grown-put U g (1 + n) 0 0 0 0 (state_room g e)
          (sym (items_head U G.alone (place_of (items_place U) (item_lists U) 0)) ∙ sym (spell_next U (1 + n) (state_quad U 0) q))
          (sym (edges_head U G.alone (place_of (edges_at U) (edge_lists U) 0)) ∙ sym (spell_one U (1 + n) (state_quad U 0) q))
          (sym (spell_two U (1 + n) (state_quad U 0) q)) (sym (spell_three U (1 + n) (state_quad U 0) q)))

      pub started_written : (production : ℕ) (g₁ g₂ g₃ g₄ : List ℕ) → length g₁ ≡ length out → Grown U out g₁ 0 (states_at U) → g₂ ≡ put_quad g₁ (1 + n) 0 0 0 0
          → Grown U g₂ g₃ (productions_at U) (symbols_at U) → Grown U g₃ g₄ (symbols_at U) (items_place U)
          → record { answer = started_as r (record { 0 = production }); out = g₄ } ≡ started_in U production out
      unfolding started_in
      started_written production g₁ g₂ g₃ g₄ e A eb C D =
          let B = state_put g₁ g₂ e eb in
          let W = grown-join U out g₃ g₄ 0 (symbols_at U) (items_place U) (grown-join U out g₂ g₃ 0 (productions_at U) (symbols_at U) (grown-join U out g₁ g₂ 0 (states_at U) (productions_at U) A B) C) D in
          let k = counted in
          rw (k, grown-all U out g₄ (started_room (length out) h out refl) (rw extent.items at W) ∙ sym (front_is U out), le-leb (records_of U) (length out / 4) (omega arith), started_in)
