-- The meaning of an accepted table (specs/Decoded): its sizes and parts, each production in one nonterminal's list, every number in range.
use mathlib.Core.Path.{◌≡◌, refl, sym, ap, ◌∙◌}
use mathlib.Core.Bool.{true, false}
use mathlib.Core.List.{List, [], map}
use mathlib.Core.Logic.{◌↔◌}
use mathlib.Core.Option.{Option, none, some}
use Prim.Native.Nat.{ℕ, zero, suc, ◌+◌, ◌-◌, ◌≤◌, ◌<◌}
use native.Mathlib.Omega.{arith}
use lib.ListN.{length, get_or}
use borrow.Author.Tests.{ltb-true}
use Rattle.lr1_base.specs.repr.Lists.{below, mem, first?, joined}
use Rattle.lr1_base.specs.repr.Meaning.{Production, Table, no_production, no_state, production_at, state_at, SymbolFits, All, ProductionFits, ItemFits, EdgeFits, StateFits, TableFits}
use Rattle.lr1_base.specs.repr.Listed.{symbol_of_kind, symbol_is_fit}
use Rattle.lr1_base.proofs.repr.Lists.{cases, clash, length_mapped, length-map-below, get_d_map-below, mem_below, occurrences-none}
use Rattle.lr1_base.proofs.repr.Tests.{first?-below, first?-below-none, some?-below_witness, mem-joined}
use Rattle.table.specs.Checked.{Accepted}
use Rattle.table.specs.Words.{word_at, nonterminals, terminals, states, productions, production_area, loose, production_records}
use Rattle.table.specs.Decoded.{production_chain, symbol_chain, item_chain, edge_chain, symbol_at, item_at, edge_at, or_zero, owner_of, production_of, state_of, productions_of, meaning}
use Rattle.table.specs.Refusals.{as_symbol, as_item, as_edge, check_of}
use Rattle.table.proofs.ListLaws.{mem-map_in, mem-map-out, all_map, joined_only}
use Rattle.table.proofs.Chains.{chain_member}
use Rattle.table.proofs.Accepted.{Accepts, accepts, areas_of, production-once, production_short, symbol_range, edge_range, item_range, target_range}
use Rattle.table.proofs.Held.{symbol-inside, item-inside, edge_inside, symbol_of_lem, item_of, edge_of}

-- sizes and parts

module _ (t : List ℕ) where
  pub many_nonterminals : length (meaning t).nonterminals ≡ nonterminals t
  unfolding meaning
  many_nonterminals = length-map-below (productions_of t) (nonterminals t)

  pub many_terminals : (meaning t).terminals ≡ terminals t
  unfolding meaning
  many_terminals = refl

  pub many_states : length (meaning t).states ≡ states t
  unfolding meaning
  many_states = length-map-below (state_of t) (states t)

  pub many_productions : length (meaning t).productions ≡ productions t
  unfolding meaning
  many_productions = length-map-below (production_of t) (productions t)

  pub nonterminal_at : (n : ℕ) → n < nonterminals t → get_or (meaning t).nonterminals n [] ≡ productions_of t n
  unfolding meaning
  nonterminal_at n h = get_d_map-below (productions_of t) (nonterminals t) n [] h

  pub state_at_lem : (s : ℕ) → s < states t → state_at (meaning t) s ≡ state_of t s
  unfolding meaning
  state_at_lem s h = get_d_map-below (state_of t) (states t) s no_state h

  pub production_at_lem : (p : ℕ) → p < productions t → production_at (meaning t) p ≡ production_of t p
  unfolding meaning
  production_at_lem p h = get_d_map-below (production_of t) (productions t) p no_production h

  pub symbols_of_lem : (p : ℕ) → p < productions t → (production_at (meaning t) p).symbols ≡ map (symbol_at t) (symbol_chain t p)
  unfolding production_of
  symbols_of_lem p h = ap (λ (q : Production). q.symbols) (production_at_lem p h)

  pub length_symbols : (p : ℕ) → p < productions t → length (production_at (meaning t) p).symbols ≡ length (symbol_chain t p)
  length_symbols p h = ap length (symbols_of_lem p h) ∙ length_mapped (symbol_at t) (symbol_chain t p)

-- the members of a nonterminal's chain are productions
pub production_member : (t : List ℕ) (n r : ℕ) → mem r (production_chain t n) ≡ true → (production_area t ≤ r) × (r < loose t)
unfolding production_chain production_records
production_member t n r m = let k = chain_member t (production_records t) (1 + n) (word_at t (1 + n) 0) r m in (k.inside, k.early)

-- each production stands in one nonterminal's chain, and that is its owner

module _ (t : List ℕ) (A : Accepts t) where
  pub owner_holds : (p : ℕ) → p < productions t → (owner_of t p < nonterminals t) × (mem (production_area t + p) (production_chain t (owner_of t p)) ≡ true)
  unfolding owner_of or_zero
  owner_holds p h = go (first? (λ n. mem (production_area t + p) (production_chain t n)) (below (nonterminals t))) refl
    where
      go : (o : Option ℕ) → first? (λ n. mem (production_area t + p) (production_chain t n)) (below (nonterminals t)) ≡ o
          → (owner_of t p < nonterminals t) × (mem (production_area t + p) (production_chain t (owner_of t p)) ≡ true)
      go (some n) q =
          let f = first?-below (λ n. mem (production_area t + p) (production_chain t n)) (nonterminals t) n q in
          rw (q, or_zero) (f.0, f.1)
      go none q =
          let once = production-once t A p h in
          cases (mem (production_area t + p) (joined (production_chain t) (below (nonterminals t))))
          (λ m.
          let w = some?-below_witness (λ n. mem (production_area t + p) (production_chain t n)) (nonterminals t) (sym (mem-joined (production_chain t) (production_area t + p) (below (nonterminals t))) ∙ m) in
          clash _ w.2 (first?-below-none (λ n. mem (production_area t + p) (production_chain t n)) (nonterminals t) w.0 q w.1))
          (λ m. let o = occurrences-none (production_area t + p) (joined (production_chain t) (below (nonterminals t))) m in absurd (omega arith))

  pub owner_only : (p n : ℕ) → p < productions t → n < nonterminals t → mem (production_area t + p) (production_chain t n) ≡ true → owner_of t p ≡ n
  owner_only p n h l m =
      let o = owner_holds p h in
      joined_only (production_chain t) (production_area t + p) (nonterminals t) (owner_of t p) n (production-once t A p h) o.0 l o.1 m

  -- a nonterminal's list holds the numbers of the productions that have it as their nonterminal, and no others
  pub owned : (n p : ℕ) → n < length (meaning t).nonterminals
      → (mem p (get_or (meaning t).nonterminals n []) ≡ true) ↔ ((p < length (meaning t).productions) × ((production_at (meaning t) p).nonterminal ≡ n))
  unfolding productions_of production_of
  owned n p l =
      let l' : n < nonterminals t = rw (many_nonterminals t) at l in
      let a = areas_of t in (
        λ m.
            let w = mem-map-out (λ r. r - production_area t) p (production_chain t n) (sym (ap (mem p) (nonterminal_at t n l')) ∙ m) in
            let i = production_member t n w.0 w.1 in
            let at : production_area t + p ≡ w.0 = omega (arith, w.2) in
            let h : p < productions t = omega (arith, w.2) in (
              rw (many_productions t) h,
              ap (λ (q : Production). q.nonterminal) (production_at_lem t p h) ∙ owner_only p n h l' (ap (λ (r : ℕ). mem r (production_chain t n)) at ∙ w.1),
            ),
        λ e.
            let h : p < productions t = rw (many_productions t) at e.0 in
            let o = owner_holds p h in
            let q : owner_of t p ≡ n = sym (ap (λ (q : Production). q.nonterminal) (production_at_lem t p h)) ∙ e.1 in
            let d : production_area t + p - production_area t ≡ p = omega arith in
            ap (mem p) (nonterminal_at t n l')
            ∙ ap (λ (k : ℕ). mem k (map (λ r. r - production_area t) (production_chain t n))) (sym d)
            ∙ mem-map_in (λ r. r - production_area t) (production_area t + p) (production_chain t n) (ap (λ (k : ℕ). mem (production_area t + p) (production_chain t k)) (sym q) ∙ o.1),
      )

-- every number in range

pub symbol_fits : (T : Table) (k x : ℕ) → symbol_is_fit (length T.nonterminals) T.terminals k x ≡ true → SymbolFits T (symbol_of_kind k x)
unfolding symbol_is_fit SymbolFits symbol_of_kind
symbol_fits T zero x e = ltb-true x (length T.nonterminals) e
symbol_fits T (suc zero) x e = ltb-true x T.terminals e
symbol_fits T (suc (suc k)) x e = clash false e refl

module _ (t : List ℕ) (A : Accepts t) where
  pub symbol_in_range : (r : ℕ) → as_symbol t r ≡ true → symbol_is_fit (length (meaning t).nonterminals) (meaning t).terminals (word_at t r 1) (word_at t r 2) ≡ true
  symbol_in_range r e = rw (many_nonterminals t, many_terminals t) (symbol_range t A r (symbol-inside t r e).1 e)

  pub edge_in_range : (r : ℕ) → as_edge t r ≡ true → symbol_is_fit (length (meaning t).nonterminals) (meaning t).terminals (word_at t r 1) (word_at t r 2) ≡ true
  edge_in_range r e = rw (many_nonterminals t, many_terminals t) (edge_range t A r (edge_inside t r e).1 e)

  pub target_in_range : (r : ℕ) → as_edge t r ≡ true → word_at t r 3 < length (meaning t).states
  target_in_range r e = rw (many_states t) (target_range t A r (edge_inside t r e).1 e)

  pub item_fits : (r : ℕ) → as_item t r ≡ true → ItemFits (meaning t) (record { production = word_at t r 1; index = word_at t r 2 })
  item_fits r e =
      let i = item_range t A r (item-inside t r e).1 e in
      record { production = rw (many_productions t) i.0; index = rw (length_symbols t (word_at t r 1) i.0) i.1 }

  edge_fits : (r : ℕ) → as_edge t r ≡ true → EdgeFits (meaning t) (edge_at t r)
  unfolding edge_at
  edge_fits r e = record { symbol = symbol_fits (meaning t) (word_at t r 1) (word_at t r 2) (edge_in_range r e); target = target_in_range r e }

  production-fits : (p : ℕ) → p < productions t → ProductionFits (meaning t) (production_of t p)
  unfolding production_of symbol_at
  production-fits p h = record {
    owner = rw (many_nonterminals t) (owner_holds t A p h).0;
    short = rw (length_mapped (symbol_at t) (symbol_chain t p)) (production_short t A p h);
    symbols =
        all_map (SymbolFits (meaning t)) (symbol_at t) (symbol_chain t p)
        (λ r m. symbol_fits (meaning t) (word_at t r 1) (word_at t r 2) (symbol_in_range r (symbol_of_lem t r p h m)));
  }

  state_fits : (s : ℕ) → s < states t → StateFits (meaning t) (state_of t s)
  unfolding state_of item_at
  state_fits s h = record {
    items = all_map (ItemFits (meaning t)) (item_at t) (item_chain t s) (λ r m. item_fits r (item_of t r s h m));
    edges = all_map (EdgeFits (meaning t)) (edge_at t) (edge_chain t s) (λ r m. edge_fits r (edge_of t r s h m));
  }

  all-productions : All (ProductionFits (meaning t)) (meaning t).productions
  unfolding meaning
  all-productions =
      all_map (ProductionFits (meaning t)) (production_of t) (below (productions t))
      (λ p m. production-fits p (ltb-true p (productions t) (sym (mem_below p (productions t)) ∙ m)))

  all-states : All (StateFits (meaning t)) (meaning t).states
  unfolding meaning
  all-states =
      all_map (StateFits (meaning t)) (state_of t) (below (states t))
      (λ s m. state_fits s (ltb-true s (states t) (sym (mem_below s (states t)) ∙ m)))

  fits_all : TableFits (meaning t)
  fits_all = record {
    some-nonterminal = rw (many_nonterminals t) A.some-nonterminal;
    few_nonterminals = rw (many_nonterminals t) A.few_nonterminals;
    few_terminals = rw (many_terminals t) A.few_terminals;
    some_state = rw (many_states t) A.some_state;
    few_states = rw (many_states t) A.few_states;
    few_productions_lem = rw (many_productions t) A.few_productions_lem;
    productions = all-productions;
    states = all-states;
  }

pub fits : (t : List ℕ) → check_of t ≡ Accepted → TableFits (meaning t)
fits t e = fits_all t (accepts t e)
