-- Which record stands where in a spelling, region by region, and so its words.
use mathlib.Core.Path.{◌≡◌, refl, ap, ◌∙◌}
use mathlib.Core.List.{List, [], ◌∷◌, ◌++◌}
use Prim.Native.Nat.{ℕ, ◌+◌, ◌*◌, ◌≤◌, ◌<◌}
use native.Mathlib.Omega.{arith}
use lib.ListN.{length, get_or, length-append}
use Rattle.lr1_base.specs.repr.Meaning.{Production, State, Table, no_production, no_state, production_at, state_at}
use Rattle.lr1_base.proofs.repr.Lists.{get_d_map, length_mapped, length-map-below, get_d_map-below}
use Rattle.table.specs.Words.{word_at, records, nonterminals, terminals, states, productions, state_area, production_area, loose}
use Rattle.table.specs.Quads.{Quad, no_quad}
use Rattle.table.proofs.Quads.{length-words, records-words, word_next, word_one, word_two, word_three}
use Rattle.table_rewrite.specs.spelling.Spelled.{chain_from, place_of, size_of, symbol_quad, item_quad, edge_quad, symbol_lists, item_lists, edge_lists, states_at, productions_at, symbols_at, items_place, edges_at, records_of, nonterminal_quad, state_quad, production_quad, count_quad, nonterminal_quads, state_quads, production_quads, symbol_quads, item_quads, edge_quads, quads, spell}
use Rattle.table_rewrite.specs.spelling.Grown.{Stands}
use Rattle.table_rewrite.proofs.spelling.Laid.{stands_all, stands_front, stands_back, length_chains_from, stands_chain, place-within}

-- where the regions begin
pub record Begins (T : Table) : Type 0 where
  pub states : states_at T ≡ 1 + length T.nonterminals
  pub productions : productions_at T ≡ states_at T + length T.states
  pub symbols : symbols_at T ≡ productions_at T + length T.productions
  pub items : items_place T ≡ symbols_at T + size_of (symbol_lists T)
  pub edges : edges_at T ≡ items_place T + size_of (item_lists T)
  pub past : records_of T ≡ edges_at T + size_of (edge_lists T)

pub begins : (T : Table) → Begins T
unfolding states_at productions_at symbols_at items_place edges_at records_of
begins T = record { states = refl; productions = refl; symbols = refl; items = refl; edges = refl; past = refl }

-- how long they are
pub record Sizes (T : Table) : Type 0 where
  pub nonterminals : length (nonterminal_quads T) ≡ length T.nonterminals
  pub states : length (state_quads T) ≡ length T.states
  pub productions : length (production_quads T) ≡ length T.productions
  pub symbols : length (symbol_quads T) ≡ size_of (symbol_lists T)
  pub items : length (item_quads T) ≡ size_of (item_lists T)
  pub edges : length (edge_quads T) ≡ size_of (edge_lists T)

pub sizes : (T : Table) → Sizes T
unfolding nonterminal_quads state_quads production_quads symbol_quads item_quads edge_quads
sizes T = record {
  nonterminals = length-map-below (nonterminal_quad T) (length T.nonterminals);
  states = length-map-below (state_quad T) (length T.states);
  productions = length-map-below (production_quad T) (length T.productions);
  symbols = length_chains_from symbol_quad (symbols_at T) (symbol_lists T);
  items = length_chains_from item_quad (items_place T) (item_lists T);
  edges = length_chains_from edge_quad (edges_at T) (edge_lists T);
}

stands_from : (qs : List Quad) (o p : ℕ) (xs : List Quad) → o ≡ p → Stands qs o xs → Stands qs p xs
stands_from qs o p xs e S = rw e at S

pub record Regions (T : Table) : Type 0 where
  pub counts : Stands (quads T) 0 (count_quad T ∷ [])
  pub nonterminals : Stands (quads T) 1 (nonterminal_quads T)
  pub states : Stands (quads T) (states_at T) (state_quads T)
  pub productions : Stands (quads T) (productions_at T) (production_quads T)
  pub symbols : Stands (quads T) (symbols_at T) (symbol_quads T)
  pub items : Stands (quads T) (items_place T) (item_quads T)
  pub edges : Stands (quads T) (edges_at T) (edge_quads T)
  pub long : length (quads T) ≡ records_of T

pub regions : (T : Table) → Regions T
unfolding quads
regions T =
    let b = begins T in
    let z = sizes T in
    let q = quads T in
    let n = nonterminal_quads T in
    let s = state_quads T in
    let p = production_quads T in
    let y = symbol_quads T in
    let i = item_quads T in
    let e = edge_quads T in
    let s0 = stands_all (quads T) in
    let s1 = stands_back (quads T) 0 (count_quad T ∷ []) (n ++ (s ++ (p ++ (y ++ (i ++ e))))) s0 in
    let s2 = stands_back (quads T) _ n (s ++ (p ++ (y ++ (i ++ e)))) s1 in
    let s3 = stands_back (quads T) _ s (p ++ (y ++ (i ++ e))) s2 in
    let s4 = stands_back (quads T) _ p (y ++ (i ++ e)) s3 in
    let s5 = stands_back (quads T) _ y (i ++ e) s4 in
    let s6 = stands_back (quads T) _ i e s5 in
    let l1 = length-append n (s ++ (p ++ (y ++ (i ++ e)))) in
    let l2 = length-append s (p ++ (y ++ (i ++ e))) in
    let l3 = length-append p (y ++ (i ++ e)) in
    let l4 = length-append y (i ++ e) in
    let l5 = length-append i e in
    record {
      counts = stands_front (quads T) 0 (count_quad T ∷ []) (n ++ (s ++ (p ++ (y ++ (i ++ e))))) s0;
      nonterminals = stands_from (quads T) _ 1 n (omega arith) (stands_front (quads T) _ n (s ++ (p ++ (y ++ (i ++ e)))) s1);
      states = stands_from (quads T) _ (states_at T) s (omega arith) (stands_front (quads T) _ s (p ++ (y ++ (i ++ e))) s2);
      productions = stands_from (quads T) _ (productions_at T) p (omega arith) (stands_front (quads T) _ p (y ++ (i ++ e)) s3);
      symbols = stands_from (quads T) _ (symbols_at T) y (omega arith) (stands_front (quads T) _ y (i ++ e) s4);
      items = stands_from (quads T) _ (items_place T) i (omega arith) (stands_front (quads T) _ i e s5);
      edges = stands_from (quads T) _ (edges_at T) e (omega arith) s6;
      long = omega arith;
    }

-- the record at each place

module _ (T : Table) where
  pub count_at : get_or (quads T) 0 no_quad ≡ count_quad T
  count_at = (regions T).counts.at 0 (omega arith)

  pub nonterminal_at : (n : ℕ) → n < length T.nonterminals → get_or (quads T) (1 + n) no_quad ≡ nonterminal_quad T n
  unfolding nonterminal_quads
  nonterminal_at n h =
      (regions T).nonterminals.at n (omega (arith, (sizes T).nonterminals)) ∙ get_d_map-below (nonterminal_quad T) (length T.nonterminals) n no_quad h

  pub state_at_lem : (s : ℕ) → s < length T.states → get_or (quads T) (states_at T + s) no_quad ≡ state_quad T s
  unfolding state_quads
  state_at_lem s h = (regions T).states.at s (omega (arith, (sizes T).states)) ∙ get_d_map-below (state_quad T) (length T.states) s no_quad h

  pub production_at_lem : (p : ℕ) → p < length T.productions → get_or (quads T) (productions_at T + p) no_quad ≡ production_quad T p
  unfolding production_quads
  production_at_lem p h = (regions T).productions.at p (omega (arith, (sizes T).productions)) ∙ get_d_map-below (production_quad T) (length T.productions) p no_quad h

  -- the chains by number
  pub symbol_list : (p : ℕ) → p < length T.productions → get_or (symbol_lists T) p [] ≡ (production_at T p).symbols
  symbol_list p h = get_d_map (λ (q : Production). q.symbols) T.productions p no_production [] h

  pub item_list : (s : ℕ) → s < length T.states → get_or (item_lists T) s [] ≡ (state_at T s).items
  item_list s h = get_d_map (λ (q : State). q.items) T.states s no_state [] h

  pub edge_list : (s : ℕ) → s < length T.states → get_or (edge_lists T) s [] ≡ (state_at T s).edges
  edge_list s h = get_d_map (λ (q : State). q.edges) T.states s no_state [] h

  pub symbols_stand : (p : ℕ) → p < length T.productions
      → Stands (quads T) (place_of (symbols_at T) (symbol_lists T) p) (chain_from symbol_quad (place_of (symbols_at T) (symbol_lists T) p) (production_at T p).symbols)
  unfolding symbol_quads
  symbols_stand p h =
      rw (symbol_list p h) at (stands_chain symbol_quad (quads T) (symbols_at T) (symbol_lists T) p (omega (arith, length_mapped (λ (q : Production). q.symbols) T.productions)) (regions T).symbols)

  pub items_stand : (s : ℕ) → s < length T.states
      → Stands (quads T) (place_of (items_place T) (item_lists T) s) (chain_from item_quad (place_of (items_place T) (item_lists T) s) (state_at T s).items)
  unfolding item_quads
  items_stand s h =
      rw (item_list s h) at (stands_chain item_quad (quads T) (items_place T) (item_lists T) s (omega (arith, length_mapped (λ (q : State). q.items) T.states)) (regions T).items)

  pub edges_stand : (s : ℕ) → s < length T.states
      → Stands (quads T) (place_of (edges_at T) (edge_lists T) s) (chain_from edge_quad (place_of (edges_at T) (edge_lists T) s) (state_at T s).edges)
  unfolding edge_quads
  edges_stand s h =
      rw (edge_list s h) at (stands_chain edge_quad (quads T) (edges_at T) (edge_lists T) s (omega (arith, length_mapped (λ (q : State). q.edges) T.states)) (regions T).edges)

-- a chain within the loose area
pub record Within (T : Table) (o n : ℕ) : Type 0 where
  pub after : symbols_at T ≤ o
  pub before : o + n ≤ records_of T

module _ (T : Table) where
  pub symbols-within : (p : ℕ) → p < length T.productions → Within T (place_of (symbols_at T) (symbol_lists T) p) (length (production_at T p).symbols)
  symbols-within p h =
      let b = begins T in
      let w = place-within (symbols_at T) (symbol_lists T) p (omega (arith, length_mapped (λ (q : Production). q.symbols) T.productions)) in
      let l = ap length (symbol_list T p h) in
      record { after = w.0; before = omega (arith, w.1) }

  pub items_within : (s : ℕ) → s < length T.states → Within T (place_of (items_place T) (item_lists T) s) (length (state_at T s).items)
  items_within s h =
      let b = begins T in
      let w = place-within (items_place T) (item_lists T) s (omega (arith, length_mapped (λ (q : State). q.items) T.states)) in
      let l = ap length (item_list T s h) in
      record { after = omega (arith, w.0); before = omega (arith, w.1) }

  pub edges_within : (s : ℕ) → s < length T.states → Within T (place_of (edges_at T) (edge_lists T) s) (length (state_at T s).edges)
  edges_within s h =
      let b = begins T in
      let w = place-within (edges_at T) (edge_lists T) s (omega (arith, length_mapped (λ (q : State). q.edges) T.states)) in
      let l = ap length (edge_list T s h) in
      record { after = omega (arith, w.0); before = omega (arith, w.1) }

-- the words

module _ (T : Table) where
  pub spell_next : (r : ℕ) (q : Quad) → get_or (quads T) r no_quad ≡ q → word_at (spell T) r 0 ≡ q.next
  unfolding spell
  spell_next r q e = word_next (quads T) r ∙ ap (λ (x : Quad). x.next) e

  pub spell_one : (r : ℕ) (q : Quad) → get_or (quads T) r no_quad ≡ q → word_at (spell T) r 1 ≡ q.one
  unfolding spell
  spell_one r q e = word_one (quads T) r ∙ ap (λ (x : Quad). x.one) e

  pub spell_two : (r : ℕ) (q : Quad) → get_or (quads T) r no_quad ≡ q → word_at (spell T) r 2 ≡ q.two
  unfolding spell
  spell_two r q e = word_two (quads T) r ∙ ap (λ (x : Quad). x.two) e

  pub spell_three : (r : ℕ) (q : Quad) → get_or (quads T) r no_quad ≡ q → word_at (spell T) r 3 ≡ q.three
  unfolding spell
  spell_three r q e = word_three (quads T) r ∙ ap (λ (x : Quad). x.three) e

  -- counts, areas, length
  pub spell-nonterminals : nonterminals (spell T) ≡ length T.nonterminals
  unfolding count_quad
  spell-nonterminals = spell_next 0 (count_quad T) (count_at T)

  pub spell-terminals : terminals (spell T) ≡ T.terminals
  unfolding count_quad
  spell-terminals = spell_one 0 (count_quad T) (count_at T)

  pub spell-states : states (spell T) ≡ length T.states
  unfolding count_quad
  spell-states = spell_two 0 (count_quad T) (count_at T)

  pub spell-productions : productions (spell T) ≡ length T.productions
  unfolding count_quad
  spell-productions = spell_three 0 (count_quad T) (count_at T)

  pub spell-state_area : state_area (spell T) ≡ states_at T
  unfolding state_area states_at
  spell-state_area = ap (λ (n : ℕ). 1 + n) spell-nonterminals

  pub spell-production_area : production_area (spell T) ≡ productions_at T
  unfolding production_area productions_at
  spell-production_area = let a = spell-state_area in let b = spell-states in omega arith

  pub spell-loose : loose (spell T) ≡ symbols_at T
  unfolding loose symbols_at
  spell-loose = let a = spell-production_area in let b = spell-productions in omega arith

  pub spell-length : length (spell T) ≡ 4 * records_of T
  unfolding spell
  spell-length = length-words (quads T) ∙ ap (λ (n : ℕ). 4 * n) (regions T).long

  pub spell-records : records (spell T) ≡ records_of T
  unfolding spell
  spell-records = records-words (quads T) ∙ (regions T).long
