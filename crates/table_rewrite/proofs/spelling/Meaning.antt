-- A spelling means what was spelled.
use mathlib.Core.Path.{◌≡◌, refl, sym, ap, ◌∙◌}
use mathlib.Core.List.{List, [], ◌∷◌, map}
use Prim.Native.Nat.{ℕ, ◌+◌, ◌-◌, ◌<◌}
use native.Mathlib.Omega.{arith}
use lib.ListN.{length, get_or}
use lib.Seq.{ext_get_or}
use borrow.Author.Tests.{eq-eqb, ne_eqb, lt-ltb}
use Rattle.lr1_base.specs.repr.Lists.{below, mem, keep}
use Rattle.lr1_base.specs.repr.Meaning.{Symbol, nonterminal, terminal, Production, Item, Edge, State, Table, no_production, no_state, production_at, state_at, ProductionFits, TableFits}
use Rattle.lr1_base.specs.repr.Listed.{symbol_of_kind}
use Rattle.lr1_base.proofs.repr.Lists.{cases, clash, length-map-below, get_d_map-below, mem-keep, mem_below}
use Rattle.lr1_base.proofs.repr.Tests.{first?-below_intro, All_at}
use Rattle.table.specs.Words.{word_at, nonterminals, terminals, states, productions, production_area}
use Rattle.table.specs.Decoded.{production_chain, symbol_chain, item_chain, edge_chain, symbol_at, item_at, edge_at, or_zero, owner_of, production_of, state_of, productions_of, meaning}
use Rattle.table.proofs.ListLaws.{mem-map_in, mem-map-out}
use Rattle.table_rewrite.specs.spelling.Spelled.{place_of, kind_of, number_of, symbol_quad, item_quad, edge_quad, symbol_lists, item_lists, edge_lists, productions_at, symbols_at, items_place, edges_at, owns, production_quad, spell, Ordered}
use Rattle.table_rewrite.proofs.spelling.Laid.{map-up_from}
use Rattle.table_rewrite.proofs.spelling.Places.{production_at_lem, symbols_stand, items_stand, edges_stand, spell_one, spell_two, spell_three, spell-nonterminals, spell-terminals, spell-states, spell-productions, spell-production_area}
use Rattle.table_rewrite.proofs.spelling.Chains.{laid_at, symbol_chain_lem, item_chain_lem, edge_chain_lem, production_chain_lem}
use Rattle.table.proofs.Written.{made}

abbrev pub no_symbol : Symbol
no_symbol = nonterminal 0

abbrev pub no_item : Item
no_item = record { production = 0; index = 0 }

abbrev pub no_edge : Edge
no_edge = record { symbol = nonterminal 0; target = 0 }

pub symbol-back : (s : Symbol) → symbol_of_kind (kind_of s) (number_of s) ≡ s
unfolding symbol_of_kind kind_of number_of
symbol-back (nonterminal n) = refl
symbol-back (terminal n) = refl

-- symbols, items, edges

module _ (T : Table) where
  pub symbols-back : (p : ℕ) → p < length T.productions → map (symbol_at (spell T)) (symbol_chain (spell T) p) ≡ (production_at T p).symbols
  unfolding symbol_at
  symbols-back p h =
      let o = place_of (symbols_at T) (symbol_lists T) p in
      let xs = (production_at T p).symbols in
      ap (map (symbol_at (spell T))) (symbol_chain_lem T p h)
      ∙ map-up_from (symbol_at (spell T)) (place_of (symbols_at T) (symbol_lists T) p) (production_at T p).symbols no_symbol
      (λ i b.
      let e = laid_at symbol_quad T (place_of (symbols_at T) (symbol_lists T) p) (production_at T p).symbols (symbols_stand T p h) i no_symbol b in
      rw (spell_one T (o + i) _ e, spell_two T (o + i) _ e) (symbol-back (get_or xs i no_symbol)))

  pub items_back : (s : ℕ) → s < length T.states → map (item_at (spell T)) (item_chain (spell T) s) ≡ (state_at T s).items
  unfolding item_at
  items_back s h =
      let o = place_of (items_place T) (item_lists T) s in
      let xs = (state_at T s).items in
      ap (map (item_at (spell T))) (item_chain_lem T s h)
      ∙ map-up_from (item_at (spell T)) (place_of (items_place T) (item_lists T) s) (state_at T s).items no_item
      (λ i b.
      let e = laid_at item_quad T (place_of (items_place T) (item_lists T) s) (state_at T s).items (items_stand T s h) i no_item b in
      rw (spell_one T (o + i) _ e, spell_two T (o + i) _ e))

  pub edges_back : (s : ℕ) → s < length T.states → map (edge_at (spell T)) (edge_chain (spell T) s) ≡ (state_at T s).edges
  unfolding edge_at
  edges_back s h =
      let o = place_of (edges_at T) (edge_lists T) s in
      let xs = (state_at T s).edges in
      ap (map (edge_at (spell T))) (edge_chain_lem T s h)
      ∙ map-up_from (edge_at (spell T)) (place_of (edges_at T) (edge_lists T) s) (state_at T s).edges no_edge
      (λ i b.
      let e = laid_at edge_quad T (place_of (edges_at T) (edge_lists T) s) (state_at T s).edges (edges_stand T s h) i no_edge b in
      rw (spell_one T (o + i) _ e, spell_two T (o + i) _ e, spell_three T (o + i) _ e, symbol-back (get_or xs i no_edge).symbol))

-- productions of a nonterminal

pub shifted_back : (o : ℕ) (xs : List ℕ) → map (λ r. r - o) (map (λ q. o + q) xs) ≡ xs
shifted_back o [] = refl
shifted_back o (x ∷ xs) =
    let e : o + x - o ≡ x = omega arith in
    ap (λ (k : ℕ). k ∷ map (λ r. r - o) (map (λ q. o + q) xs)) e ∙ ap (λ (l : List ℕ). x ∷ l) (shifted_back o xs)

pub mem-shifted : (o x : ℕ) (xs : List ℕ) → mem (o + x) (map (λ q. o + q) xs) ≡ mem x xs
mem-shifted o x xs =
    cases (mem x xs)
    (λ m. rw m (mem-map_in (λ q. o + q) x xs m))
    (λ m.
    rw m (cases (mem (o + x) (map (λ q. o + q) xs))
    (λ y. let w = mem-map-out (λ q. o + q) (o + x) xs y in
    let e : w.0 ≡ x = omega (arith, w.2) in
    clash (mem x xs) (rw e at w.1) m)
    (λ y. y)))

module _ (T : Table) where
  pub productions-back : (n : ℕ) → n < length T.nonterminals → productions_of (spell T) n ≡ keep (owns T n) (below (length T.productions))
  unfolding productions_of
  productions-back n h =
      rw (production_chain_lem T n h, spell-production_area T) (shifted_back (productions_at T) (keep (owns T n) (below (length T.productions))))

  -- production p stands in n's chain exactly if n owns it
  pub chain-owns : (n p : ℕ) → n < length T.nonterminals → p < length T.productions
      → mem (production_area (spell T) + p) (production_chain (spell T) n) ≡ owns T n p
  chain-owns n p h l =
      rw (production_chain_lem T n h, spell-production_area T)
      (mem-shifted (productions_at T) p (keep (owns T n) (below (length T.productions)))
      ∙ mem-keep (owns T n) p (below (length T.productions))
      ∙ rw (mem_below p (length T.productions), lt-ltb p (length T.productions) l))

  pub owner_back : (p : ℕ) → p < length T.productions → (production_at T p).nonterminal < length T.nonterminals → owner_of (spell T) p ≡ (production_at T p).nonterminal
  unfolding owner_of or_zero owns
  owner_back p h l =
      let o = (production_at T p).nonterminal in
      rw (
        spell-nonterminals T,
        first?-below_intro (λ n. mem (production_area (spell T) + p) (production_chain (spell T) n)) (length T.nonterminals) (production_at T p).nonterminal l
            (chain-owns o p l h ∙ eq-eqb o o refl)
            (λ j b. chain-owns j p (omega arith) h ∙ ne_eqb o j (λ z. omega arith)),
      )

-- all

made_state : (a b : List Item) (c d : List Edge) → a ≡ b → c ≡ d → ◌≡◌ {A = State} (record { items = a; edges = c }) (record { items = b; edges = d })
made_state a b c d p q = rw (p, q)

pub made_table : (a b : ℕ) (c d : List (List ℕ)) (e f : List Production) (g h : List State) → a ≡ b → c ≡ d → e ≡ f → g ≡ h
    → ◌≡◌ {A = Table} (record { terminals = a; nonterminals = c; productions = e; states = g }) (record { terminals = b; nonterminals = d; productions = f; states = h })
made_table a b c d e f g h p q r o = rw (p, q, r, o)

-- a list by its places
pub map-below-is {ℓ} : {A : Type ℓ} (g : ℕ → A) (n : ℕ) (xs : List A) (d : A) → n ≡ length xs → ((i : ℕ) → i < length xs → g i ≡ get_or xs i d) → map g (below n) ≡ xs
map-below-is g n xs d e h =
    ext_get_or d (map g (below n)) xs (length-map-below g n ∙ e)
    (λ i b.
    let l : i < n = rw (length-map-below g n) at b in
    get_d_map-below g n i d l ∙ h i (omega arith))

module _ (T : Table) where
  pub production-back : (p : ℕ) → p < length T.productions → (production_at T p).nonterminal < length T.nonterminals → production_of (spell T) p ≡ production_at T p
  unfolding production_of production_quad
  production-back p h l =
      let q = production_at T p in
      made (owner_of (spell T) p) q.nonterminal (map (symbol_at (spell T)) (symbol_chain (spell T) p)) q.symbols
      (word_at (spell T) (production_area (spell T) + p) 2) q.start (word_at (spell T) (production_area (spell T) + p) 3) q.end
      (owner_back T p h l) (symbols-back T p h)
      (rw (spell-production_area T) (spell_two T (productions_at T + p) (production_quad T p) (production_at_lem T p h)))
      (rw (spell-production_area T) (spell_three T (productions_at T + p) (production_quad T p) (production_at_lem T p h)))

  pub state_back : (s : ℕ) → s < length T.states → state_of (spell T) s ≡ state_at T s
  unfolding state_of
  state_back s h =
      made_state (map (item_at (spell T)) (item_chain (spell T) s)) (state_at T s).items (map (edge_at (spell T)) (edge_chain (spell T) s)) (state_at T s).edges (items_back T s h) (edges_back T s h)

-- each production's nonterminal is a nonterminal
abbrev pub Owned : Table → Type 0
Owned T = (p : ℕ) → p < length T.productions → (production_at T p).nonterminal < length T.nonterminals

pub fits-owned : (T : Table) → TableFits T → Owned T
fits-owned T F p h = (All_at (ProductionFits T) T.productions p no_production F.productions h).owner

pub owned-meaning : (T : Table) → Owned T → Ordered T → meaning (spell T) ≡ T
unfolding meaning
owned-meaning T O R =
    made_table (terminals (spell T)) T.terminals (map (productions_of (spell T)) (below (nonterminals (spell T)))) T.nonterminals
    (map (production_of (spell T)) (below (productions (spell T)))) T.productions
    (map (state_of (spell T)) (below (states (spell T)))) T.states
    (spell-terminals T)
    (map-below-is (productions_of (spell T)) (nonterminals (spell T)) T.nonterminals [] (spell-nonterminals T) (λ n h. productions-back T n h ∙ sym (R.lists n h)))
    (map-below-is (production_of (spell T)) (productions (spell T)) T.productions no_production (spell-productions T) (λ p h. production-back T p h (O p h)))
    (map-below-is (state_of (spell T)) (states (spell T)) T.states no_state (spell-states T) (λ s h. state_back T s h))

-- a spelling means what was spelled
pub spell-meaning : (T : Table) → TableFits T → Ordered T → meaning (spell T) ≡ T
spell-meaning T F R = owned-meaning T (fits-owned T F) R
