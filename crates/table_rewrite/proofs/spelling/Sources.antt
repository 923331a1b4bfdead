-- The three regions of a spelling are chains of the table's own records, each with another next index: so one function writes them all.
use mathlib.Core.Path.{◌≡◌, refl, sym, ap, ◌∙◌}
use mathlib.Core.Bool.{true, ◌&&◌, ◌||◌}
use mathlib.Core.List.{List, [], ◌∷◌, map}
use Prim.Native.Nat.{ℕ, zero, suc, ◌+◌, ◌-◌, ◌≤◌, ◌<◌}
use native.Mathlib.Omega.{arith}
use lib.ListN.{length, get_or}
use lib.Seq.{ext_get_or}
use borrow.Author.Tests.{eqb-true, not-false}
use Rattle.lr1_base.specs.repr.Lists.{up_from, mem}
use Rattle.lr1_base.specs.repr.Meaning.{State, Production}
use Rattle.lr1_base.specs.repr.Listed.{symbol_of_kind, symbol_is_fit}
use Rattle.lr1_base.proofs.repr.Lists.{length_mapped, length-up_from, get_d_up_from, get_d_map, mem-cons_here, mem-cons_there}
use Rattle.table.specs.Checked.{Accepted}
use Rattle.table.specs.Words.{word_at, records, states, productions, state_area, production_area, loose, loose_records}
use Rattle.table.specs.Decoded.{symbol_chain, item_chain, edge_chain, symbol_at, item_at, edge_at, state_of, meaning}
use Rattle.table.specs.Refusals.{is_nonterminal, is_state, as_symbol, as_item, as_edge, used, row8, check_of}
use Rattle.table.proofs.Chains.{or-false, or_left, or_right, chain-from, loose-whole}
use Rattle.table.proofs.Accepted.{accepts, areas_of, item-head, edge_head, symbol-head, symbol_range, edge_range}
use Rattle.table.proofs.Held.{symbol-inside, item-inside, edge_inside, symbol_of_lem, item_of, edge_of, symbol-first_as, item-first_as, edge_first_as, loose_small}
use Rattle.table.proofs.Decoding.{many_states, many_productions, state_at_lem, symbols_of_lem}
use Rattle.table.specs.Quads.{Quad}
use Rattle.table_rewrite.specs.spelling.Spelled.{kind_of, number_of, head_of, chain_from, chains_from, size_of, symbol_quad, item_quad, edge_quad, symbol_lists, item_lists, edge_lists, states_at, productions_at, symbols_at, items_place, edges_at, symbol_quads, item_quads, edge_quads, quads}
use Rattle.table_rewrite.specs.spelling.Grown.{Stands, records_from, same_quad, LooseIndex, chains_of, Heads}
use Rattle.table_rewrite.proofs.spelling.Places.{regions, symbol_list, item_list, edge_list}
use Rattle.table_rewrite.proofs.spelling.Copied.{same_states, same_productions, same_loose}
use Rattle.table_rewrite.proofs.spelling.Reading.{as_symbol_lem, as_item_lem, as_edge_lem}
use Rattle.lr1_base.proofs.laws.Bools.{when}

-- records of which each is written as the table has it

module _ {A : Type 0} (t : List ℕ) (f : ℕ → A → Quad) (g : ℕ → A) where
  abbrev Kept : List ℕ → Type 0
  Kept rs = (r : ℕ) → mem r rs ≡ true → (next : ℕ) → f next (g r) ≡ same_quad t next r

  head_mapped : (o : ℕ) (rs : List ℕ) → head_of o (map g rs) ≡ head_of o rs
  unfolding head_of
  head_mapped o [] = refl
  head_mapped o (r ∷ rs) = refl

  chain-kept : (o : ℕ) (rs : List ℕ) → Kept rs → chain_from f o (map g rs) ≡ chain_from (same_quad t) o rs
  unfolding chain_from
  chain-kept o [] h = refl
  chain-kept o (r ∷ rs) h =
      rw (head_mapped (suc o) rs, h r (mem-cons_here r rs) (head_of (suc o) rs), chain-kept (suc o) rs (λ y m. h y (mem-cons_there y r rs m)))

  module _ (c : ℕ → List ℕ) where
    chains_kept : (first n o : ℕ) → ((i : ℕ) → first ≤ i → i < first + n → Kept (c i)) → chains_from f o (map (map g) (map c (up_from first n))) ≡ chains_from (same_quad t) o (map c (up_from first n))
    unfolding chains_from up_from
    chains_kept first zero o h = refl
    chains_kept first (suc n) o h =
        rw (chain-kept o (c first) (h first (omega arith) (omega arith)), length_mapped g (c first), chains_kept (suc first) n (o + length (c first)) (λ i a b. h i (omega arith) (omega arith)))

    size_kept : (first n : ℕ) → size_of (map (map g) (map c (up_from first n))) ≡ size_of (map c (up_from first n))
    unfolding size_of up_from
    size_kept first zero = refl
    size_kept first (suc n) = rw (length_mapped g (c first), size_kept (suc first) n)

    lists_are : (first n : ℕ) (xss : List (List A)) → length xss ≡ n → ((i : ℕ) → i < n → get_or xss i [] ≡ map g (c (first + i))) → xss ≡ map (map g) (map c (up_from first n))
    lists_are first n xss l h =
        let a = length_mapped (map g) (map c (up_from first n)) in
        let b = length_mapped c (up_from first n) in
        let d = length-up_from first n in
        ext_get_or [] xss (map (map g) (map c (up_from first n))) (omega arith)
        (λ i k.
        h i (omega arith)
        ∙ sym (get_d_map (map g) (map c (up_from first n)) i [] [] (omega arith) ∙ ap (map g) (get_d_map c (up_from first n) i 0 [] (omega arith) ∙ ap c (get_d_up_from first n i 0 (omega arith)))))

-- a region by its heads
module _ {A : Type 0} (t : List ℕ) (f : ℕ → A → Quad) (g : ℕ → A) (first past k : ℕ) (xss : List (List A)) (h : first ≤ past) (l : first + length xss ≡ past)
    (is : (i : ℕ) → i < length xss → get_or xss i [] ≡ map g (records_from t (word_at t (first + i) k)))
    (kept : (i : ℕ) → i < length xss → (r : ℕ) → mem r (records_from t (word_at t (first + i) k)) ≡ true → (next : ℕ) → f next (g r) ≡ same_quad t next r) where
  region_lists : xss ≡ map (map g) (chains_of t first past k)
  unfolding chains_of
  region_lists =
      let d : length xss ≡ past - first = omega arith in
      lists_are t f g (λ r. records_from t (word_at t r k)) first (past - first) xss d (λ i b. is i (omega arith))

  region_same : (o : ℕ) → chains_from f o xss ≡ chains_from (same_quad t) o (chains_of t first past k)
  unfolding chains_of
  region_same o =
      ap (chains_from f o) region_lists
      ∙ chains_kept t f g (λ r. records_from t (word_at t r k)) first (past - first) o
      (λ i a b.
      let z : first + (i - first) ≡ i = omega arith in
      rw z at (kept (i - first) (omega arith)))

  region_size : size_of xss ≡ size_of (chains_of t first past k)
  unfolding chains_of
  region_size = ap size_of region_lists ∙ size_kept t f g (λ r. records_from t (word_at t r k)) first (past - first)

-- a symbol's words
kind_back : (n m k x : ℕ) → symbol_is_fit n m k x ≡ true → kind_of (symbol_of_kind k x) ≡ k
unfolding symbol_is_fit kind_of symbol_of_kind
kind_back n m zero x e = refl
kind_back n m (suc zero) x e = refl
kind_back n m (suc (suc k)) x e = let z : ◌≡◌ {A = ℕ} 0 1 = cc in absurd (omega arith)

pub number-back : (k x : ℕ) → number_of (symbol_of_kind k x) ≡ x
unfolding number_of symbol_of_kind
number-back zero x = refl
number-back (suc k) x = refl

-- what the code asks and what it leaves, of each region
pub record Source (t : List ℕ) (first past k o n : ℕ) : Type 0 where
  pub heads : Heads t first past k
  pub stands : Stands (quads (meaning t)) o (chains_from (same_quad t) o (chains_of t first past k))
  pub size : n ≡ size_of (chains_of t first past k)

quad_is : (n a b c x y z : ℕ) → a ≡ x → b ≡ y → c ≡ z → ◌≡◌ {A = Quad} (record { next = n; one = a; two = b; three = c }) (record { next = n; one = x; two = y; three = z })
quad_is n a b c x y z ea eb ec = rw (ea, eb, ec)

module _ (t : List ℕ) (e : check_of t ≡ Accepted) where
  spare : (r : ℕ) → r < records t → (as_symbol t r || as_item t r) ≡ true → word_at t r 3 ≡ 0
  unfolding row8 used
  spare r h s =
      let d = or-false (is_nonterminal t r && (used t r 1 || (used t r 2 || used t r 3))) _ ((accepts t e).none8 r h) in
      let q = or-false (is_state t r && (used t r 2 || used t r 3)) _ d.1 in
      eqb-true (word_at t r 3) 0 (not-false _ (when _ _ q.1 s))

  symbol_same : (r : ℕ) → as_symbol t r ≡ true → (next : ℕ) → symbol_quad next (symbol_at t r) ≡ same_quad t next r
  unfolding symbol_at
  symbol_same r s next =
      let i = (symbol-inside t r s).1 in
      quad_is next _ _ 0 (word_at t r 1) (word_at t r 2) (word_at t r 3)
      (kind_back _ _ (word_at t r 1) (word_at t r 2) (symbol_range t (accepts t e) r i s)) (number-back (word_at t r 1) (word_at t r 2)) (sym (spare r i (or_left _ _ s)))

  item_same : (r : ℕ) → as_item t r ≡ true → (next : ℕ) → item_quad next (item_at t r) ≡ same_quad t next r
  unfolding item_at
  item_same r s next = quad_is next (word_at t r 1) (word_at t r 2) 0 _ _ (word_at t r 3) refl refl (sym (spare r (item-inside t r s).1 (or_right (as_symbol t r) _ s)))

  edge_same : (r : ℕ) → as_edge t r ≡ true → (next : ℕ) → edge_quad next (edge_at t r) ≡ same_quad t next r
  unfolding edge_at
  edge_same r s next =
      quad_is next _ _ (word_at t r 3) (word_at t r 1) (word_at t r 2) _
      (kind_back _ _ (word_at t r 1) (word_at t r 2) (edge_range t (accepts t e) r (edge_inside t r s).1 s)) (number-back (word_at t r 1) (word_at t r 2)) refl

  -- the chains from their heads on
  symbols_from_lem : (p : ℕ) → p < productions t → symbol_chain t p ≡ records_from t (word_at t (production_area t + p) 1)
  unfolding symbol_chain records_from
  symbols_from_lem p h = chain-from t (loose_records t) (loose-whole t) (production_area t + p) _ (symbol-head t (accepts t e) p h)

  items_from_lem : (s : ℕ) → s < states t → item_chain t s ≡ records_from t (word_at t (state_area t + s) 0)
  unfolding item_chain records_from
  items_from_lem s h = chain-from t (loose_records t) (loose-whole t) (state_area t + s) _ (item-head t (accepts t e) s h)

  edges_from_lem : (s : ℕ) → s < states t → edge_chain t s ≡ records_from t (word_at t (state_area t + s) 1)
  unfolding edge_chain records_from
  edges_from_lem s h = chain-from t (loose_records t) (loose-whole t) (state_area t + s) _ (edge_head t (accepts t e) s h)

  heads_of : (first past k : ℕ) → k < 4 → first ≤ past → past ≤ loose t → ((i : ℕ) → first + i < past → LooseIndex t (word_at t (first + i) k)) → Heads t first past k
  heads_of first past k b o l h = record {
    word = b;
    order = o;
    inside = omega (arith, (accepts t e).areas);
    heads = λ r m n. let z : first + (r - first) ≡ r = omega arith in rw z at (h (r - first) (omega arith));
  }

  module _ (first past : ℕ) (ef : first ≡ production_area t) (ep : past ≡ loose t) where
    symbol_heads : Heads t first past 1
    symbol_heads =
        let A = accepts t e in
        let a = areas_of t in
        heads_of first past 1 (omega arith) (omega arith) (omega arith)
        (λ p h. rw ef (record { below = loose_small t A (production_area t + p) _ (symbol-head t A p (omega arith)); is = λ ne. as_symbol_lem t _ (symbol-first_as t A p (omega arith) ne) }))

  module _ (first past : ℕ) (ef : first ≡ state_area t) (ep : past ≡ production_area t) where
    item_heads : Heads t first past 0
    item_heads =
        let A = accepts t e in
        let a = areas_of t in
        heads_of first past 0 (omega arith) (omega arith) (omega arith)
        (λ s h. rw ef (record { below = loose_small t A (state_area t + s) _ (item-head t A s (omega arith)); is = λ ne. as_item_lem t _ (item-first_as t A s (omega arith) ne) }))

    edge_heads : Heads t first past 1
    edge_heads =
        let A = accepts t e in
        let a = areas_of t in
        heads_of first past 1 (omega arith) (omega arith) (omega arith)
        (λ s h. rw ef (record { below = loose_small t A (state_area t + s) _ (edge_head t A s (omega arith)); is = λ ne. as_edge_lem t _ (edge_first_as t A s (omega arith) ne) }))

  pub symbol-source : Source t (productions_at (meaning t)) (symbols_at (meaning t)) 1 (symbols_at (meaning t)) (size_of (symbol_lists (meaning t)))
  unfolding symbol_quads
  symbol-source =
      let T = meaning t in
      let a = areas_of t in
      let ef = same_productions t in
      let ep = same_loose t in
      let m = many_productions t in
      let n = length_mapped (λ (q : Production). q.symbols) T.productions in
      let is : (i : ℕ) → i < length (symbol_lists T) → get_or (symbol_lists T) i [] ≡ map (symbol_at t) (records_from t (word_at t (productions_at T + i) 1)) =
      λ i h. symbol_list T i (omega arith) ∙ symbols_of_lem t i (omega arith) ∙ ap (map (symbol_at t)) (symbols_from_lem i (omega arith)) ∙ rw ef in
      let kept : (i : ℕ) → i < length (symbol_lists T) → (r : ℕ) → mem r (records_from t (word_at t (productions_at T + i) 1)) ≡ true → (next : ℕ) → symbol_quad next (symbol_at t r) ≡ same_quad t next r =
      λ i h r k. symbol_same r (symbol_of_lem t r i (omega arith) (ap (mem r) (symbols_from_lem i (omega arith)) ∙ rw (← ef) k)) in
      record {
        heads = symbol_heads (productions_at T) (symbols_at T) ef ep;
        stands = rw (region_same t symbol_quad (symbol_at t) (productions_at T) (symbols_at T) 1 (symbol_lists T) (omega arith) (omega arith) is kept (symbols_at T)) at (regions T).symbols;
        size = region_size t symbol_quad (symbol_at t) (productions_at T) (symbols_at T) 1 (symbol_lists T) (omega arith) (omega arith) is kept;
      }

  pub item-source : Source t (states_at (meaning t)) (productions_at (meaning t)) 0 (items_place (meaning t)) (size_of (item_lists (meaning t)))
  unfolding item_quads state_of
  item-source =
      let T = meaning t in
      let a = areas_of t in
      let ef = same_states t in
      let ep = same_productions t in
      let m = many_states t in
      let n = length_mapped (λ (q : State). q.items) T.states in
      let is : (i : ℕ) → i < length (item_lists T) → get_or (item_lists T) i [] ≡ map (item_at t) (records_from t (word_at t (states_at T + i) 0)) =
      λ i h. item_list T i (omega arith) ∙ ap (λ (q : State). q.items) (state_at_lem t i (omega arith)) ∙ ap (map (item_at t)) (items_from_lem i (omega arith)) ∙ rw ef in
      let kept : (i : ℕ) → i < length (item_lists T) → (r : ℕ) → mem r (records_from t (word_at t (states_at T + i) 0)) ≡ true → (next : ℕ) → item_quad next (item_at t r) ≡ same_quad t next r =
      λ i h r k. item_same r (item_of t r i (omega arith) (ap (mem r) (items_from_lem i (omega arith)) ∙ rw (← ef) k)) in
      record {
        heads = item_heads (states_at T) (productions_at T) ef ep;
        stands = rw (region_same t item_quad (item_at t) (states_at T) (productions_at T) 0 (item_lists T) (omega arith) (omega arith) is kept (items_place T)) at (regions T).items;
        size = region_size t item_quad (item_at t) (states_at T) (productions_at T) 0 (item_lists T) (omega arith) (omega arith) is kept;
      }

  pub edge_source : Source t (states_at (meaning t)) (productions_at (meaning t)) 1 (edges_at (meaning t)) (size_of (edge_lists (meaning t)))
  unfolding edge_quads state_of
  edge_source =
      let T = meaning t in
      let a = areas_of t in
      let ef = same_states t in
      let ep = same_productions t in
      let m = many_states t in
      let n = length_mapped (λ (q : State). q.edges) T.states in
      let is : (i : ℕ) → i < length (edge_lists T) → get_or (edge_lists T) i [] ≡ map (edge_at t) (records_from t (word_at t (states_at T + i) 1)) =
      λ i h. edge_list T i (omega arith) ∙ ap (λ (q : State). q.edges) (state_at_lem t i (omega arith)) ∙ ap (map (edge_at t)) (edges_from_lem i (omega arith)) ∙ rw ef in
      let kept : (i : ℕ) → i < length (edge_lists T) → (r : ℕ) → mem r (records_from t (word_at t (states_at T + i) 1)) ≡ true → (next : ℕ) → edge_quad next (edge_at t r) ≡ same_quad t next r =
      λ i h r k. edge_same r (edge_of t r i (omega arith) (ap (mem r) (edges_from_lem i (omega arith)) ∙ rw (← ef) k)) in
      record {
        heads = edge_heads (states_at T) (productions_at T) ef ep;
        stands = rw (region_same t edge_quad (edge_at t) (states_at T) (productions_at T) 1 (edge_lists T) (omega arith) (omega arith) is kept (edges_at T)) at (regions T).edges;
        size = region_size t edge_quad (edge_at t) (states_at T) (productions_at T) 1 (edge_lists T) (omega arith) (omega arith) is kept;
      }

pub kind-back : (k x : ℕ) → k < 2 → kind_of (symbol_of_kind k x) ≡ k
unfolding kind_of symbol_of_kind
kind-back zero x h = refl
kind-back (suc zero) x h = refl
kind-back (suc (suc k)) x h = absurd (omega arith)
