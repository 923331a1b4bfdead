-- Laws of the writing of states, items and edges.
use mathlib.Core.Path.{refl, ◌≡◌, sym, ap, ◌∙◌}
use mathlib.Core.List.{List, [], ◌∷◌, map}
use Prim.Native.Nat.{ℕ, zero, suc, ◌+◌, ◌-◌, ◌*◌, ◌/◌, ◌%◌, ◌≤◌, ◌<◌}
use native.Mathlib.Omega.{arith}
use lib.ListN.{length, get_or, drop, length-drop}
use Rattle.lr1_base.specs.repr.Sizes.{index_limit, record_limit, state_limit}
use Rattle.lr1_base.specs.repr.Lists.{up_from}
use Rattle.lr1_base.specs.repr.Listed.{symbol_of_kind}
use Rattle.lr1_base.specs.repr.Meaning.{Symbol, nonterminal, Item, Edge, State, Table, no_state, state_at}
use Rattle.lr1_base.proofs.repr.Lists.{length-up_from, get_d_up_from, get_d_map, length_mapped}
use Rattle.table.specs.Quads.{Quad, no_quad, put_quad}
use Rattle.table_rewrite.specs.spelling.Spelled.{head_of, chain_from, place_of, size_of, item_quad, edge_quad, item_lists, edge_lists, states_at, productions_at, items_place, edges_at, records_of, state_quad, quads}
use Rattle.table_rewrite.specs.spelling.Grown.{Grown, Room, Stands}
use Rattle.table_rewrite.proofs.spelling.Laid.{length_chain_from, get_d_chain_from}
use Rattle.table_rewrite.proofs.spelling.Places.{begins, regions, state_at_lem, items_stand, edges_stand, items_within, edges_within, spell_next, spell_one, spell_two, spell_three}
use Rattle.table_rewrite.proofs.spelling.Grown.{grown-join, grown-put, place-start, place-next}
use Rattle.table_rewrite.proofs.spelling.Writing.{room_same}
use Rattle.table_rewrite.proofs.spelling.Areas.{head-is}
use Rattle.lr1_states.specs.stored_item.Stored.{Entry, no_entry, entry_at, entries}
use Rattle.lr1_states.specs.state_list.Kept.{state_in}
use Rattle.lr1_states.specs.transitions.Taking.{edge_of, edges_in}
use Rattle.lr1_states.specs.collection.Rows.{row_in}
use Rattle.lr1_tables.specs.state_records.Rows.{BeginsOf, item_of, ItemsIn, EdgesIn}
use Rattle.table_rewrite.proofs.spelling.Sources.{kind-back, number-back}

-- lists one behind the other

module _ {ℓ} {A : Type ℓ} (xss : List (List A)) (bs : List ℕ) (B : BeginsOf xss bs) where
  place_is : (o k : ℕ) → k ≤ length xss → place_of o xss k ≡ o + get_or bs k 0
  place_is o zero h = place-start o xss ∙ omega (arith, B.front)
  place_is o (suc k) h =
      let z : k + 1 ≡ suc k = omega arith in
      let p = place-next o xss k h in
      let q = place_is o k (omega arith) in
      let n : get_or bs (suc k) 0 ≡ get_or bs k 0 + length (get_or xss k []) = rw z at (B.next k h) in
      omega arith

place-all {ℓ} : {A : Type ℓ} (o : ℕ) (xss : List (List A)) → place_of o xss (length xss) ≡ o + size_of xss
unfolding place_of size_of
place-all o [] = omega arith
place-all o (xs ∷ xss) = place-all (o + length xs) xss ∙ omega arith

-- one chain: its elements have the numbers from `from` up to `past`, m is one of them

module _ {ℓ} {A : Type ℓ} (f : ℕ → A → Quad) (xs : List A) (at from past m : ℕ) (long : length xs ≡ past - from) (low : from ≤ m) (less : m < past) (g₀ : List ℕ) where
  inside : (U : Table) → Stands (quads U) (at + from) (chain_from f (at + from) xs) → at + m < records_of U
  inside U S = let l = length_chain_from f (at + from) xs in let q = (regions U).long in omega (arith, S.within)

  pub chain-below : (p : (U : Table) × (Stands (quads U) (at + from) (chain_from f (at + from) xs) × Room U g₀)) → at + m < record_limit
  chain-below (U, (S, R)) = omega (arith, inside U S, R.few)

  pub chain-room : (p : (U : Table) × (Stands (quads U) (at + from) (chain_from f (at + from) xs) × Room U g₀)) (g : List ℕ) → length g ≡ length g₀
      → (at + m < record_limit) × ((at + m) * 4 + 3 < length g)
  chain-room (U, (S, R)) g e = (chain-below (U, (S, R)), omega (arith, inside U S, R.long))

  module _ (U : Table) (S : Stands (quads U) (at + from) (chain_from f (at + from) xs)) (r : ℕ) (n : (past - m - 1 ≡ 0 → r ≡ 0) × ((past - m - 1 ≡ 0 → ⊥) → r ≡ at + m + 1)) where
    chain_at : (d : A) → get_or (quads U) (at + m) no_quad ≡ f r (get_or xs (m - from) d)
    chain_at d =
        let z : at + m ≡ at + from + (m - from) = omega arith in
        let y : at + m + 1 ≡ at + from + suc (m - from) = omega arith in
        let b : m - from < length xs = omega arith in
        let l = length_chain_from f (at + from) xs in
        let i : m - from < length (chain_from f (at + from) xs) = omega arith in
        let e : r ≡ head_of (at + from + suc (m - from)) (drop (suc (m - from)) xs) =
        head-is (at + m + 1) (drop (suc (m - from)) xs) (past - m - 1) r (omega (arith, length-drop (suc (m - from)) xs)) n ∙ ap (λ (o : ℕ). head_of o (drop (suc (m - from)) xs)) y in
        rw z (S.at (m - from) i ∙ get_d_chain_from f (at + from) xs (m - from) d b ∙ ap (λ (o : ℕ). f o (get_or xs (m - from) d)) (sym e))

    pub chain-put : Room U g₀ → (g g' : List ℕ) (a b c : ℕ) (d : A) → length g ≡ length g₀ → f r (get_or xs (m - from) d) ≡ record { next = r; one = a; two = b; three = c }
        → g' ≡ put_quad g (at + m) r a b c → Grown U g₀ g (at + from) (at + m) → Grown U g₀ g' (at + from) (at + (m + 1))
    chain-put R g g' a b c d same w eg G =
        let q = chain_at d ∙ w in
        let z : at + m + 1 ≡ at + (m + 1) = omega arith in
        let P : Grown U g g' (at + m) (at + m + 1) =
        rw eg (grown-put U g (at + m) r a b c (chain-room (U, (S, R)) g same).1 (sym (spell_next U (at + m) _ q)) (sym (spell_one U (at + m) _ q)) (sym (spell_two U (at + m) _ q)) (sym (spell_three U (at + m) _ q))) in
        rw z at (grown-join U g₀ g g' (at + from) (at + m) (at + m + 1) G P)

-- the items and edges of a state by number

module _ {ℓ} {A : Type ℓ} (h : ℕ → A) (from past : ℕ) where
  numbered_long : length (map h (up_from from (past - from))) ≡ past - from
  numbered_long = length_mapped h (up_from from (past - from)) ∙ length-up_from from (past - from)

  numbered_at : (m : ℕ) (d : A) → from ≤ m → m < past → get_or (map h (up_from from (past - from))) (m - from) d ≡ h m
  numbered_at m d low less =
      let l = length-up_from from (past - from) in
      let z : from + (m - from) ≡ m = omega arith in
      get_d_map h (up_from from (past - from)) (m - from) 0 d (omega arith) ∙ ap h (get_d_up_from from (past - from) (m - from) 0 (omega arith) ∙ z)

abbrev pub no_item : Item
no_item = record { production = 0; index = 0 }

module _ (ws : List ℕ) (from past : ℕ) where
  pub items_long : length (map item_of (entries ws from (past - from))) ≡ past - from
  unfolding entries
  items_long = length_mapped item_of (entries ws from (past - from)) ∙ numbered_long (entry_at ws) from past

  pub item_quad_lem : (m place r : ℕ) (d : Item) → from ≤ m → m < past → place ≡ get_or ws (m * 5) 0
      → item_quad r (get_or (map item_of (entries ws from (past - from))) (m - from) d) ≡ record { next = r; one = place / index_limit; two = place % index_limit; three = 0 }
  unfolding entries entry_at
  item_quad_lem m place r d low less e =
      let l = numbered_long (entry_at ws) from past in
      ap (item_quad r) (get_d_map item_of (entries ws from (past - from)) (m - from) no_entry d (omega arith) ∙ ap item_of (numbered_at (entry_at ws) from past m no_entry low less))
      ∙ rw e

pub place_word : (ws : List ℕ) (m x s : ℕ) → record { place = x; set = s } ≡ entry_at ws m → x ≡ get_or ws (m * 5) 0
unfolding entry_at
place_word ws m x s e = ap (λ (d : Entry). d.place) e

pub target_small : (w t : ℕ) (X : Symbol) → record { symbol = X; target = t } ≡ edge_of w → t < 128
unfolding edge_of
target_small w t X e = omega (arith, ap (λ (d : Edge). d.target) e)

abbrev pub no_edge : Edge
no_edge = record { symbol = nonterminal 0; target = 0 }

module _ (E : List ℕ) (from past : ℕ) where
  pub edges_long : length (edges_in E from (past - from)) ≡ past - from
  unfolding edges_in
  edges_long = numbered_long (λ i. edge_of (get_or E i 0)) from past

  edge_at_lem : (m w : ℕ) (d : Edge) → from ≤ m → m < past → w ≡ get_or E m 0 → get_or (edges_in E from (past - from)) (m - from) d ≡ edge_of w
  unfolding edges_in
  edge_at_lem m w d low less e = numbered_at (λ i. edge_of (get_or E i 0)) from past m d low less ∙ ap edge_of (sym e)

  pub edge_quad_lem : (m w r k x t : ℕ) (X : Symbol) (d : Edge) → from ≤ m → m < past → w ≡ get_or E m 0 → record { symbol = X; target = t } ≡ edge_of w → symbol_of_kind k x ≡ X → k < 2
      → edge_quad r (get_or (edges_in E from (past - from)) (m - from) d) ≡ record { next = r; one = k; two = x; three = t }
  edge_quad_lem m w r k x t X d low less e q z h = ap (edge_quad r) (edge_at_lem m w d low less e ∙ sym q) ∙ rw (← z, kind-back k x h, number-back k x) refl

-- the lists of all states

module _ {ℓ} {A : Type ℓ} (U : Table) (g : State → List A) (bs : List ℕ) (B : BeginsOf (map g U.states) bs) where
  pub rows_few : length U.states ≤ state_limit
  rows_few = omega (arith, B.few, length_mapped g U.states)

  pub rows_count : (k : ℕ) → k < length U.states → get_or bs (k + 1) 0 ≡ get_or bs k 0 + length (g (state_at U k))
  rows_count k h = B.next k (omega (arith, length_mapped g U.states)) ∙ ap (λ (xs : List A). get_or bs k 0 + length xs) (get_d_map g U.states k no_state [] h)

  rows_place : (o k : ℕ) → k < length U.states → place_of o (map g U.states) k ≡ o + get_or bs k 0
  rows_place o k h = place_is (map g U.states) bs B o k (omega (arith, length_mapped g U.states))

  rows_end : (o k : ℕ) → k ≡ length U.states → o + get_or bs k 0 ≡ o + size_of (map g U.states)
  rows_end o k e =
      let l : k ≡ length (map g U.states) = omega (arith, length_mapped g U.states) in
      sym (place_is (map g U.states) bs B o k (omega arith)) ∙ ap (place_of o (map g U.states)) l ∙ place-all o (map g U.states)

-- the list xs of state k stands where the words say, and so it is written
module _ {ℓ} {A : Type ℓ} (U : Table) (f : ℕ → A → Quad) (g : State → List A) (o : ℕ)
    (stand : (k : ℕ) → k < length U.states → Stands (quads U) (place_of o (map g U.states) k) (chain_from f (place_of o (map g U.states) k) (g (state_at U k))))
    (bs : List ℕ) (B : BeginsOf (map g U.states) bs) (k at : ℕ) (h : k < length U.states) (e : at ≡ o) (xs : List A) (x : xs ≡ g (state_at U k)) where
  rows_here : Stands (quads U) (at + get_or bs k 0) (chain_from f (at + get_or bs k 0) xs)
  rows_here = rw (x, e, ← rows_place U g bs B o k h) (stand k h)

  rows_more : (w₀ w w' : List ℕ) → length w ≡ length w₀ → Room U w₀
      → ((T : Table) → Stands (quads T) (at + get_or bs k 0) (chain_from f (at + get_or bs k 0) xs) → Room T w → Grown T w w' (at + get_or bs k 0) (at + get_or bs (k + 1) 0))
      → Grown U w w' (o + get_or bs k 0) (o + get_or bs (k + 1) 0)
  rows_more w₀ w w' l R wrote = rw e at (wrote U rows_here (room_same U w₀ w l R))

module _ (U : Table) (ws bs : List ℕ) (I : ItemsIn U ws bs) (k items : ℕ) (h : k < length U.states) (e : items ≡ items_place U) where
  abbrev items_of : List Item
  items_of = map item_of (entries ws (get_or bs k 0) (get_or bs (k + 1) 0 - get_or bs k 0))

  items_are : items_of ≡ (state_at U k).items
  unfolding state_in
  items_are = I.is k h

  pub items_here : Stands (quads U) (items + get_or bs k 0) (chain_from item_quad (items + get_or bs k 0) items_of)
  items_here = rows_here U item_quad (λ (s : State). s.items) (items_place U) (items_stand U) bs I.begins k items h e items_of items_are

  pub items_more : (w₀ w w' : List ℕ) → length w ≡ length w₀ → Room U w₀
      → ((T : Table) → Stands (quads T) (items + get_or bs k 0) (chain_from item_quad (items + get_or bs k 0) items_of) → Room T w → Grown T w w' (items + get_or bs k 0) (items + get_or bs (k + 1) 0))
      → Grown U w w' (items_place U + get_or bs k 0) (items_place U + get_or bs (k + 1) 0)
  items_more = rows_more U item_quad (λ (s : State). s.items) (items_place U) (items_stand U) bs I.begins k items h e items_of items_are

module _ (U : Table) (E es : List ℕ) (I : EdgesIn U E es) (k at : ℕ) (h : k < length U.states) (e : at ≡ edges_at U) where
  abbrev edges_of_lem : List Edge
  edges_of_lem = edges_in E (get_or es k 0) (get_or es (k + 1) 0 - get_or es k 0)

  edges_are : edges_of_lem ≡ (state_at U k).edges
  unfolding row_in
  edges_are = I.is k h

  pub edges_here : Stands (quads U) (at + get_or es k 0) (chain_from edge_quad (at + get_or es k 0) edges_of_lem)
  edges_here = rows_here U edge_quad (λ (s : State). s.edges) (edges_at U) (edges_stand U) es I.begins k at h e edges_of_lem edges_are

  pub edges_more : (w₀ w w' : List ℕ) → length w ≡ length w₀ → Room U w₀
      → ((T : Table) → Stands (quads T) (at + get_or es k 0) (chain_from edge_quad (at + get_or es k 0) edges_of_lem) → Room T w → Grown T w w' (at + get_or es k 0) (at + get_or es (k + 1) 0))
      → Grown U w w' (edges_at U + get_or es k 0) (edges_at U + get_or es (k + 1) 0)
  edges_more = rows_more U edge_quad (λ (s : State). s.edges) (edges_at U) (edges_stand U) es I.begins k at h e edges_of_lem edges_are

-- a state's record

module _ (U : Table) (g₀ : List ℕ) (R : Room U g₀) (s : ℕ) (h : s < length U.states) where
  pub state_items : (bs : List ℕ) → BeginsOf (item_lists U) bs → (items : ℕ) → items ≡ items_place U → items + get_or bs s 0 ≤ record_limit
  state_items bs B items e = let p = rows_place U (λ (q : State). q.items) bs B (items_place U) s h in omega (arith, (items_within U s h).before, R.few)

  pub state_edges : (es : List ℕ) → BeginsOf (edge_lists U) es → (edges : ℕ) → edges ≡ edges_at U → edges + get_or es s 0 ≤ record_limit
  state_edges es D edges e = let p = rows_place U (λ (q : State). q.edges) es D (edges_at U) s h in omega (arith, (edges_within U s h).before, R.few)

  pub state_room : (at : ℕ) (g : List ℕ) → at ≡ states_at U → length g ≡ length g₀ → (at + s < record_limit) × ((at + s) * 4 + 3 < length g)
  state_room at g e l = let b = begins U in (omega (arith, R.few), omega (arith, R.long))

  pub state_put : (bs es : List ℕ) (at items edges x y : ℕ) (g g' : List ℕ) → BeginsOf (item_lists U) bs → BeginsOf (edge_lists U) es → at ≡ states_at U → items ≡ items_place U → edges ≡ edges_at U → length g ≡ length g₀
      → (get_or bs (s + 1) 0 - get_or bs s 0 ≡ 0 → x ≡ 0) × ((get_or bs (s + 1) 0 - get_or bs s 0 ≡ 0 → ⊥) → x ≡ items + get_or bs s 0)
      → (get_or es (s + 1) 0 - get_or es s 0 ≡ 0 → y ≡ 0) × ((get_or es (s + 1) 0 - get_or es s 0 ≡ 0 → ⊥) → y ≡ edges + get_or es s 0)
      → g' ≡ put_quad g (at + s) x y 0 0 → Grown U g₀ g (states_at U) (states_at U + s) → Grown U g₀ g' (states_at U) (states_at U + (s + 1))
  unfolding state_quad
  state_put bs es at items edges x y g g' B D ea ei ee l hx hy eg G =
      let i = rows_count U (λ (q : State). q.items) bs B s h in
      let e = rows_count U (λ (q : State). q.edges) es D s h in
      let p = rows_place U (λ (q : State). q.items) bs B (items_place U) s h in
      let q = rows_place U (λ (q : State). q.edges) es D (edges_at U) s h in
      let x' : x ≡ head_of (place_of (items_place U) (item_lists U) s) (state_at U s).items = rw (p, ← ei) (head-is (items + get_or bs s 0) (state_at U s).items _ x (omega arith) hx) in
      let y' : y ≡ head_of (place_of (edges_at U) (edge_lists U) s) (state_at U s).edges = rw (q, ← ee) (head-is (edges + get_or es s 0) (state_at U s).edges _ y (omega arith) hy) in
      let z : states_at U + s + 1 ≡ states_at U + (s + 1) = omega arith in
      let w = state_at_lem U s h in
      let P : Grown U g g' (states_at U + s) (states_at U + s + 1) =
      rw (eg, ea) (grown-put U g (states_at U + s) x y 0 0 (rw ea at (state_room at g ea l).1) (x' ∙ sym (spell_next U (states_at U + s) (state_quad U s) w)) (y' ∙ sym (spell_one U (states_at U + s) (state_quad U s) w))
      (sym (spell_two U (states_at U + s) (state_quad U s) w)) (sym (spell_three U (states_at U + s) (state_quad U s) w))) in
      rw z at (grown-join U g₀ g g' (states_at U) (states_at U + s) (states_at U + s + 1) G P)

-- the regions end where their last state's do

pub states_end : (U : Table) (s : ℕ) → s ≡ length U.states → states_at U + s ≡ productions_at U
states_end U s e = omega (arith, (begins U).productions)

pub items_end : (U : Table) (ws bs : List ℕ) (k : ℕ) → ItemsIn U ws bs → k ≡ length U.states → items_place U + get_or bs k 0 ≡ edges_at U
items_end U ws bs k I e = rows_end U (λ (q : State). q.items) bs I.begins (items_place U) k e ∙ sym (begins U).edges

pub edges_end : (U : Table) (E es : List ℕ) (k : ℕ) → EdgesIn U E es → k ≡ length U.states → edges_at U + get_or es k 0 ≡ records_of U
edges_end U E es k I e = rows_end U (λ (q : State). q.edges) es I.begins (edges_at U) k e ∙ sym (begins U).past
