-- What each accessor reads from an accepted table (specs/Index): the first index of a chain, a record and the index of the next.
use mathlib.Core.Path.{◌≡◌, sym, ap, ◌∙◌}
use mathlib.Core.Bool.{true, false}
use mathlib.Core.List.{List, [], ◌∷◌, map}
use Prim.Native.Nat.{ℕ, ◌+◌, ◌-◌, ◌*◌, ◌/◌, ◌≤◌, ◌<◌}
use native.Mathlib.Omega.{arith}
use lib.ListN.{length, get_or}
use lib.Dec.{eqb}
use borrow.Author.Tests.{eqb-true, eqb-false, le-leb, lt-ltb}
use Rattle.lr1_base.specs.repr.Sizes.{record_limit}
use Rattle.lr1_base.specs.repr.Meaning.{State, state_at}
use Rattle.lr1_base.proofs.repr.Lists.{cases}
use Rattle.table.specs.Checked.{Accepted}
use Rattle.table.specs.Words.{word_at, records, nonterminals, states, productions, state_area, production_area, loose, loose_records, production_records, against, names, chain}
use Rattle.table.specs.Decoded.{production_chain, item_chain, edge_chain, item_at, edge_at, state_of, productions_of, meaning, items_from, edges_from, productions_from}
use Rattle.table.specs.Refusals.{is_production, check_of}
use Rattle.table.specs.Index.{CountsOf, ItemIndex, EdgeIndex, ProductionHead, ItemRead, EdgeRead, ProductionRead}
use Rattle.table.proofs.Chains.{named, names_good, good_of, chain-step, chain-from, loose-whole, production-whole}
use Rattle.table.proofs.Accepted.{Accepts, accepts, areas_of, nonterminal-head, item-head, edge_head, production-next, production_in_lem}
use Rattle.table.proofs.Held.{item-inside, edge_inside, item-first_as, edge_first_as, item_on, edge_on, item-next_as, edge_next_as, loose_small, loose-later}
use Rattle.table.proofs.Decoding.{many_nonterminals, many_terminals, many_states, many_productions, nonterminal_at, state_at_lem, fits, item_fits, edge_in_range, target_in_range}
use Rattle.lr1_base.proofs.laws.Bools.{both}

-- a record of the table, as the code asks for it
pub inside : (t : List ℕ) → Accepts t → (r k : ℕ) → r < records t → k < 4 → (r < record_limit) × ((k < 4) × (r * 4 + k < length t))
inside t A r k h l = (omega arith, (l, omega arith))

pub counts : (t : List ℕ) → check_of t ≡ Accepted → (n m s p : ℕ) → n ≡ word_at t 0 0 → m ≡ word_at t 0 1 → s ≡ word_at t 0 2 → p ≡ word_at t 0 3 → CountsOf (meaning t) n m s p
counts t e n m s p en em es ep = record {
  nonterminals = en ∙ sym (many_nonterminals t);
  terminals = em ∙ sym (many_terminals t);
  states = es ∙ sym (many_states t);
  productions = ep ∙ sym (many_productions t);
  fits = fits t e;
}

-- chains of loose records: from an index that its holder gave, and past a record

loose_good : (t : List ℕ) (x : ℕ) → loose t ≤ x → x < records t → names (loose_records t) 0 x ≡ true
unfolding loose_records loose production_area state_area
loose_good t x h l = names_good (loose_records t) 0 x h l (omega arith)

pub loose_past : (t : List ℕ) (x : ℕ) → loose t ≤ x → x < records t → against (loose_records t) x (word_at t x 0) ≡ false
    → chain t (loose_records t) 0 x ≡ x ∷ chain t (loose_records t) 0 (word_at t x 0)
loose_past t x h l e =
    let z : loose t ≡ 1 + nonterminals t + states t + productions t = (areas_of t).loose-area in
    chain-step t (loose_records t) (loose-whole t) 0 x (λ q. omega arith) (loose_good t x h l)
    ∙ ap (λ (c : List ℕ). x ∷ c) (chain-from t (loose_records t) (loose-whole t) x (word_at t x 0) e)

module _ (t : List ℕ) (A : Accepts t) where
  -- items

  pub item-first : (s x : ℕ) → s < states t → x ≡ word_at t (state_area t + s) 0 → (items_from t x ≡ (state_at (meaning t) s).items) × ItemIndex t x
  unfolding items_from state_of item_chain
  item-first s x h ex = (
    ap (λ (y : ℕ). map (item_at t) (chain t (loose_records t) 0 y)) ex
        ∙ sym (ap (map (item_at t)) (chain-from t (loose_records t) (loose-whole t) (state_area t + s) (word_at t (state_area t + s) 0) (item-head t A s h)))
        ∙ sym (ap (λ (q : State). q.items) (state_at_lem t s h)),
    rw ex (record { below = loose_small t A (state_area t + s) (word_at t (state_area t + s) 0) (item-head t A s h); reached = item-first_as t A s h }),
  )

  pub item-read : (at next production index : ℕ) → (at ≡ 0 → ⊥) → ItemIndex t at → next ≡ word_at t at 0 → production ≡ word_at t at 1 → index ≡ word_at t at 2
      → ItemRead t at next production index
  unfolding items_from item_at
  item-read at next production index ne I en ep ei =
      let e = I.reached ne in
      let i = item-inside t at e in
      rw (en, ep, ei) (record {
        list = ap (map (item_at t)) (loose_past t at i.0 i.1 (item_on t A at e));
        on = record { below = loose_small t A at (word_at t at 0) (item_on t A at e); reached = item-next_as t A at e };
        later = loose-later t A at (word_at t at 0) (item_on t A at e);
        fits = item_fits t A at e;
      })

  -- edges

  pub edge_first : (s x : ℕ) → s < states t → x ≡ word_at t (state_area t + s) 1 → (edges_from t x ≡ (state_at (meaning t) s).edges) × EdgeIndex t x
  unfolding edges_from state_of edge_chain
  edge_first s x h ex = (
    ap (λ (y : ℕ). map (edge_at t) (chain t (loose_records t) 0 y)) ex
        ∙ sym (ap (map (edge_at t)) (chain-from t (loose_records t) (loose-whole t) (state_area t + s) (word_at t (state_area t + s) 1) (edge_head t A s h)))
        ∙ sym (ap (λ (q : State). q.edges) (state_at_lem t s h)),
    rw ex (record { below = loose_small t A (state_area t + s) (word_at t (state_area t + s) 1) (edge_head t A s h); reached = edge_first_as t A s h }),
  )

  pub edge_read_lem : (at next kind number target : ℕ) → (at ≡ 0 → ⊥) → EdgeIndex t at
      → next ≡ word_at t at 0 → kind ≡ word_at t at 1 → number ≡ word_at t at 2 → target ≡ word_at t at 3 → EdgeRead t at next kind number target
  unfolding edges_from edge_at
  edge_read_lem at next kind number target ne I en ek ex et =
      let e = I.reached ne in
      let i = edge_inside t at e in
      rw (en, ek, ex, et) (record {
        list = ap (map (edge_at t)) (loose_past t at i.0 i.1 (edge_on t A at e));
        on = record { below = loose_small t A at (word_at t at 0) (edge_on t A at e); reached = edge_next_as t A at e };
        later = loose-later t A at (word_at t at 0) (edge_on t A at e);
        symbol = edge_in_range t A at e;
        inside = target_in_range t A at e;
      })

  -- productions

  production_index : (r x : ℕ) → against (production_records t) r x ≡ false → ProductionHead t x
  unfolding production_records is_production
  production_index r x e = record {
    below =
        cases (eqb x 0)
        (λ q. let z = eqb-true x 0 q in omega arith)
        (λ q. let n = named (production_records t) r x (good_of (production_records t) r x e (eqb-false x 0 q)) in omega (arith, A.areas, A.few_records));
    inside = λ ne. let n = named (production_records t) r x (good_of (production_records t) r x e ne) in
        both _ _ (le-leb (production_area t) x n.inside) (lt-ltb x (loose t) n.early);
  }

  pub production-first : (n x : ℕ) → n < nonterminals t → x ≡ word_at t (1 + n) 0 → (productions_from t x ≡ get_or (meaning t).nonterminals n []) × ProductionHead t x
  unfolding productions_from productions_of production_chain
  production-first n x h ex = (
    ap (λ (y : ℕ). map (λ r. r - production_area t) (chain t (production_records t) 0 y)) ex
        ∙ sym (ap (map (λ r. r - production_area t)) (chain-from t (production_records t) (production-whole t A.areas) (1 + n) (word_at t (1 + n) 0) (nonterminal-head t A n h)))
        ∙ sym (nonterminal_at t n h),
    rw ex (production_index (1 + n) (word_at t (1 + n) 0) (nonterminal-head t A n h)),
  )

  production_good : (x : ℕ) → is_production t x ≡ true → (x ≡ 0 → ⊥) × (names (production_records t) 0 x ≡ true)
  unfolding production_records
  production_good x e =
      let i = production_in_lem t x e in
      let z = areas_of t in
      ((λ q. omega arith), names_good (production_records t) 0 x i.0 i.1 (omega arith))

  pub production-read : (at next production : ℕ) → (at ≡ 0 → ⊥) → ProductionHead t at → next ≡ word_at t at 0 → production ≡ at - production_area t → ProductionRead t at next production
  unfolding productions_from
  production-read at next production ne H en ep =
      let e = H.inside ne in
      let i = production_in_lem t at e in
      let z = areas_of t in
      let g = production_good at e in
      let a = production-next t A at e in
      let w = production-whole t A.areas in
      let later : (word_at t at 0 ≡ 0 → ⊥) → at < word_at t at 0 = λ n. (named (production_records t) at (word_at t at 0) (good_of (production_records t) at (word_at t at 0) a n)).later in
      rw (en, ep) (record {
        list =
            ap (map (λ r. r - production_area t))
            (chain-step t (production_records t) w 0 at g.0 g.1
            ∙ ap (λ (c : List ℕ). at ∷ c) (chain-from t (production_records t) w at (word_at t at 0) a));
        on = production_index at (word_at t at 0) a;
        later = later;
        fits = rw (many_productions t) (omega arith);
      })

-- the same as the code has it: the table accepted, counts in locals. First what `word` asks for

abbrev pub Asked : List ℕ → ℕ → ℕ → Type 0
Asked t r k = (r < record_limit) × ((k < 4) × (r * 4 + k < length t))

records_of : (t : List ℕ) → length t / 4 ≡ records t
unfolding records
records_of t = λ i. length t / 4

module _ (t : List ℕ) (e : check_of t ≡ Accepted) where
  pub has_counts : 4 ≤ length t
  has_counts = let A = accepts t e in omega (arith, A.words, A.some_record)

  pub records_are : (length t / 4 ≡ records t) × (length t / 4 ≤ record_limit)
  records_are = let q : length t / 4 ≡ records t = records_of t in (q, rw q (accepts t e).few_records)

  pub state_asked : (s r k : ℕ) → r ≡ state_area t + s → s < length (meaning t).states → k < 4 → Asked t r k
  state_asked s r k er hs h =
      let A = accepts t e in
      let z = areas_of t in
      let m = many_states t in
      inside t A r k (omega arith) h

  pub nonterminal-asked : (n k : ℕ) → n < length (meaning t).nonterminals → k < 4 → Asked t (1 + n) k
  nonterminal-asked n k hn h =
      let A = accepts t e in
      let z = areas_of t in
      let m = many_nonterminals t in
      inside t A (1 + n) k (omega arith) h

  pub item-asked : (at k : ℕ) → (at ≡ 0 → ⊥) → ItemIndex t at → k < 4 → Asked t at k
  item-asked at k ne I h = inside t (accepts t e) at k (item-inside t at (I.reached ne)).1 h

  pub edge_asked : (at k : ℕ) → (at ≡ 0 → ⊥) → EdgeIndex t at → k < 4 → Asked t at k
  edge_asked at k ne I h = inside t (accepts t e) at k (edge_inside t at (I.reached ne)).1 h

  pub production-asked : (at k : ℕ) → (at ≡ 0 → ⊥) → ProductionHead t at → k < 4 → Asked t at k
  production-asked at k ne H h =
      let A = accepts t e in
      let i = production_in_lem t at (H.inside ne) in
      inside t A at k (omega arith) h

  -- the first index of a chain

  pub first_item_is : (s r x : ℕ) → r ≡ state_area t + s → s < length (meaning t).states → x ≡ word_at t r 0
      → (items_from t x ≡ (state_at (meaning t) s).items) × ItemIndex t x
  first_item_is s r x er hs ex = item-first t (accepts t e) s x (rw (many_states t) at hs) (ex ∙ ap (λ (r : ℕ). word_at t r 0) er)

  pub first_edge_is : (s r x : ℕ) → r ≡ state_area t + s → s < length (meaning t).states → x ≡ word_at t r 1
      → (edges_from t x ≡ (state_at (meaning t) s).edges) × EdgeIndex t x
  first_edge_is s r x er hs ex = edge_first t (accepts t e) s x (rw (many_states t) at hs) (ex ∙ ap (λ (r : ℕ). word_at t r 1) er)

  pub first_production_is : (n x : ℕ) → n < length (meaning t).nonterminals → x ≡ word_at t (1 + n) 0
      → (productions_from t x ≡ get_or (meaning t).nonterminals n []) × ProductionHead t x
  first_production_is n x hn ex = production-first t (accepts t e) n x (rw (many_nonterminals t) at hn) ex

  -- a production's number

  pub production-after : (at n s r : ℕ) → (at ≡ 0 → ⊥) → ProductionHead t at → n ≡ length (meaning t).nonterminals → s ≡ length (meaning t).states → r ≡ 1 + n + s → r ≤ at
  production-after at n s r ne H en es er =
      let i = production_in_lem t at (H.inside ne) in
      let z = (areas_of t).production_area_lem in
      let a = many_nonterminals t in
      let b = many_states t in
      omega arith

  pub production_is : (at n s r next : ℕ) → (at ≡ 0 → ⊥) → ProductionHead t at → n ≡ length (meaning t).nonterminals → s ≡ length (meaning t).states → r ≡ 1 + n + s
      → next ≡ word_at t at 0 → ProductionRead t at next (at - r)
  production_is at n s r next ne H en es er ex =
      let z = (areas_of t).production_area_lem in
      let a = many_nonterminals t in
      let b = many_states t in
      production-read t (accepts t e) at next (at - r) ne H ex (omega arith)

  -- a record's number

  pub state_record_is : (n r s : ℕ) → n ≡ length (meaning t).nonterminals → r ≡ 1 + n → r + s ≡ state_area t + s
  state_record_is n r s en er = let z = (areas_of t).state_area_lem in let a = many_nonterminals t in omega arith

  pub production_record_is : (n s r p : ℕ) → n ≡ length (meaning t).nonterminals → s ≡ length (meaning t).states → r ≡ 1 + n + s → r + p ≡ production_area t + p
  production_record_is n s r p en es er =
      let z = (areas_of t).production_area_lem in
      let a = many_nonterminals t in
      let b = many_states t in
      omega arith
