-- A chain of an accepted table read record by record, whatever it holds: an index, the record there, the chain after it.
use mathlib.Core.Path.{◌≡◌, refl}
use mathlib.Core.Bool.{Bool, true, false, ◌||◌}
use mathlib.Core.List.{List, [], ◌∷◌}
use Prim.Native.Nat.{ℕ, suc, ◌+◌, ◌-◌, ◌≤◌, ◌<◌}
use native.Mathlib.Omega.{arith}
use Rattle.lr1_base.specs.repr.Lists.{up_from}
use Rattle.table.specs.Checked.{Accepted}
use Rattle.table.specs.Words.{word_at, records, loose, loose_records, against}
use Rattle.table.specs.Refusals.{as_symbol, as_item, as_edge, check_of}
use Rattle.table.specs.Index.{ItemIndex, EdgeIndex}
use Rattle.table.specs.Written.{SymbolIndex}
use Rattle.table.proofs.Chains.{or_left, or_right, chain_end}
use Rattle.table.proofs.Accepted.{accepts}
use Rattle.table.proofs.Held.{symbol-inside, item-inside, edge_inside, symbol_on, item_on, edge_on, symbol-next_as, item-next_as, edge_next_as, loose_small}
use Rattle.table.proofs.Indexes.{Asked, inside, loose_past}
use Rattle.table_rewrite.specs.spelling.Grown.{records_from, LooseIndex, chains_of, Heads}
use Rattle.table_rewrite.specs.compaction.Compaction.{reached}

-- reached as one of the three

of_three : (a b c : Bool) {G : Type 0} → a || (b || c) ≡ true → (a ≡ true → G) → (b ≡ true → G) → (c ≡ true → G) → G
of_three true b c e f g h = f refl
of_three false true c e f g h = g refl
of_three false false c e f g h = h e

module _ (t : List ℕ) where
  pub as_symbol_lem : (r : ℕ) → as_symbol t r ≡ true → reached t r ≡ true
  unfolding reached
  as_symbol_lem r e = or_left (as_symbol t r) _ e

  pub as_item_lem : (r : ℕ) → as_item t r ≡ true → reached t r ≡ true
  unfolding reached
  as_item_lem r e = or_right (as_symbol t r) _ (or_left (as_item t r) _ e)

  pub as_edge_lem : (r : ℕ) → as_edge t r ≡ true → reached t r ≡ true
  unfolding reached
  as_edge_lem r e = or_right (as_symbol t r) _ (or_right (as_item t r) _ e)

  reached_as : {G : Type 0} (r : ℕ) → reached t r ≡ true → (as_symbol t r ≡ true → G) → (as_item t r ≡ true → G) → (as_edge t r ≡ true → G) → G
  unfolding reached
  reached_as r e f g h = of_three (as_symbol t r) (as_item t r) (as_edge t r) e f g h

  pub symbol_index : (x : ℕ) → SymbolIndex t x → LooseIndex t x
  symbol_index x I = record { below = I.below; is = λ ne. as_symbol_lem x (I.reached ne) }

  pub item_index : (x : ℕ) → ItemIndex t x → LooseIndex t x
  item_index x I = record { below = I.below; is = λ ne. as_item_lem x (I.reached ne) }

  pub edge_index : (x : ℕ) → EdgeIndex t x → LooseIndex t x
  edge_index x I = record { below = I.below; is = λ ne. as_edge_lem x (I.reached ne) }

  pub records_end : (x : ℕ) → x ≡ 0 → records_from t x ≡ []
  unfolding records_from
  records_end x z = rw z (chain_end t (loose_records t) 0)

module _ (t : List ℕ) (e : check_of t ≡ Accepted) (x : ℕ) (ne : x ≡ 0 → ⊥) (I : LooseIndex t x) where
  index_inside : (loose t ≤ x) × (x < records t)
  index_inside = reached_as t x (I.is ne) (symbol-inside t x) (item-inside t x) (edge_inside t x)

  index_on : against (loose_records t) x (word_at t x 0) ≡ false
  index_on = let A = accepts t e in reached_as t x (I.is ne) (symbol_on t A x) (item_on t A x) (edge_on t A x)

  -- its words may be read
  pub index_asked : (k : ℕ) → k < 4 → Asked t x k
  index_asked k h = inside t (accepts t e) x k index_inside.1 h

  -- its next index is an index, and the chain goes on there
  pub index_next : (next : ℕ) → next ≡ word_at t x 0 → LooseIndex t next
  index_next next en =
      let A = accepts t e in
      rw en (record {
        below = loose_small t A x (word_at t x 0) index_on;
        is = λ z. reached_as t x (I.is ne)
            (λ s. as_symbol_lem t (word_at t x 0) (symbol-next_as t A x s z))
            (λ s. as_item_lem t (word_at t x 0) (item-next_as t A x s z))
            (λ s. as_edge_lem t (word_at t x 0) (edge_next_as t A x s z));
      })

  pub records-more : (next : ℕ) → next ≡ word_at t x 0 → records_from t x ≡ x ∷ records_from t next
  unfolding records_from
  records-more next en = rw en (loose_past t x index_inside.0 index_inside.1 index_on)

-- the chains of a region one after the other

module _ (t : List ℕ) (first past k : ℕ) where
  pub chains_end : past ≤ first → chains_of t first past k ≡ []
  unfolding chains_of up_from
  chains_end h = let z : past - first ≡ 0 = omega arith in rw z

  pub chains_more : first < past → chains_of t first past k ≡ records_from t (word_at t first k) ∷ chains_of t (first + 1) past k
  unfolding chains_of up_from
  chains_more h =
      let z : past - first ≡ suc (past - (first + 1)) = omega arith in
      let y : first + 1 ≡ suc first = omega arith in
      rw (z, y)

  pub heads_more : Heads t first past k → first < past → Heads t (first + 1) past k
  heads_more H h = record { word = H.word; order = omega arith; inside = H.inside; heads = λ r a b. H.heads r (omega arith) b }

  pub heads_asked : check_of t ≡ Accepted → Heads t first past k → first < past → Asked t first k
  heads_asked e H h = inside t (accepts t e) first k (omega (arith, H.inside)) H.word
