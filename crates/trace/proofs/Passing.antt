-- The test whether a state's items lead to nothing new (specs/Passed): of one item, and of a chain from the front.
use Rattle.std.proofs.Common.{◌≡◌, ℕ, zero, suc, ◌+◌, ◌*◌, ◌<◌, true, false, eqb, List, [], ◌∷◌, length, get_or, drop, sym, refl, ap, ◌∙◌, arith, ltb-false, eqb-true}
use Rattle.lr1_base.specs.repr.Sizes.{production_limit, index_limit}
use Rattle.lr1_base.specs.repr.Lists.{some?}
use Rattle.lr1_base.specs.repr.Meaning.{Item, ItemFits, All, state_at}
use Rattle.lr1_base.specs.repr.Listed.{listed}
use Rattle.lr1_base.specs.repr.Packed.{symbol_words}
use Rattle.lr1_base.proofs.repr.Lists.{clash}
use Rattle.lr1_base.proofs.repr.Tests.{All-drop}
use Rattle.lr1_base.specs.item.Items.{shifts_nonterminal}
use Rattle.table.specs.Decoded.{meaning, items_from}
use Rattle.table.specs.Index.{ItemIndex, ItemRead}
use Rattle.table.proofs.Decoding.{fits}
use Rattle.trace_graph.specs.Graph.{TraceEdge, is_same_edge}
use Rattle.trace.specs.Traced.{can_shift}
use Rattle.trace.specs.Edges.{epsilon_edge}
use Rattle.trace.specs.Passed.{ItemPassed}
use Rattle.trace.proofs.Fuel.{owner_small}
use Rattle.lr1_base.specs.bits.Bits.{bit_at}
use Rattle.trace.specs.edge_codes.Coded.{Coded, SmallLeasts}
use Rattle.trace.proofs.edge_codes.Keys.{label_small}
use Rattle.trace.specs.Held.{Working}
use Rattle.trace.specs.Clear.{Clear}
use Rattle.trace.proofs.Turns.{items_none, work_many, work_owner, work_shift}

-- the item's production is packed, and its nonterminal is in range

module _ (t g : List ℕ) (productions : ℕ) (ls : List ℕ) (W : Working t g productions ls) (p x : ℕ) (I : ItemFits (meaning t) (record { production = p; index = x })) where
  pub packed_few : p < productions
  packed_few = let m = work_many t g productions ls W in let l = I.production in omega arith

  pub owner_few : get_or g (p * 36) 0 < 32
  owner_few = rw (work_owner t g productions ls W p x packed_few) (owner_small (meaning t) (fits t W.accepted) (record { production = p; index = x }))

-- what an edge is added or looked for by is small

pub edge_small : {t g : List ℕ} {productions : ℕ} {ls : List ℕ} → Working t g productions ls → (i : Item) → ItemFits (meaning t) i → (i.production < production_limit) × (i.index < index_limit) × SmallLeasts ls
edge_small {t} W i I = let s = label_small (meaning t) (fits t W.accepted) i I in (s.0, s.1, (W.least.long, W.small))

-- one item

module _ (t g : List ℕ) (productions : ℕ) (ls : List ℕ) (W : Working t g productions ls) (p x : ℕ) (I : ItemFits (meaning t) (record { production = p; index = x })) (v : List ℕ) (b : ℕ) (es : List TraceEdge) where
  abbrev Goal : Type 0
  Goal = ItemPassed (meaning t) (λ n. bit_at v (b * 32 + n)) es (record { production = p; index = x })

  shifts : (n : ℕ) → can_shift (meaning t) n (record { production = p; index = x }) ≡ true → shifts_nonterminal (listed (symbol_words g p)) x n ≡ true
  shifts n c = work_shift t g productions ls W p x n (packed_few t g productions ls W p x I) ∙ c

  pub none-shifted : ((n : ℕ) → shifts_nonterminal (listed (symbol_words g p)) x n ≡ false) → Goal
  none-shifted z = record { edge = λ n l d c. no n c; owner = λ n l d c _. no n c }
    where
      no : {A : Type 0} (n : ℕ) → can_shift (meaning t) n (record { production = p; index = x }) ≡ true → A
      no n c = clash _ (shifts n c) (z n)

  -- r: the nonterminal at its cursor
  pub none-entered : (r : ℕ) → ((n : ℕ) → shifts_nonterminal (listed (symbol_words g p)) x n ≡ eqb r n) → bit_at v (b * 32 + r) ≡ false → Goal
  none-entered r q z = record { edge = λ n l d c. no n d c; owner = λ n l d c _. no n d c }
    where
      no : {A : Type 0} (n : ℕ) → bit_at v (b * 32 + n) ≡ true → can_shift (meaning t) n (record { production = p; index = x }) ≡ true → A
      no n d c = clash (bit_at v (b * 32 + r)) (ap (λ (k : ℕ). bit_at v (b * 32 + k)) (eqb-true r n (sym (q n) ∙ shifts n c)) ∙ d) z

  module _ (k : (n : ℕ) → n < length (meaning t).nonterminals → can_shift (meaning t) n (record { production = p; index = x }) ≡ true → some? (is_same_edge (meaning t).productions (epsilon_edge (meaning t).productions (record { production = p; index = x }) n)) es ≡ true) where
    pub edge_there : 0 < x → Goal
    edge_there h = record { edge = λ n l d c. k n l c; owner = λ n l d c z. let y = ltb-false 0 x z in absurd (omega arith) }

    pub owner_there : (o : ℕ) → o ≡ get_or g (p * 36) 0 → bit_at v (b * 32 + o) ≡ true → Goal
    owner_there o e d =
        let w = work_owner t g productions ls W p x (packed_few t g productions ls W p x I) in
        record { edge = λ n l _ c. k n l c; owner = λ n l _ c _. rw (← w, ← e) d }

-- items that are all passed

pub clear_none : (t fs v : List ℕ) (b : ℕ) → Clear t fs v b (items_from t 0)
unfolding All
clear_none t fs v b ws es C = rw (items_none t) tt

-- further along the chain

drop_one : (k : ℕ) (is : List Item) → drop 1 (drop k is) ≡ drop (suc k) is
drop_one zero is = refl
drop_one (suc k) [] = refl
drop_one (suc k) (i ∷ is) = drop_one k is

abbrev pub Further : List ℕ → ℕ → ℕ → Type 0
Further t first at = ((k : ℕ) × (items_from t at ≡ drop k (items_from t first))) × ItemIndex t at

pub further_more : (t : List ℕ) (first at next p x : ℕ) → Further t first at → ItemRead t at next p x → Further t first next
further_more t first at next p x U R = ((suc U.0.0, ap (drop 1) (sym R.list) ∙ ap (drop 1) U.0.1 ∙ drop_one U.0.0 (items_from t first)), R.on)

-- the items of a state: where those that are left are passed all are

pub record Passing (t : List ℕ) (s : ℕ) (fs v : List ℕ) (b at : ℕ) : Type 0 where
  pub rest : Clear t fs v b (items_from t at) → Clear t fs v b (state_at (meaning t) s).items

module _ (t : List ℕ) (s : ℕ) (fs v : List ℕ) (b : ℕ) where
  pub clear_further : (first at : ℕ) → items_from t first ≡ (state_at (meaning t) s).items → Clear t fs v b (state_at (meaning t) s).items → Further t first at → Clear t fs v b (items_from t at)
  clear_further first at e a U ws es C = rw (U.0.1, e) (All-drop (ItemPassed (meaning t) (λ n. bit_at v (b * 32 + n)) es) U.0.0 (state_at (meaning t) s).items (a ws es C))

  pub passing_start : (at : ℕ) → items_from t at ≡ (state_at (meaning t) s).items → Passing t s fs v b at
  passing_start at e = record { rest = λ a. rw e at a }

  module _ (at : ℕ) (U : Passing t s fs v b at) where
    pub passing_more : (next p x : ℕ) → ItemRead t at next p x
        → ((ws : List ℕ) (es : List TraceEdge) → Coded (meaning t) ws fs es → ItemPassed (meaning t) (λ n. bit_at v (b * 32 + n)) es (record { production = p; index = x })) → Passing t s fs v b next
    unfolding All
    passing_more next p x R q = record { rest = λ a. U.rest (λ ws es C. rw R.list (q ws es C, a ws es C)) }

    pub passing_done : (k : ℕ) → at ≡ k → Clear t fs v b (items_from t k) → Clear t fs v b (state_at (meaning t) s).items
    passing_done k z a = U.rest (rw z a)
