-- A chain followed record by record: its number of records, and the productions that it holds.
use mathlib.Core.Path.{◌≡◌, sym, ap, ◌∙◌}
use mathlib.Core.Bool.{true}
use mathlib.Core.List.{List, [], ◌∷◌}
use Prim.Native.Nat.{ℕ, ◌+◌, ◌-◌, min, ◌≤◌, ◌<◌}
use native.Mathlib.Omega.{arith}
use native.Mathlib.Decide.{ℕ_discrete}
use lib.ListN.{length, get_or, set, length-set}
use lib.Seq.{get_or-set_same, get_or-set_other}
use Rattle.lr1_base.specs.repr.Sizes.{index_limit}
use Rattle.table.specs.Words.{Area, word_at, records, production_area, loose_records, production_records, names, chain}
use Rattle.table.specs.Decoded.{production_chain, symbol_chain}
use Rattle.lr1_base.specs.repr.Lists.{mem}
use Rattle.lr1_base.proofs.repr.Lists.{mem-cons_here, mem-cons_there}
use Rattle.table.proofs.Chains.{named, chain-step, chain_member}
use Rattle.table_check.specs.Marks.{Lengths}
use Rattle.table_check.specs.Known.{AreasOf, area, bump}
use Rattle.table_check.specs.declared.areas.Areas.{Areas}

module _ (t : List ℕ) (from past last r : ℕ) (whole : past ≤ records t) where
  -- a good index is the first of what is left, and after it stands the chain from its next index
  pub step : names (area from past) last r ≡ true → (x : ℕ) → x ≡ word_at t r 0 → chain t (area from past) last r ≡ r ∷ chain t (area from past) r x
  step e x q =
      let n = named (area from past) last r e in
      chain-step t (area from past) whole last r (λ z. let l = n.later in omega arith) e ∙ ap (λ (y : ℕ). r ∷ chain t (area from past) r y) (sym q)

-- ---- the productions of a chain, held: what is left of it is in the area, and gives what all of it is to give
pub record Holding (from past : ℕ) (xs hs all : List ℕ) : Type 0 where
  pub long : length hs ≡ 128
  pub rest : bump from hs xs ≡ all
  pub inside : (y : ℕ) → mem y xs ≡ true → (from ≤ y) × (y < past)

module _ {from past r : ℕ} {xs hs all : List ℕ} where
  pub hold_here : Holding from past (r ∷ xs) hs all → (from ≤ r) × (r < past)
  hold_here H = H.inside r (mem-cons_here r xs)

  pub hold_more : (m : ℕ) → m ≡ min 2 (get_or hs (r - from) 0 + 1) → Holding from past (r ∷ xs) hs all → Holding from past xs (set hs (r - from) m) all
  unfolding bump
  hold_more m e H = record { long = simp length-set H.long; rest = rw e H.rest; inside = λ y k. H.inside y (mem-cons_there y r xs k) }

pub hold_end : {from past : ℕ} {hs all : List ℕ} → Holding from past [] hs all → hs ≡ all
unfolding bump
hold_end H = H.rest

-- ---- the two chains, by the areas
module _ (t : List ℕ) (a : Areas) (A : AreasOf t a) (r : Area) where
  pub symbols_begin : r ≡ loose_records t → (p last x : ℕ) → last ≡ a.productions_at + p → x ≡ word_at t last 1 → chain t r last x ≡ symbol_chain t p
  unfolding symbol_chain
  symbols_begin h p last x e q = let z : last ≡ production_area t + p = rw (← A.productions_at) e in rw (q, z, h)

  pub productions_begin : r ≡ production_records t → (n last x : ℕ) → last ≡ 1 + n → x ≡ word_at t last 0 → chain t r last x ≡ production_chain t n
  unfolding production_chain
  productions_begin h n last x e q = rw (q, e, h)

  pub hold_begin : r ≡ production_records t → r.from ≡ a.productions_at → r.past ≡ a.loose_at → (n last x : ℕ) → last ≡ 1 + n → x ≡ word_at t last 0 → (hs : List ℕ) → length hs ≡ 128
      → Holding a.productions_at a.loose_at (chain t r last x) hs (bump (production_area t) hs (production_chain t n))
  hold_begin h f p n last x e q hs l = record {
    long = l;
    rest = rw (A.productions_at, productions_begin h n last x e q);
    inside = λ y m. let k = chain_member t r last x y m in (omega (arith, k.inside, f), omega (arith, k.early, p));
  }

-- ---- the lengths so far
pub lengths-more : (t ls : List ℕ) (p v : ℕ) → p < length ls → v ≡ min index_limit (length (symbol_chain t p)) → ((q : ℕ) → q < p → get_or ls q 0 ≡ min index_limit (length (symbol_chain t q)))
    → (q : ℕ) → q < p + 1 → get_or (set ls p v) q 0 ≡ min index_limit (length (symbol_chain t q))
lengths-more t ls p v h e f q l = go (ℕ_discrete q p)
  where
    go : Dec (q ≡ p) → get_or (set ls p v) q 0 ≡ min index_limit (length (symbol_chain t q))
    go (yes z) = rw z (get_or-set_same ls p v 0 h ∙ e)
    go (no ne) = get_or-set_other ls p q v 0 ne ∙ f q (omega arith)

pub lengths-all : (t ls : List ℕ) (k p : ℕ) → k ≡ word_at t 0 3 → k ≤ p → ((q : ℕ) → q < p → get_or ls q 0 ≡ min index_limit (length (symbol_chain t q))) → Lengths t ls
lengths-all t ls k p e h f q l = f q (omega arith)
