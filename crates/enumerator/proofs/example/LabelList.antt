-- Laws of labels in words (specs/example/Labels, specs/example/Written): how many, label by label, each in range of the packed productions.
use Rattle.std.proofs.Common.{◌≡◌, ℕ, zero, suc, ◌+◌, ◌*◌, ◌/◌, ◌<◌, ◌≤◌, ltb, List, [], ◌∷◌, ◌++◌, length, get_or, take, drop, sym, refl, ap, add-one, arith, drop-cons, take-suc, ltb-false, ltb-true}
use lib.ListN.{get_or-eq_default}
use Rattle.lr1_base.specs.repr.Sizes.{production_place, grammar_room, reduction_limit, label_room}
use Rattle.lr1_base.specs.repr.Meaning.{Production, no_production}
use Rattle.lr1_base.specs.repr.Listed.{listed}
use Rattle.lr1_base.specs.repr.Packed.{symbol_words, production_in, productions_in, Packed}
use Rattle.lr1_base.proofs.repr.Lists.{cases, length-map-below, get_d_map-below}
use Rattle.lr1_base.proofs.repr.Tests.{All_at}
use Rattle.lr1_base.proofs.repr.Parts.{symbols_long}
use Rattle.lr1_base.specs.item.Items.{symbol_sets}
use Rattle.enumerator.specs.example.Example.{Label, sets_of}
use Rattle.enumerator.specs.example.Labels.{labels_in, LabelFits, LabelsFit}
use Rattle.enumerator.specs.example.Written.{no_label, label_at}
use Rattle.enumerator.proofs.example.Sizes.{Short}

-- three words a label

pub label_count : (ws : List ℕ) → length ws / label_room ≡ length (labels_in ws)
unfolding labels_in
label_count [] = refl
label_count (n ∷ []) = refl
label_count (n ∷ p ∷ []) = refl
label_count (n ∷ p ∷ i ∷ ws) = let r = label_count ws in omega arith

pub three_words : (ws : List ℕ) → label_room * length (labels_in ws) ≤ length ws
three_words ws = let r = label_count ws in omega arith

pub label_is : (ws : List ℕ) (j : ℕ) → j < length (labels_in ws)
    → label_at ws j ≡ record { nonterminal = get_or ws (label_room * j) 0; production = get_or ws (label_room * j + 1) 0; index = get_or ws (label_room * j + 2) 0 }
unfolding labels_in label_at
label_is [] j h = absurd (omega arith)
label_is (n ∷ []) j h = absurd (omega arith)
label_is (n ∷ p ∷ []) j h = absurd (omega arith)
label_is (n ∷ p ∷ i ∷ ws) zero h = refl
label_is (n ∷ p ∷ i ∷ ws) (suc j) h =
    let a : label_room * suc j ≡ suc (suc (suc (label_room * j))) = omega arith in
    let b : label_room * suc j + 1 ≡ suc (suc (suc (label_room * j + 1))) = omega arith in
    let c : label_room * suc j + 2 ≡ suc (suc (suc (label_room * j + 2))) = omega arith in
    rw (c, b, a) (label_is ws j (omega arith))

module _ (ws : List ℕ) (j : ℕ) (h : j < length (labels_in ws)) where
  pub label_nonterminal : get_or ws (label_room * j) 0 ≡ (label_at ws j).nonterminal
  label_nonterminal = sym (ap (λ (l : Label). l.nonterminal) (label_is ws j h))

  pub label_production : get_or ws (label_room * j + 1) 0 ≡ (label_at ws j).production
  label_production = sym (ap (λ (l : Label). l.production) (label_is ws j h))

  pub label_index : get_or ws (label_room * j + 2) 0 ≡ (label_at ws j).index
  label_index = sym (ap (λ (l : Label). l.index) (label_is ws j h))

  pub labels_step : drop j (labels_in ws) ≡ label_at ws j ∷ drop (j + 1) (labels_in ws)
  unfolding label_at
  labels_step = rw (add-one j) (drop-cons (labels_in ws) j no_label h)

  pub labels_back : take (j + 1) (labels_in ws) ≡ take j (labels_in ws) ++ (label_at ws j ∷ [])
  unfolding label_at
  labels_back = rw (add-one j) (take-suc (labels_in ws) j no_label h)

pub some_label : {ps : List Production} (ws : List ℕ) → LabelsFit ps ws → 0 < length (labels_in ws)
some_label ws F = let r = label_count ws in let s = F.some_label in omega arith

pub few_labels : {ps : List Production} (ws : List ℕ) → LabelsFit ps ws → length (labels_in ws) ≤ reduction_limit
few_labels ws F = let r = label_count ws in let s = F.few in omega arith

-- the packed productions

module _ (g : List ℕ) (n : ℕ) where
  production_count : length (productions_in g n) ≡ n
  unfolding productions_in
  production_count = length-map-below (production_in g) n

  pub production-symbols : (p : ℕ) → p < n → (get_or (productions_in g n) p no_production).symbols ≡ listed (symbol_words g p)
  unfolding productions_in production_in
  production-symbols p h = ap (λ (q : Production). q.symbols) (get_d_map-below (production_in g) n p no_production h)

  pub short_in : Packed g n → Short (productions_in g n)
  short_in P p = cases (ltb p n)
      (λ e. let h = ltb-true p n e in rw (production-symbols p h, symbols_long g n p P h) (P.short p h))
      (λ e. rw (get_or-eq_default (productions_in g n) no_production {n = p} (rw production_count (ltb-false p n e))) (omega arith))

  -- a label's item
  module _ (ws : List ℕ) (F : LabelsFit (productions_in g n) ws) (j : ℕ) (h : j < length (labels_in ws)) (p i : ℕ) (ep : p ≡ (label_at ws j).production) (ei : i ≡ (label_at ws j).index) where
    fit : LabelFits (productions_in g n) (label_at ws j)
    unfolding label_at
    fit = All_at (LabelFits (productions_in g n)) (labels_in ws) j no_label F.each h

    pub item-production : p < n
    item-production = let a = fit.production in let b = production_count in omega arith

    same_symbols_lem : (get_or (productions_in g n) (label_at ws j).production no_production).symbols ≡ listed (symbol_words g p)
    same_symbols_lem = rw (← ep) (production-symbols p item-production)

    pub item_index : i ≤ length (listed (symbol_words g p))
    item_index = let a = fit.index in let b = ap length same_symbols_lem in omega arith

    pub item_small : Packed g n → (production_place (p + 1) ≤ grammar_room) × (i ≤ 16)
    item_small P =
        let a = item-production in
        let b = item_index in
        let c = symbols_long g n p P a in
        let d = P.short p a in
        let e = P.few in
        (omega arith, omega arith)

    pub item-sets : symbol_sets (listed (symbol_words g p)) i ≡ sets_of (productions_in g n) (label_at ws j)
    unfolding sets_of
    item-sets = rw (same_symbols_lem, ← ei)
