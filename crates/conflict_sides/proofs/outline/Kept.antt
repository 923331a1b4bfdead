-- Laws of what is kept of an example in words (`label_of`, `outline_from` of specs/outline/Outline), one for each way through the code. Assumes nothing.
use Rattle.std.proofs.Common.{◌≡◌, ℕ, suc, ◌+◌, ◌-◌, ◌*◌, ◌<◌, ◌≤◌, Bool, true, false, eqb, List, [], ◌∷◌, length, drop, sym, refl, ap, ◌∙◌, arith, length-drop, eq-eqb, ne_eqb}
use Rattle.lr1_base.specs.repr.Sizes.{production_limit, index_limit, item_limit}
use Rattle.lr1_base.specs.repr.Meaning.{Production}
use Rattle.lr1_base.specs.repr.Listed.{listed}
use Rattle.lr1_base.specs.repr.Packed.{Packed, productions_in, production_in, symbol_words}
use Rattle.lr1_base.proofs.repr.Lists.{length-map-below}
use Rattle.lr1_base.proofs.repr.Tests.{All_at}
use Rattle.lr1_base.specs.item.Items.{symbol_sets}
use Rattle.enumerator.specs.example.Example.{Label, sets_of, symbols}
use Rattle.enumerator.specs.example.Labels.{labels_in, LabelFits, LabelsFit}
use Rattle.enumerator.specs.example.Written.{no_label, label_at}
use Rattle.enumerator.proofs.example.LabelList.{labels_step, some_label, few_labels, short_in, production-symbols, item_small}
use Rattle.enumerator.proofs.example.Sizes.{at_most_528}
use Rattle.conflict_sides.specs.conflict.Judge.{symbol_count, reduction_at}
use Rattle.conflict_sides.specs.outline.Outline.{print_of, item_code, next_item, label_of, outline_from, OutlineFits}
use Rattle.conflict_sides.proofs.outline.Prints.{print_small}
use Rattle.conflict_sides.proofs.outline.Upcoming.{first_reduction, next_cycle, next-no_more, next_item_lem}

-- two labels and more
module _ (ws : List ℕ) where
  labels_two : 1 < length (labels_in ws) → labels_in ws ≡ label_at ws 0 ∷ label_at ws 1 ∷ drop 2 (labels_in ws)
  labels_two h = labels_step ws 0 (omega arith) ∙ ap (λ (l : List Label). label_at ws 0 ∷ l) (labels_step ws 1 h)

module _ (g : List ℕ) (n : ℕ) (P : Packed g n) (ws : List ℕ) (F : LabelsFit (productions_in g n) ws) where
  abbrev ps : List Production
  ps = productions_in g n

  fit : (j : ℕ) → j < length (labels_in ws) → LabelFits ps (label_at ws j)
  unfolding label_at
  fit j h = All_at (LabelFits ps) (labels_in ws) j no_label F.each h

  count : length ps ≡ n
  unfolding productions_in
  count = length-map-below (production_in g) n

  code_is : (j : ℕ) → j < length (labels_in ws) → (p i : ℕ) → p ≡ (label_at ws j).production → i ≡ (label_at ws j).index → p * index_limit + i ≡ item_code (label_at ws j)
  unfolding item_code
  code_is j h p i ep ei = rw (ep, ei)

  pub kept_small : (j : ℕ) → j < length (labels_in ws) → (p i : ℕ) → p ≡ (label_at ws j).production → i ≡ (label_at ws j).index → (p < production_limit) × (i < index_limit)
  kept_small j h p i ep ei = let s = item_small g n ws F j h p i ep ei P in (omega (arith, s.0), omega (arith, s.1))

  -- `kept_item`

  pub label_shift : (s : Bool) → s ≡ true → (p i : ℕ) → p ≡ (label_at ws 0).production → i ≡ (label_at ws 0).index → p * index_limit + i ≡ label_of ps s (labels_in ws)
  unfolding label_of
  label_shift s e p i ep ei =
      let h = some_label ws F in
      rw (e, labels_step ws 0 h) (code_is 0 h p i ep ei)

  pub label_one : (s : Bool) → s ≡ false → length (labels_in ws) < 2 → item_limit ≡ label_of ps s (labels_in ws)
  unfolding label_of
  label_one s e h = rw e (go (labels_in ws) (omega arith))
    where
      go : (ls : List Label) → length ls ≤ 1 → item_limit ≡ label_of ps false ls
      go [] l = refl
      go (x ∷ []) l = refl
      go (x ∷ y ∷ ls) l = absurd (omega arith)

  module _ (s : Bool) (e : s ≡ false) (two : 2 ≤ length (labels_in ws)) where
    next_is : label_of ps s (labels_in ws) ≡ next_item ps (label_at ws 0) (label_at ws 1)
    unfolding label_of
    next_is = rw (e, labels_two ws two)

    module _ (x y : ℕ) (owner : x ≡ (label_at ws 1).nonterminal) (first_owner : y ≡ (label_at ws 0).nonterminal) where
      pub label_cycle : x ≡ y → item_limit ≡ label_of ps s (labels_in ws)
      label_cycle q = sym (next_is ∙ next_cycle ps (label_at ws 0) (label_at ws 1) (eq-eqb _ _ (sym owner ∙ q ∙ first_owner)))

      module _ (ne : x ≡ y → ⊥) (p i : ℕ) (ep : p ≡ (label_at ws 1).production) (ei : i ≡ (label_at ws 1).index) where
        pub next-inside : p < n
        next-inside = let a = (fit 1 two).production in let c = count in omega arith

        suffix-length : (m : ℕ) → m ≡ length (listed (symbol_words g p)) → length (sets_of ps (label_at ws 1)).suffix ≡ m - suc i
        unfolding sets_of symbol_sets
        suffix-length m em = rw (← ep, ← ei, production-symbols g n p next-inside, em) (length-drop (suc i) (listed (symbol_words g p)))

        pub label_no_more : (m : ℕ) → m ≡ length (listed (symbol_words g p)) → m ≤ i + 1 → item_limit ≡ label_of ps s (labels_in ws)
        label_no_more m em le =
            let z : length (sets_of ps (label_at ws 1)).suffix ≡ 0 = let q = suffix-length m em in omega arith in
            sym (next_is ∙ next-no_more ps (label_at ws 0) (label_at ws 1) (eq-eqb _ _ z))

        pub label_more : (m : ℕ) → m ≡ length (listed (symbol_words g p)) → i + 1 < m → p * index_limit + i ≡ label_of ps s (labels_in ws)
        label_more m em lt =
            let l = length (sets_of ps (label_at ws 1)).suffix in
            let z : eqb l 0 ≡ false = let q = suffix-length m em in ne_eqb l 0 (λ w. omega arith) in
            code_is 1 two p i ep ei ∙ sym (next_is ∙ next_item_lem ps (label_at ws 0) (label_at ws 1) (ne_eqb _ _ (λ w. ne (owner ∙ w ∙ sym first_owner))) z)

  -- the outline of what was read

  first_is : (reduction_at ps (labels_in ws) 0).nonterminal ≡ (label_at ws 0).nonterminal
  first_is = rw (labels_step ws 0 (some_label ws F), first_reduction ps (label_at ws 0) (drop 1 (labels_in ws)))

  pub outline_made : (shift : Bool) (p q f l : ℕ) → p ≡ length (symbols ps (labels_in ws)) → q ≡ print_of ps (labels_in ws) → f ≡ (label_at ws 0).nonterminal → l ≡ label_of ps shift (labels_in ws) → l ≤ item_limit
      → (record { places = p; print = q; first = f; label = l } ≡ outline_from ps shift (labels_in ws)) × OutlineFits (record { places = p; print = q; first = f; label = l })
  unfolding outline_from symbol_count
  outline_made shift p q f l ep eq ef el ll =
      let h = some_label ws F in
      let b = at_most_528 ps (short_in g n P) (labels_in ws) (few_labels ws F) in
      let c = print_small ps (labels_in ws) in
      let d = (fit 0 h).nonterminal in (
        rw (ep, eq, ef, el, first_is),
        record { places = omega arith; print = omega arith; first = omega arith; label = ll },
      )
