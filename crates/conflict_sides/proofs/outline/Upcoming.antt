-- What the inline test compares (`shift_upcoming`, `reduce_upcoming` of error): the suffix of the shift item, and that of the second reduction's item. So it is a
-- test on what is kept of the two examples. Assumes nothing.
use Rattle.std.proofs.Common.{◌≡◌, ℕ, suc, ◌+◌, ◌-◌, ◌/◌, ◌%◌, ◌<◌, ◌≤◌, true, false, not, ◌&&◌, eqb, List, [], ◌∷◌, ◌++◌, map, length, get_or, drop, sym, refl, ap, ◌∙◌, append_assoc, arith, length-append, length-drop, take_at, drop_at, le-ltb, lt-ltb, eq-eqb, ne_eqb, eqb-true}
use mathlib.Core.Bool.{and-false}
use mathlib.Core.List.{map-append}
use borrow.Author.Tests.{eqb-false}
use Rattle.lr1_base.specs.repr.Sizes.{index_limit, item_limit}
use Rattle.lr1_base.specs.repr.Meaning.{Symbol, is_same_symbol, Production, no_production, Table, TableFits, All}
use Rattle.lr1_base.proofs.repr.Lists.{cases, length_mapped}
use Rattle.lr1_base.specs.item.Items.{first, symbol_sets}
use Rattle.first.specs.First.{sets_of_first, FIRST}
use Rattle.enumerator.specs.example.Example.{Label, sets_of, ExampleSymbol, symbol, prefixes, suffixes, at_cursor, middle, symbols}
use Rattle.enumerator.specs.example.Labels.{LabelFits}
use Rattle.enumerator.specs.example.Written.{around}
use Rattle.enumerator.proofs.example.Sizes.{Short, short_of_lem, suffixes-cons, length_symbols, length-reductions}
use Rattle.enumerator.proofs.example.Reductions.{reductions-around}
use Rattle.conflict_sides.specs.conflict.Judge.{Example, reduction_at, between, shift_upcoming, reduce_upcoming, cursor_at, diverge, inlines}
use Rattle.conflict_sides.specs.outline.Outline.{item_code, next_item, label_of, outline_from}
use Rattle.conflict_sides.specs.outline.Inline.{symbols_at, suffix_at, apart, diverge_by, codes_inline, inlines_by, CodeFits, Shifts}

-- a part in the middle
between_is : (a b c : List ExampleSymbol) (i j : ℕ) → i ≡ length a → j ≡ length a + length b → between i j (a ++ (b ++ c)) ≡ b
unfolding between
between_is a b c i j ei ej =
    let m : j - i ≡ length b = omega arith in
    rw (m, drop_at a (b ++ c) i (sym ei)) (take_at b c (length b) refl)

module _ (ps : List Production) where
  -- the first two reductions

  pub first_reduction : (l : Label) (ls : List Label) → reduction_at ps (l ∷ ls) 0 ≡ record { start = length (prefixes ps ls); end = length (symbols ps (l ∷ ls)) - length (suffixes ps ls); nonterminal = l.nonterminal }
  unfolding reduction_at around
  first_reduction l ls = rw (reductions-around ps (l ∷ ls))

  pub second_reduction : (l m : Label) (ls : List Label) → reduction_at ps (l ∷ m ∷ ls) 1 ≡ record { start = length (prefixes ps ls); end = length (symbols ps (l ∷ m ∷ ls)) - length (suffixes ps ls); nonterminal = m.nonterminal }
  unfolding reduction_at around
  second_reduction l m ls = rw (reductions-around ps (l ∷ m ∷ ls))

  -- symbols in front of the outer labels' suffixes
  abbrev before : Label → List Label → List ExampleSymbol
  before l ls = map symbol (prefixes ps (l ∷ ls)) ++ (middle ps (l ∷ ls) ++ map symbol (sets_of ps l).suffix)

  suffix-parts : (l : Label) (ls : List Label) → map symbol (suffixes ps (l ∷ ls)) ≡ map symbol (sets_of ps l).suffix ++ map symbol (suffixes ps ls)
  unfolding suffixes
  suffix-parts l ls = map-append symbol (sets_of ps l).suffix (suffixes ps ls)

  split : (l : Label) (ls : List Label) → symbols ps (l ∷ ls) ≡ before l ls ++ map symbol (suffixes ps ls)
  unfolding symbols
  split l ls =
      let a = map symbol (prefixes ps (l ∷ ls)) in
      let b = middle ps (l ∷ ls) in
      let c = map symbol (sets_of ps l).suffix in
      let d = map symbol (suffixes ps ls) in
      ap (λ (x : List ExampleSymbol). a ++ (b ++ x)) (suffix-parts l ls) ∙ ap (λ (x : List ExampleSymbol). a ++ x) (sym (append_assoc b c d)) ∙ sym (append_assoc a (b ++ c) d)

  -- what follows the first reduction up to the end of the second: the second's suffix
  pub reduce_upcoming_lem : (l m : Label) (ls : List Label) → reduce_upcoming ps (l ∷ m ∷ ls) ≡ map symbol (sets_of ps m).suffix
  unfolding reduce_upcoming
  reduce_upcoming_lem l m ls =
      let b = map symbol (sets_of ps m).suffix in
      let c = map symbol (suffixes ps ls) in
      let s : symbols ps (l ∷ m ∷ ls) ≡ before l (m ∷ ls) ++ (b ++ c) = split l (m ∷ ls) ∙ ap (λ (x : List ExampleSymbol). before l (m ∷ ls) ++ x) (suffix-parts m ls) in
      let n : length (symbols ps (l ∷ m ∷ ls)) ≡ length (before l (m ∷ ls)) + (length b + length c) = ap length s ∙ (length-append (before l (m ∷ ls)) (b ++ c) ∙ ap (λ (k : ℕ). length (before l (m ∷ ls)) + k) (length-append b c)) in
      let q = suffixes-cons ps m ls in
      let u = length_mapped symbol (sets_of ps m).suffix in
      let v = length_mapped symbol (suffixes ps ls) in
      let i : length (symbols ps (l ∷ m ∷ ls)) - length (suffixes ps (m ∷ ls)) ≡ length (before l (m ∷ ls)) = omega arith in
      let j : length (symbols ps (l ∷ m ∷ ls)) - length (suffixes ps ls) ≡ length (before l (m ∷ ls)) + length b = omega arith in
      rw (first_reduction l (m ∷ ls), second_reduction l m ls, s)
      (between_is (before l (m ∷ ls)) b c _ _ (rw s at i) (rw s at j))

  cursor_there : (xs pre : List Symbol) (i : ℕ) → i < length xs → (x : Symbol) × (at_cursor (first (drop i xs)) pre ≡ symbol x ∷ [])
  unfolding at_cursor first
  cursor_there xs pre i h = go (drop i xs) (length-drop i xs)
    where
      go : (d : List Symbol) → length d ≡ length xs - i → (x : Symbol) × (at_cursor (first d) pre ≡ symbol x ∷ [])
      go [] e = absurd (omega arith)
      go (x ∷ d) e = (x, refl)

  at_cursor_lem : (l : Label) (ls : List Label) → Shifts ps (l ∷ ls) → (x : Symbol) × (middle ps (l ∷ ls) ≡ symbol x ∷ [])
  unfolding Shifts middle sets_of symbol_sets
  at_cursor_lem l ls h = cursor_there (get_or ps l.production no_production).symbols (sets_of ps l).prefix l.index h

  -- what can be shifted: the suffix of the shift item
  pub shift_upcoming_lem : (l : Label) (ls : List Label) → Shifts ps (l ∷ ls) → shift_upcoming ps (l ∷ ls) ≡ map symbol (sets_of ps l).suffix
  unfolding shift_upcoming cursor_at
  shift_upcoming_lem l ls h = go (at_cursor_lem l ls h)
    where
      go : (x : Symbol) × (middle ps (l ∷ ls) ≡ symbol x ∷ []) → between (suc (length (prefixes ps (l ∷ ls)))) (reduction_at ps (l ∷ ls) 0).end (symbols ps (l ∷ ls)) ≡ map symbol (sets_of ps l).suffix
      go m =
          let a = map symbol (prefixes ps (l ∷ ls)) in
          let x = symbol m.0 ∷ [] in
          let b = map symbol (sets_of ps l).suffix in
          let c = map symbol (suffixes ps ls) in
          let s : symbols ps (l ∷ ls) ≡ (a ++ x) ++ (b ++ c) =
          split l ls ∙ ap (λ (y : List ExampleSymbol). (a ++ (y ++ b)) ++ c) m.1 ∙ ap (λ (y : List ExampleSymbol). y ++ c) (sym (append_assoc a x b)) ∙ append_assoc (a ++ x) b c in
          let ax = length-append a x in
          let la = length_mapped symbol (prefixes ps (l ∷ ls)) in
          let n : length (symbols ps (l ∷ ls)) ≡ length (a ++ x) + (length b + length c) = ap length s ∙ (length-append (a ++ x) (b ++ c) ∙ ap (λ (k : ℕ). length (a ++ x) + k) (length-append b c)) in
          let v = length_mapped symbol (suffixes ps ls) in
          let j : length (symbols ps (l ∷ ls)) - length (suffixes ps ls) ≡ length (a ++ x) + length b = omega arith in
          rw (first_reduction l ls, s) (between_is (a ++ x) b c _ _ (omega arith) (rw s at j))

  -- an item back from its number
  module _ (short : Short ps) (l : Label) (F : LabelFits ps l) where
    index_small : l.index < index_limit
    index_small = let a = F.index in let b = short l.production in omega arith

    code-production : item_code l / index_limit ≡ l.production
    unfolding item_code
    code-production = let a = index_small in omega arith

    code_index : item_code l % index_limit ≡ l.index
    unfolding item_code
    code_index = let a = index_small in omega arith

    code-symbols : symbols_at ps (item_code l) ≡ (get_or ps l.production no_production).symbols
    unfolding symbols_at
    code-symbols = ap (λ (k : ℕ). (get_or ps k no_production).symbols) code-production

    pub code-suffix : suffix_at ps (item_code l) ≡ (sets_of ps l).suffix
    unfolding suffix_at sets_of
    code-suffix =
        ap (λ (xs : List Symbol). (symbol_sets xs (item_code l % index_limit)).suffix) code-symbols
        ∙ ap (λ (k : ℕ). (symbol_sets (get_or ps l.production no_production).symbols k).suffix) code_index

    pub code_fits : CodeFits ps (item_code l)
    code_fits = record { production = rw code-production F.production; index = rw (code-symbols, code_index) F.index }

    pub code_small : length ps ≤ 128 → item_code l < item_limit
    unfolding item_code
    code_small few = let a = index_small in let b = F.production in omega arith

  -- the second label's number, by the three ways
  module _ (l m : Label) where
    pub next_cycle : eqb m.nonterminal l.nonterminal ≡ true → next_item ps l m ≡ item_limit
    unfolding next_item
    next_cycle q = rw (q, next_item)

    pub next-no_more : eqb (length (sets_of ps m).suffix) 0 ≡ true → next_item ps l m ≡ item_limit
    unfolding next_item
    next-no_more z = cases (eqb m.nonterminal l.nonterminal) next_cycle (λ q. rw (q, z, next_item))

    pub next_item_lem : eqb m.nonterminal l.nonterminal ≡ false → eqb (length (sets_of ps m).suffix) 0 ≡ false → next_item ps l m ≡ item_code m
    unfolding next_item
    next_item_lem q z = rw (q, z, next_item)

-- on symbols alone

module _ (T : Table) where
  abbrev sets : List ℕ
  sets = sets_of_first T.terminals T.productions

  pub diverge-symbols : (xs ys : List Symbol) → diverge T (map symbol xs) (map symbol ys) ≡ diverge_by T.terminals sets xs ys
  unfolding diverge diverge_by apart FIRST
  diverge-symbols [] ys = refl
  diverge-symbols (x ∷ xs) [] = refl
  diverge-symbols (x ∷ xs) (y ∷ ys) =
      let rest = diverge-symbols xs ys in
      cases (is_same_symbol x y) (λ q. rw (q, diverge, diverge_by) rest) (λ q. rw (q, diverge, diverge_by))

-- the tests before it, on the second label
module _ (T : Table) (F : TableFits T) where
  abbrev ps : List Production
  ps = T.productions

  short : Short ps
  short = short_of_lem T F

  ends_same : (l m : Label) (ls : List Label) → eqb (reduction_at ps (l ∷ m ∷ ls) 1).end (reduction_at ps (l ∷ m ∷ ls) 0).end ≡ eqb (length (sets_of ps m).suffix) 0
  ends_same l m ls =
      let n = length_symbols ps (l ∷ m ∷ ls) in
      let a = suffixes-cons ps l (m ∷ ls) in
      let b = suffixes-cons ps m ls in
      let N = length (symbols ps (l ∷ m ∷ ls)) in
      rw (first_reduction ps l (m ∷ ls), second_reduction ps l m ls)
      (cases (eqb (length (sets_of ps m).suffix) 0)
      (λ q. let z = eqb-true (length (sets_of ps m).suffix) 0 q in eq-eqb (N - length (suffixes ps ls)) (N - length (suffixes ps (m ∷ ls))) (omega arith) ∙ sym q)
      (λ q. let z = eqb-false (length (sets_of ps m).suffix) 0 q in ne_eqb (N - length (suffixes ps ls)) (N - length (suffixes ps (m ∷ ls))) (λ e. z (omega arith)) ∙ sym q))

  -- the inline test, where it can hold: two reductions
  inlines_two : (a : Example) (l m : Label) (ls : List Label)
      → inlines T a (l ∷ m ∷ ls) ≡ not (eqb (length (sets_of ps m).suffix) 0) && (not (eqb m.nonterminal l.nonterminal) && diverge T (shift_upcoming ps a) (map symbol (sets_of ps m).suffix))
  unfolding inlines
  inlines_two a l m ls =
      rw (length-reductions ps (l ∷ m ∷ ls), lt-ltb 1 (length (l ∷ m ∷ ls)) (omega arith), ends_same l m ls, reduce_upcoming_lem ps l m ls, first_reduction ps l (m ∷ ls), second_reduction ps l m ls)

  inlines-none : (a r : Example) → length r ≤ 1 → inlines T a r ≡ false
  unfolding inlines
  inlines-none a r h = rw (length-reductions ps r, le-ltb 1 (length r) h)

  -- an outline's label as the test reads it

  none-inlines : (code : ℕ) → codes_inline T.terminals (sets T) ps code item_limit ≡ false
  unfolding codes_inline
  none-inlines code = rw (le-ltb item_limit item_limit (omega arith))

  item-inlines : (code : ℕ) (xs : List Symbol) (m : Label) → LabelFits ps m → suffix_at ps code ≡ xs
      → codes_inline T.terminals (sets T) ps code (item_code m) ≡ diverge_by T.terminals (sets T) xs (sets_of ps m).suffix
  unfolding codes_inline
  item-inlines code xs m M e = rw (lt-ltb (item_code m) item_limit (code_small ps short m M F.few_productions_lem), e, code-suffix ps short m M)

  next-inlines : (code : ℕ) (xs : List Symbol) (l m : Label) → LabelFits ps m → suffix_at ps code ≡ xs
      → codes_inline T.terminals (sets T) ps code (next_item ps l m) ≡ not (eqb (length (sets_of ps m).suffix) 0) && (not (eqb m.nonterminal l.nonterminal) && diverge_by T.terminals (sets T) xs (sets_of ps m).suffix)
  next-inlines code xs l m M e =
      let by = codes_inline T.terminals (sets T) ps code in
      cases (eqb m.nonterminal l.nonterminal)
      (λ q. ap by (next_cycle ps l m q) ∙ none-inlines code ∙ sym (rw q (and-false (not (eqb (length (sets_of ps m).suffix) 0)))))
      (λ q. cases (eqb (length (sets_of ps m).suffix) 0)
      (λ z. ap by (next-no_more ps l m z) ∙ none-inlines code ∙ sym (rw z))
      (λ z. ap by (next_item_lem ps l m q z) ∙ item-inlines code xs m M e ∙ sym (rw (q, z))))

  pub inlines_outline : (a r : Example) → Shifts ps a → All (LabelFits ps) a → All (LabelFits ps) r → inlines T a r ≡ inlines_by T (outline_from ps true a) (outline_from ps false r)
  unfolding inlines_by outline_from label_of All Shifts
  inlines_outline [] r h A R = absurd h
  inlines_outline (l ∷ ls) [] h A R = inlines-none (l ∷ ls) [] (omega arith) ∙ sym (none-inlines (item_code l))
  inlines_outline (l ∷ ls) (m ∷ []) h A R = inlines-none (l ∷ ls) (m ∷ []) (omega arith) ∙ sym (none-inlines (item_code l))
  inlines_outline (l ∷ ls) (m ∷ n ∷ rs) h A R =
      inlines_two (l ∷ ls) m n rs
      ∙ rw (shift_upcoming_lem ps l ls h, diverge-symbols T (sets_of ps l).suffix (sets_of ps n).suffix)
      (sym (next-inlines (item_code l) (sets_of ps l).suffix m n R.1.0 (code-suffix ps short l A.0)))

  -- what is kept of an example in range is an item, or on the reduce side none

  pub kept-item : (a : Example) → Shifts ps a → All (LabelFits ps) a → CodeFits ps (label_of ps true a)
  unfolding label_of All Shifts
  kept-item [] h A = absurd h
  kept-item (l ∷ ls) h A = code_fits ps short l A.0

  pub kept_next : (r : Example) → All (LabelFits ps) r → label_of ps false r < item_limit → CodeFits ps (label_of ps false r)
  unfolding label_of All
  kept_next [] R lt = absurd (omega arith)
  kept_next (l ∷ []) R lt = absurd (omega arith)
  kept_next (l ∷ m ∷ ls) R lt =
      let not_none : next_item ps l m ≡ item_limit → ⊥ = λ e. omega arith in
      cases (eqb m.nonterminal l.nonterminal)
      (λ q. absurd (not_none (next_cycle ps l m q)))
      (λ q. cases (eqb (length (sets_of ps m).suffix) 0) (λ z. absurd (not_none (next-no_more ps l m z))) (λ z. rw (next_item_lem ps l m q z) (code_fits ps short m R.1.0)))
