-- How long an example is (docs/RULES.md, "An example in words"): at most 528 symbols and 33 reductions of 33 labels, so at most 1,158 words.
use Rattle.std.proofs.Common.{◌≡◌, ℕ, suc, ◌+◌, ◌-◌, ◌*◌, ◌≤◌, ltb, List, [], ◌∷◌, ◌++◌, map, reverse, length, get_or, take, drop, refl, ap, ◌∙◌, arith, length-append, length-drop, length-take, ltb-false, ltb-true}
use lib.ListN.{length-reverse, get_or-eq_default}
use Rattle.lr1_base.specs.repr.Sizes.{reduction_limit, example_symbols, reduction_room, example_room}
use Rattle.lr1_base.specs.repr.Lists.{joined}
use Rattle.lr1_base.specs.repr.Meaning.{Symbol, nonterminal, terminal, Production, no_production, Table, TableFits, ProductionFits}
use Rattle.lr1_base.proofs.repr.Lists.{cases, length_mapped, joined_nil, joined_cons}
use Rattle.lr1_base.proofs.repr.Tests.{All_at}
use Rattle.lr1_base.specs.item.Items.{first, symbol_sets}
use Rattle.enumerator.specs.example.Example.{Label, sets_of, ExampleSymbol, symbol, epsilon, prefixes, suffixes, at_cursor, middle, symbols, Reduction, spans, reductions, symbol_words, reduction_words, example_words}

-- every production has at most 16 symbols, as an accepted table's
abbrev pub Short : List Production → Type 0
Short ps = (p : ℕ) → length (get_or ps p no_production).symbols ≤ 16

two_words : (x : ExampleSymbol) → length (symbol_words x) ≡ 2
unfolding symbol_words
two_words (symbol (nonterminal n)) = refl
two_words (symbol (terminal t)) = refl
two_words epsilon = refl

pub twos : (xs : List ExampleSymbol) → length (joined symbol_words xs) ≡ 2 * length xs
twos [] = rw (joined_nil symbol_words)
twos (x ∷ xs) =
    let a = length-append (symbol_words x) (joined symbol_words xs) in
    let b = two_words x in
    let c = twos xs in
    rw (joined_cons symbol_words x xs) (omega arith)

threes : (rs : List Reduction) → length (joined reduction_words rs) ≡ reduction_room * length rs
unfolding reduction_words
threes [] = rw (joined_nil reduction_words)
threes (r ∷ rs) =
    let c = threes rs in
    rw (joined_cons reduction_words r rs) (omega arith)

-- one label's part: prefix and suffix without the cursor symbol
part : (xs : List Symbol) (i : ℕ) → length (take i xs) + length (drop (suc i) xs) ≤ length xs
part xs i = simp (length-take, length-drop) (omega arith)

label_part : (ps : List Production) → Short ps → (l : Label) → length (sets_of ps l).prefix + length (sets_of ps l).suffix ≤ 16
unfolding sets_of symbol_sets
label_part ps short l =
    let a = part (get_or ps l.production no_production).symbols l.index in
    let b = short l.production in
    omega arith

-- the first label's part, with what stands at the cursor: the empty mark only where there is no symbol
first_part : (xs : List Symbol) (i : ℕ) → length xs ≤ 16 → length (take i xs) + (length (at_cursor (first (drop i xs)) (take i xs)) + length (drop (suc i) xs)) ≤ 16
unfolding at_cursor first
first_part xs i h = by (drop i xs) refl (take i xs) refl
  where
    by : (d : List Symbol) → drop i xs ≡ d → (pre : List Symbol) → take i xs ≡ pre → length pre + (length (at_cursor (first d) pre) + length (drop (suc i) xs)) ≤ 16
    by [] e [] f = let a = length-drop (suc i) xs in omega arith
    by [] e (y ∷ ys) f =
        let a = length-drop (suc i) xs in
        let b : length (take i xs) ≡ suc (length ys) = ap length f in
        let c = length-take i xs in
        omega arith
    by (x ∷ d) e pre f =
        let a = length-drop (suc i) xs in
        let b : length (drop i xs) ≡ suc (length d) = ap length e in
        let k = length-drop i xs in
        let l : length (take i xs) ≡ length pre = ap length f in
        let c = length-take i xs in
        omega arith

module _ (ps : List Production) where
  pub prefixes-cons : (l : Label) (ls : List Label) → length (prefixes ps (l ∷ ls)) ≡ length (prefixes ps ls) + length (sets_of ps l).prefix
  unfolding prefixes
  prefixes-cons l ls = length-append (prefixes ps ls) (sets_of ps l).prefix

  pub suffixes-cons : (l : Label) (ls : List Label) → length (suffixes ps (l ∷ ls)) ≡ length (sets_of ps l).suffix + length (suffixes ps ls)
  unfolding suffixes
  suffixes-cons l ls = length-append (sets_of ps l).suffix (suffixes ps ls)

  -- the places of the symbol list
  pub length_symbols : (ls : List Label) → length (symbols ps ls) ≡ length (prefixes ps ls) + (length (middle ps ls) + length (suffixes ps ls))
  unfolding symbols
  length_symbols ls =
      let a = length-append (map symbol (prefixes ps ls)) (middle ps ls ++ map symbol (suffixes ps ls)) in
      let b = length-append (middle ps ls) (map symbol (suffixes ps ls)) in
      let c = length_mapped symbol (prefixes ps ls) in
      let d = length_mapped symbol (suffixes ps ls) in
      omega arith

  -- 16 places a label, those at the cursor left out
  pub around : Short ps → (ls : List Label) → length (prefixes ps ls) + length (suffixes ps ls) ≤ 16 * length ls
  unfolding prefixes suffixes
  around short [] = omega arith
  around short (l ∷ ls) =
      let a = prefixes-cons l ls in
      let b = suffixes-cons l ls in
      let c = label_part ps short l in
      let d = around short ls in
      omega arith

  first_label : Short ps → (l : Label) → length (sets_of ps l).prefix + (length (at_cursor (sets_of ps l).cursor (sets_of ps l).prefix) + length (sets_of ps l).suffix) ≤ 16
  unfolding sets_of symbol_sets
  first_label short l = first_part (get_or ps l.production no_production).symbols l.index (short l.production)

  pub symbols_few : Short ps → (ls : List Label) → length (symbols ps ls) ≤ 16 * length ls
  unfolding middle prefixes suffixes
  symbols_few short [] = let a = length_symbols [] in omega arith
  symbols_few short (l ∷ ls) =
      let a = length_symbols (l ∷ ls) in
      let b = prefixes-cons l ls in
      let c = suffixes-cons l ls in
      let d = around short ls in
      let e = first_label short l in
      omega arith

  pub at_most_528 : Short ps → (ls : List Label) → length ls ≤ reduction_limit → length (symbols ps ls) ≤ example_symbols
  at_most_528 short ls h = let a = symbols_few short ls in omega arith

  -- one reduction a label
  length-spans : (a b : ℕ) (ls : List Label) → length (spans ps a b ls) ≡ length ls
  unfolding spans
  length-spans a b [] = refl
  length-spans a b (l ∷ ls) = ap suc (length-spans (a + length (sets_of ps l).prefix) (b - length (sets_of ps l).suffix) ls)

  pub length-reductions : (ls : List Label) → length (reductions ps ls) ≡ length ls
  unfolding reductions
  length-reductions ls =
      length-reverse (spans ps 0 (length (symbols ps ls)) (reverse ls)) ∙ length-spans 0 (length (symbols ps ls)) (reverse ls) ∙ length-reverse ls

  -- the words
  pub length-words : (ls : List Label) → length (example_words ps ls) ≡ 3 + 2 * length (symbols ps ls) + reduction_room * length ls
  unfolding example_words
  length-words ls =
      let a = length-append (joined symbol_words (symbols ps ls)) (joined reduction_words (reductions ps ls)) in
      let b = twos (symbols ps ls) in
      let c = threes (reductions ps ls) in
      let d = length-reductions ls in
      omega arith

  pub at_most_1158 : Short ps → (ls : List Label) → length ls ≤ reduction_limit → length (example_words ps ls) ≤ example_room
  at_most_1158 short ls h =
      let a = length-words ls in
      let b = at_most_528 short ls h in
      omega arith

-- an accepted table's productions are short
pub short_of_lem : (T : Table) → TableFits T → Short T.productions
short_of_lem T F p = cases (ltb p (length T.productions))
    (λ e. (All_at (ProductionFits T) T.productions p no_production F.productions (ltb-true p (length T.productions) e)).short)
    (λ e. rw (get_or-eq_default T.productions no_production (ltb-false p (length T.productions) e)) (omega arith))
