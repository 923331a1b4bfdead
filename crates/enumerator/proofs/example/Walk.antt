-- One law for each way through the code of this crate (src/lib), label by label.
use Rattle.std.proofs.Common.{◌≡◌, ℕ, zero, suc, ◌+◌, ◌-◌, ◌*◌, ◌<◌, ◌≤◌, Bool, true, false, ◌==◌, List, [], ◌∷◌, ◌++◌, map, length, get_or, take, drop, sym, refl, ap, ◌∙◌, append_assoc, append-nil, arith, drop_of_length-le}
use mathlib.Core.Option.{Option, none, some}
use borrow.Author.Tests.{eqb-true, eqb-false}
use Rattle.lr1_base.specs.repr.Sizes.{example_symbols, example_room}
use Rattle.lr1_base.specs.repr.Lists.{joined}
use Rattle.lr1_base.specs.repr.Meaning.{Symbol, Production}
use Rattle.lr1_base.specs.repr.Packed.{productions_in, Packed}
use Rattle.lr1_base.proofs.repr.Lists.{joined_nil, joined_append}
use Rattle.lr1_base.specs.item.Items.{no_sets, counts, counts_of}
use Rattle.enumerator.specs.example.Example.{Label, sets_of, symbol, epsilon, prefixes, suffixes, at_cursor, middle, symbols, symbol_words, example_words, cursor_of}
use Rattle.enumerator.specs.example.Labels.{labels_in, LabelsFit}
use Rattle.enumerator.specs.example.Written.{label_at, words_of, Part, around_words}
use Rattle.enumerator.proofs.example.Sizes.{Short, prefixes-cons, suffixes-cons, around, length_symbols, at_most_528, at_most_1158}
use Rattle.enumerator.proofs.example.LabelList.{labels_step, labels_back, few_labels, short_in}
use Rattle.enumerator.proofs.example.Parts.{words_append, part_length, list_of, first_cursor}
use Rattle.enumerator.proofs.example.Reductions.{reductions-around, around-nil, around-cons}

-- the counts of the empty sets
pub none-counted : (a b c : ℕ) → counts a b c ≡ counts_of no_sets → (a ≡ 0) × (c ≡ 0)
unfolding counts_of
none-counted a b c e = (cc, cc)

-- a list that is empty or is not, as the code asks
pub not_empty : (ws : List ℕ) {r : Bool} → r ≡ (length ws == 0) → r ≡ false → 0 < length ws
not_empty ws e f = let n = eqb-false (length ws) 0 (sym e ∙ f) in omega arith

pub empty : (ws : List ℕ) {r : Bool} → r ≡ (length ws == 0) → r ≡ true → length ws ≤ 0
empty ws e t = let z = eqb-true (length ws) 0 (sym e ∙ t) in omega arith

-- a list of two
pub two_words : (ws : List ℕ) → length ws ≡ 2 → ws ≡ get_or ws 0 0 ∷ get_or ws 1 0 ∷ []
two_words [] e = absurd (omega arith)
two_words (x ∷ []) e = absurd (omega arith)
two_words (x ∷ y ∷ []) e = refl
two_words (x ∷ y ∷ z ∷ ws) e = absurd (omega arith)

-- sizes: at most 528 symbols, 33 reductions, 1,158 words

pub example_symbols_few : (ps : List Production) (ws : List ℕ) → Short ps → LabelsFit ps ws → length (symbols ps (labels_in ws)) ≤ example_symbols
example_symbols_few ps ws short F = at_most_528 ps short (labels_in ws) (few_labels ws F)

pub example_words_few : (ps : List Production) (ws : List ℕ) → Short ps → LabelsFit ps ws → length (example_words ps (labels_in ws)) ≤ example_room
example_words_few ps ws short F = at_most_1158 ps short (labels_in ws) (few_labels ws F)

module _ (g : List ℕ) (n : ℕ) (P : Packed g n) (ws : List ℕ) (F : LabelsFit (productions_in g n) ws) where
  pub around_few : length (prefixes (productions_in g n) (labels_in ws)) + length (suffixes (productions_in g n) (labels_in ws)) ≤ example_symbols
  around_few = let a = around (productions_in g n) (short_in g n P) (labels_in ws) in let b = few_labels ws F in omega arith

  pub symbols_528 : length (symbols (productions_in g n) (labels_in ws)) ≤ example_symbols
  symbols_528 = example_symbols_few (productions_in g n) ws (short_in g n P) F

  pub words_1158 : length (example_words (productions_in g n) (labels_in ws)) ≤ example_room
  words_1158 = example_words_few (productions_in g n) ws (short_in g n P) F

module _ (ps : List Production) (ws : List ℕ) where
  -- a label's share
  pub prefix-step : (j : ℕ) → j < length (labels_in ws) → length (sets_of ps (label_at ws j)).prefix + length (prefixes ps (drop (j + 1) (labels_in ws))) ≡ length (prefixes ps (drop j (labels_in ws)))
  prefix-step j h = let b = prefixes-cons ps (label_at ws j) (drop (j + 1) (labels_in ws)) in rw (labels_step ws j h) (omega arith)

  pub prefix-none : (j : ℕ) → length (labels_in ws) ≤ j → length (prefixes ps (drop j (labels_in ws))) ≡ 0
  unfolding prefixes
  prefix-none j h = rw (drop_of_length-le (labels_in ws) {i = j} h)

  pub suffix-step : (j : ℕ) → j < length (labels_in ws) → length (sets_of ps (label_at ws j)).suffix + length (suffixes ps (drop (j + 1) (labels_in ws))) ≡ length (suffixes ps (drop j (labels_in ws)))
  suffix-step j h = let b = suffixes-cons ps (label_at ws j) (drop (j + 1) (labels_in ws)) in rw (labels_step ws j h) (omega arith)

  pub suffix-none : (j : ℕ) → length (labels_in ws) ≤ j → length (suffixes ps (drop j (labels_in ws))) ≡ 0
  unfolding suffixes
  suffix-none j h = rw (drop_of_length-le (labels_in ws) {i = j} h)

  -- what is left of them is no more than all
  pub prefix-left : (j : ℕ) → length (prefixes ps (drop j (labels_in ws))) ≤ length (prefixes ps (labels_in ws))
  prefix-left j = go j (labels_in ws)
    where
      go : (k : ℕ) (ls : List Label) → length (prefixes ps (drop k ls)) ≤ length (prefixes ps ls)
      go zero ls = omega arith
      go (suc k) [] = omega arith
      go (suc k) (l ∷ ls) = let a = prefixes-cons ps l ls in let b = go k ls in omega arith

  -- the cursor place

  here : 0 < length (labels_in ws) → middle ps (labels_in ws) ≡ at_cursor (sets_of ps (label_at ws 0)).cursor (sets_of ps (label_at ws 0)).prefix
  unfolding middle
  here h = ap (middle ps) (labels_step ws 0 h)

  module _ (h : 0 < length (labels_in ws)) (part : List ℕ) (C : Part part (cursor_of ps (labels_in ws))) where
    size : length part ≡ 2 * length (list_of (sets_of ps (label_at ws 0)).cursor)
    size = let a = part_length part (cursor_of ps (labels_in ws)) C in let b = ap length (first_cursor ps ws h) in omega arith

    pub middle-symbol : 0 < length part → middle ps (labels_in ws) ≡ map symbol (cursor_of ps (labels_in ws))
    unfolding at_cursor list_of
    middle-symbol l = here h ∙ go (sets_of ps (label_at ws 0)).cursor size ∙ ap (map symbol) (sym (first_cursor ps ws h))
      where
        go : (o : Option Symbol) → length part ≡ 2 * length (list_of o) → at_cursor o (sets_of ps (label_at ws 0)).prefix ≡ map symbol (list_of o)
        go none e = absurd (omega arith)
        go (some x) e = refl

    pub middle_one : 0 < length part → (length (middle ps (labels_in ws)) ≡ 1) × (length part ≡ 2)
    unfolding at_cursor list_of
    middle_one l = rw (here h) (go (sets_of ps (label_at ws 0)).cursor size)
      where
        go : (o : Option Symbol) → length part ≡ 2 * length (list_of o) → (length (at_cursor o (sets_of ps (label_at ws 0)).prefix) ≡ 1) × (length part ≡ 2)
        go none e = absurd (omega arith)
        go (some x) e = (refl, e)

    pub middle-words : 0 < length part → joined symbol_words (middle ps (labels_in ws)) ≡ part
    unfolding words_of
    middle-words l = ap (joined symbol_words) (middle-symbol l) ∙ sym C.words

    module _ (none_there : length part ≤ 0) (before : List ℕ) (B : Part before (sets_of ps (label_at ws 0)).prefix) where
      pub middle-none : 0 < length before → middle ps (labels_in ws) ≡ []
      unfolding at_cursor list_of
      middle-none l = here h ∙ go (sets_of ps (label_at ws 0)).cursor (sets_of ps (label_at ws 0)).prefix size (part_length before (sets_of ps (label_at ws 0)).prefix B)
        where
          go : (o : Option Symbol) (xs : List Symbol) → length part ≡ 2 * length (list_of o) → length before ≡ 2 * length xs → at_cursor o xs ≡ []
          go (some x) xs e f = absurd (omega arith)
          go none [] e f = absurd (omega arith)
          go none (x ∷ xs) e f = refl

      pub middle-mark : length before ≤ 0 → middle ps (labels_in ws) ≡ epsilon ∷ []
      unfolding at_cursor list_of
      middle-mark l = here h ∙ go (sets_of ps (label_at ws 0)).cursor (sets_of ps (label_at ws 0)).prefix size (part_length before (sets_of ps (label_at ws 0)).prefix B)
        where
          go : (o : Option Symbol) (xs : List Symbol) → length part ≡ 2 * length (list_of o) → length before ≡ 2 * length xs → at_cursor o xs ≡ epsilon ∷ []
          go (some x) xs e f = absurd (omega arith)
          go none (x ∷ xs) e f = absurd (omega arith)
          go none [] e f = refl

      pub mark-one : length before ≤ 0 → length (middle ps (labels_in ws)) ≡ 1
      mark-one l = ap length (middle-mark l)

      pub mark-words : length before ≤ 0 → joined symbol_words (middle ps (labels_in ws)) ≡ 2 ∷ 0 ∷ []
      unfolding joined symbol_words
      mark-words l = ap (joined symbol_words) (middle-mark l)

  -- the places of the symbol list
  pub symbols-sum : (p m s : ℕ) → p ≡ length (prefixes ps (labels_in ws)) → m ≡ length (middle ps (labels_in ws)) → s ≡ length (suffixes ps (labels_in ws))
      → p + m + s ≡ length (symbols ps (labels_in ws))
  symbols-sum p m s ep em es = let a = length_symbols ps (labels_in ws) in omega arith

  -- prefixes, from the last label on

  prefixes-last : (xs : List Label) (l : Label) → prefixes ps (xs ++ (l ∷ [])) ≡ (sets_of ps l).prefix ++ prefixes ps xs
  unfolding prefixes
  prefixes-last [] l = sym (append-nil (sets_of ps l).prefix)
  prefixes-last (x ∷ xs) l =
      ap (λ (r : List Symbol). r ++ (sets_of ps x).prefix) (prefixes-last xs l) ∙ append_assoc (sets_of ps l).prefix (prefixes ps xs) (sets_of ps x).prefix

  pub prefix_turn : (k i j : ℕ) → k + 1 ≡ i → j ≡ k → i ≤ length (labels_in ws) → (part : List ℕ) → Part part (sets_of ps (label_at ws j)).prefix
      → words_of (prefixes ps (take i (labels_in ws))) ≡ part ++ words_of (prefixes ps (take k (labels_in ws)))
  prefix_turn k i j e f l part P =
      ap (λ (m : ℕ). words_of (prefixes ps (take m (labels_in ws)))) (sym e)
      ∙ ap (λ (l : List Label). words_of (prefixes ps l)) (labels_back ws k (omega arith))
      ∙ ap words_of (prefixes-last (take k (labels_in ws)) (label_at ws k))
      ∙ words_append (sets_of ps (label_at ws k)).prefix (prefixes ps (take k (labels_in ws)))
      ∙ ap (λ (m : ℕ). words_of (sets_of ps (label_at ws m)).prefix ++ words_of (prefixes ps (take k (labels_in ws)))) (sym f)
      ∙ ap (λ (l : List ℕ). l ++ words_of (prefixes ps (take k (labels_in ws)))) (sym P.words)

  pub prefix-done : (k : ℕ) → k ≤ 0 → words_of (prefixes ps (take k (labels_in ws))) ≡ []
  unfolding prefixes words_of
  prefix-done k h = let e : k ≡ 0 = omega arith in rw e (joined_nil symbol_words)

  -- suffixes, from the first label on

  pub suffix_turn : (j : ℕ) → j < length (labels_in ws) → (part : List ℕ) → Part part (sets_of ps (label_at ws j)).suffix
      → words_of (suffixes ps (drop j (labels_in ws))) ≡ part ++ words_of (suffixes ps (drop (j + 1) (labels_in ws)))
  unfolding suffixes
  suffix_turn j h part P =
      ap (λ (l : List Label). words_of (suffixes ps l)) (labels_step ws j h)
      ∙ words_append (sets_of ps (label_at ws j)).suffix (suffixes ps (drop (j + 1) (labels_in ws)))
      ∙ ap (λ (l : List ℕ). l ++ words_of (suffixes ps (drop (j + 1) (labels_in ws)))) (sym P.words)

  pub suffix-done : (j : ℕ) → length (labels_in ws) ≤ j → words_of (suffixes ps (drop j (labels_in ws))) ≡ []
  unfolding suffixes words_of
  suffix-done j h = rw (drop_of_length-le (labels_in ws) {i = j} h) (joined_nil symbol_words)

  -- reductions, from the first label on

  pub around_turn : (n j : ℕ) → j < length (labels_in ws) → (s e x : ℕ) → s ≡ length (prefixes ps (drop (j + 1) (labels_in ws)))
      → e + length (suffixes ps (drop (j + 1) (labels_in ws))) ≡ n → x ≡ (label_at ws j).nonterminal
      → around_words ps n (drop j (labels_in ws)) ≡ (s ∷ e ∷ x ∷ []) ++ around_words ps n (drop (j + 1) (labels_in ws))
  around_turn n j h s e x es ee ex =
      let q : n - length (suffixes ps (drop (j + 1) (labels_in ws))) ≡ e = omega arith in
      ap (around_words ps n) (labels_step ws j h) ∙ around-cons ps n (label_at ws j) (drop (j + 1) (labels_in ws)) ∙ rw (q, es, ex)

  -- the next label's span, from this one's and its two parts
  pub around-next : (n j : ℕ) → j < length (labels_in ws) → (s e : ℕ) → s ≡ length (prefixes ps (drop j (labels_in ws))) → e + length (suffixes ps (drop j (labels_in ws))) ≡ n
      → (before after : ℕ) → before ≡ length (sets_of ps (label_at ws j)).prefix → after ≡ length (sets_of ps (label_at ws j)).suffix
      → (s - before ≡ length (prefixes ps (drop (j + 1) (labels_in ws)))) × (e + after + length (suffixes ps (drop (j + 1) (labels_in ws))) ≡ n)
  around-next n j h s e es ee before after B A =
      let b = prefix-step j h in
      let a = suffix-step j h in
      (omega arith, omega arith)

  pub around-done : (n j : ℕ) → length (labels_in ws) ≤ j → around_words ps n (drop j (labels_in ws)) ≡ []
  around-done n j h = rw (drop_of_length-le (labels_in ws) {i = j} h) (around-nil ps n)

-- the whole, part by part

module _ (ps : List Production) (ls : List Label) where
  abbrev pub after_suffixes : List ℕ
  after_suffixes = around_words ps (length (symbols ps ls)) ls

  abbrev pub after_middle : List ℕ
  after_middle = words_of (suffixes ps ls) ++ around_words ps (length (symbols ps ls)) ls

  abbrev pub after_prefixes : List ℕ
  after_prefixes = joined symbol_words (middle ps ls) ++ after_middle

  abbrev pub after_counts : List ℕ
  after_counts = words_of (prefixes ps ls) ++ after_prefixes

  pub symbol_words_lem : joined symbol_words (symbols ps ls) ≡ words_of (prefixes ps ls) ++ (joined symbol_words (middle ps ls) ++ words_of (suffixes ps ls))
  unfolding symbols words_of
  symbol_words_lem =
      joined_append symbol_words (map symbol (prefixes ps ls)) (middle ps ls ++ map symbol (suffixes ps ls))
      ∙ ap (λ (l : List ℕ). joined symbol_words (map symbol (prefixes ps ls)) ++ l) (joined_append symbol_words (middle ps ls) (map symbol (suffixes ps ls)))

  pub example-parts : (x y z : ℕ) → x ≡ length (symbols ps ls) → y ≡ length (prefixes ps ls) → z ≡ length ls → example_words ps ls ≡ (x ∷ y ∷ z ∷ []) ++ after_counts
  unfolding example_words around_words
  example-parts x y z ex ey ez = rw (ex, ey, ez, symbol_words_lem, reductions-around ps ls) (simp append_assoc)
