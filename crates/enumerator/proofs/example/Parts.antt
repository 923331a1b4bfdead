-- Laws of symbols in words (`words_of` and `Part` of specs/example/Written): the parts of the packed words that a label's item has.
use Rattle.std.proofs.Common.{◌≡◌, ℕ, zero, suc, ◌+◌, ◌-◌, ◌*◌, ◌<◌, ◌≤◌, true, false, List, [], ◌∷◌, ◌++◌, map, length, get_or, take, drop, sym, refl, ap, ◌∙◌, arith, drop_of_length-le}
use mathlib.Core.List.{map-append}
use mathlib.Core.Option.{Option, none, some}
use Rattle.lr1_base.specs.repr.Sizes.{nonterminal_limit, terminal_limit}
use Rattle.lr1_base.specs.repr.Lists.{joined}
use Rattle.lr1_base.specs.repr.Meaning.{Symbol, nonterminal, terminal, Production}
use Rattle.lr1_base.specs.repr.Listed.{symbol_of_kind, listed, symbol_is_fit, list_is_fit}
use Rattle.lr1_base.specs.repr.Packed.{productions_in, Packed}
use Rattle.lr1_base.specs.repr.Packed as packed
use Rattle.lr1_base.proofs.repr.Lists.{length_mapped, joined_append, clash}
use Rattle.lr1_base.proofs.repr.Listed.{drop_two, fits_head}
use Rattle.lr1_base.proofs.repr.Packed.{words_long}
use Rattle.lr1_base.proofs.repr.Parts.{listed_at, symbols_long, fits-drop, fits-take}
use Rattle.lr1_base.specs.item.Items.{Sets, first, symbol_sets}
use Rattle.enumerator.specs.example.Example.{symbol, symbol_words, sets_of, cursor_of}
use Rattle.enumerator.specs.example.Labels.{labels_in, LabelsFit}
use Rattle.enumerator.specs.example.Written.{label_at, words_of, Part}
use Rattle.enumerator.proofs.example.Sizes.{twos}
use Rattle.enumerator.proofs.example.LabelList.{labels_step, item-production, item-sets}

pub words_append : (xs ys : List Symbol) → words_of (xs ++ ys) ≡ words_of xs ++ words_of ys
unfolding words_of
words_append xs ys = ap (joined symbol_words) (map-append symbol xs ys) ∙ joined_append symbol_words (map symbol xs) (map symbol ys)

pub words-twice : (xs : List Symbol) → length (words_of xs) ≡ 2 * length xs
unfolding words_of
words-twice xs = let a = twos (map symbol xs) in let b = length_mapped symbol xs in omega arith

listed-words : (xs : List Symbol) → listed (words_of xs) ≡ xs
unfolding words_of joined listed symbol_words symbol_of_kind
listed-words [] = refl
listed-words (nonterminal n ∷ xs) = ap (λ (l : List Symbol). nonterminal n ∷ l) (listed-words xs)
listed-words (terminal n ∷ xs) = ap (λ (l : List Symbol). terminal n ∷ l) (listed-words xs)

-- symbols in range, and the rest
fits-rest : (n t k x : ℕ) (ws : List ℕ) → list_is_fit n t (k ∷ x ∷ ws) ≡ true → (symbol_is_fit n t k x ≡ true) × (list_is_fit n t ws ≡ true)
fits-rest n t k x ws e = (fits_head n t (k ∷ x ∷ ws) 0 (omega arith) e).1

words-listed : (ws : List ℕ) → list_is_fit nonterminal_limit terminal_limit ws ≡ true → words_of (listed ws) ≡ ws
unfolding words_of joined listed symbol_words symbol_of_kind list_is_fit symbol_is_fit
words-listed [] e = refl
words-listed (k ∷ []) e = clash false e refl
words-listed (zero ∷ x ∷ ws) e = ap (λ (l : List ℕ). 0 ∷ x ∷ l) (words-listed ws (fits-rest 32 63 0 x ws e).1)
words-listed (suc zero ∷ x ∷ ws) e = ap (λ (l : List ℕ). 1 ∷ x ∷ l) (words-listed ws (fits-rest 32 63 1 x ws e).1)
words-listed (suc (suc k) ∷ x ∷ ws) e = clash false e refl

-- a part, from the symbols that it lists
part_of : (ws : List ℕ) (xs : List Symbol) → listed ws ≡ xs → list_is_fit nonterminal_limit terminal_limit ws ≡ true → Part ws xs
part_of ws xs e f = record { words = sym (ap words_of (sym e) ∙ words-listed ws f); fits = f }

pub part_listed : (ws : List ℕ) (xs : List Symbol) → Part ws xs → listed ws ≡ xs
part_listed ws xs P = ap listed P.words ∙ listed-words xs

pub part_length : (ws : List ℕ) (xs : List Symbol) → Part ws xs → length ws ≡ 2 * length xs
part_length ws xs P = ap length P.words ∙ words-twice xs

-- what stands at the cursor, as a list
unfoldable pub list_of : Option Symbol → List Symbol
list_of none = []
list_of (some x) = x ∷ []

pub first_cursor : (ps : List Production) (ws : List ℕ) → 0 < length (labels_in ws) → cursor_of ps (labels_in ws) ≡ list_of (sets_of ps (label_at ws 0)).cursor
unfolding cursor_of list_of
first_cursor ps ws h = ap (cursor_of ps) (labels_step ws 0 h) ∙ go (sets_of ps (label_at ws 0)).cursor
  where
    go : (o : Option Symbol) → (elim o [ some x ↦ x ∷ [] | none ↦ [] ]) ≡ list_of o
    go none = refl
    go (some x) = refl

cursor_list : (xs : List Symbol) → list_of (first xs) ≡ take 1 xs
unfolding first list_of
cursor_list [] = refl
cursor_list (x ∷ xs) = refl

module _ (g : List ℕ) (n : ℕ) (P : Packed g n) (ws : List ℕ) (F : LabelsFit (productions_in g n) ws) (j : ℕ) (h : j < length (labels_in ws)) (p i : ℕ) (ep : p ≡ (label_at ws j).production) (ei : i ≡ (label_at ws j).index) where
  inside : p < n
  inside = item-production g n ws F j h p i ep ei

  sets : symbol_sets (listed (packed.symbol_words g p)) i ≡ sets_of (productions_in g n) (label_at ws j)
  sets = item-sets g n ws F j h p i ep ei

  pub prefix_is : (r : List ℕ) → r ≡ take (2 * i) (packed.symbol_words g p) → listed r ≡ (symbol_sets (listed (packed.symbol_words g p)) i).prefix
      → Part r (sets_of (productions_in g n) (label_at ws j)).prefix
  prefix_is r e l = part_of r (sets_of (productions_in g n) (label_at ws j)).prefix (l ∙ ap (λ (s : Sets). s.prefix) sets) (rw e (fits-take 32 63 i (packed.symbol_words g p) (P.fits p inside)))

  pub suffix_is : (r : List ℕ) → r ≡ drop (2 * i + 2) (packed.symbol_words g p) → listed r ≡ (symbol_sets (listed (packed.symbol_words g p)) i).suffix
      → Part r (sets_of (productions_in g n) (label_at ws j)).suffix
  suffix_is r e l =
      let q : 2 * i + 2 ≡ 2 * suc i = omega arith in
      part_of r (sets_of (productions_in g n) (label_at ws j)).suffix (l ∙ ap (λ (s : Sets). s.suffix) sets) (rw (e, q) (fits-drop 32 63 (suc i) (packed.symbol_words g p) (P.fits p inside)))

-- the first label's cursor
module _ (g : List ℕ) (n : ℕ) (P : Packed g n) (ws : List ℕ) (F : LabelsFit (productions_in g n) ws) (h : 0 < length (labels_in ws)) (p i : ℕ) (ep : p ≡ (label_at ws 0).production) (ei : i ≡ (label_at ws 0).index) where
  at_cursor_lem : cursor_of (productions_in g n) (labels_in ws) ≡ take 1 (drop i (listed (packed.symbol_words g p)))
  unfolding symbol_sets
  at_cursor_lem =
      first_cursor (productions_in g n) ws h
      ∙ ap (λ (s : Sets). list_of s.cursor) (sym (item-sets g n ws F 0 h p i ep ei))
      ∙ cursor_list (drop i (listed (packed.symbol_words g p)))

  pub cursor_none : length (listed (packed.symbol_words g p)) ≤ i → Part [] (cursor_of (productions_in g n) (labels_in ws))
  unfolding listed list_is_fit
  cursor_none l = part_of [] (cursor_of (productions_in g n) (labels_in ws)) (sym (at_cursor_lem ∙ rw (drop_of_length-le (listed (packed.symbol_words g p)) {i = i} l))) refl

  module _ (l : i < length (listed (packed.symbol_words g p))) where
    inside' : p < n
    inside' = item-production g n ws F 0 h p i ep ei

    cursor_long : 2 * i + 2 ≤ length (packed.symbol_words g p)
    cursor_long = let w = words_long g n p P inside' in let s = symbols_long g n p P inside' in omega arith

    pub cursor_is : (past : ℕ) → past ≡ 2 * i + 2 → (past ≤ length (packed.symbol_words g p)) × Part (take (past - 2 * i) (drop (2 * i) (packed.symbol_words g p))) (cursor_of (productions_in g n) (labels_in ws))
    unfolding listed list_is_fit
    cursor_is past eq =
        let ss = packed.symbol_words g p in
        let l = cursor_long in
        let two : past - 2 * i ≡ 2 = omega arith in
        let k = (fits_head nonterminal_limit terminal_limit ss (2 * i) (omega arith) (fits-drop 32 63 i ss (P.fits p inside'))).1.0 in
        let v : take (past - 2 * i) (drop (2 * i) ss) ≡ get_or ss (2 * i) 0 ∷ get_or ss (2 * i + 1) 0 ∷ [] = rw (two, drop_two ss (2 * i) (omega arith)) in
        let t : cursor_of (productions_in g n) (labels_in ws) ≡ symbol_of_kind (get_or ss (2 * i) 0) (get_or ss (2 * i + 1) 0) ∷ [] = at_cursor_lem ∙ rw (listed_at ss i (omega arith)) in
        (omega arith, rw v (part_of (get_or ss (2 * i) 0 ∷ get_or ss (2 * i + 1) 0 ∷ []) (cursor_of (productions_in g n) (labels_in ws)) (sym t) (rw k)))
