-- Laws of items in words: what is put is read, and nothing else changes; one law for each way through the code.
use Rattle.std.proofs.Common.{◌≡◌, ℕ, zero, suc, ◌+◌, ◌-◌, ◌*◌, ◌/◌, ◌%◌, ◌<◌, ◌≤◌, true, false, ◌&&◌, eqb, Option, Some, None, option_map, List, [], ◌∷◌, ◌++◌, map, length, get_or, take, drop, set, sym, refl, ap, ◌∙◌, append_assoc, append-nil, add-one, arith, length-append, length-drop, length-set, get_or-drop, get_or-take, get_or-append-add, get_or-set_other, get_or-set_same, eq-eqb, ne_eqb, eqb-true}
use Rattle.std.proofs.lemmas.List.{length-take-le}
use lib.ListN.{get_or-append}
use borrow.Rule.Slice.PartMut.{put_mid}
use Rattle.lr1_base.specs.repr.Sizes.{index_limit}
use Rattle.lr1_base.specs.repr.Lists.{up_from}
use Rattle.lr1_base.proofs.repr.Lists.{cases, turned, up_from-last, length-up_from, length_mapped}
use Rattle.lr1_base.specs.repr.Meaning.{Symbol, is_same_symbol, All}
use Rattle.lr1_base.specs.repr.Symbols.{meant, IsInRange}
use Rattle.lr1_base.specs.declared.repr.Symbol.{Symbol as Coded}
use Rattle.lr1_base.specs.declared.repr.Symbol.TheVariants.{Nonterminal, Terminal}
use Rattle.lr1_base.specs.contracts.repr.SymbolPartialEq.TheImpl.{eq-value}
use Rattle.std.specs.Option.{MatchOption, option_eq}
use Rattle.lr1_base.specs.repr.Listed.{listed}
use Rattle.lr1_base.specs.repr.Packed.{symbol_words}
use Rattle.lr1_states.specs.canonical.States.{begins}
use Rattle.lr1_states.specs.stored_item.Stored.{Entry, set_at, entry_at, entries, entry_words, put_entry, is_at, moved_over, same_entry, is_same_kernel, Appended}

-- one item

module _ (ws : List ℕ) (b v0 v1 v2 v3 v4 : ℕ) where
  abbrev five : List ℕ
  five = set (set (set (set (set ws b v0) (b + 1) v1) (b + 2) v2) (b + 3) v3) (b + 4) v4

  length_five : length five ≡ length ws
  length_five = simp length-set

  five_other : (i : ℕ) → (i ≡ b → ⊥) → (i ≡ b + 1 → ⊥) → (i ≡ b + 2 → ⊥) → (i ≡ b + 3 → ⊥) → (i ≡ b + 4 → ⊥) → get_or five i 0 ≡ get_or ws i 0
  five_other i n0 n1 n2 n3 n4 =
      get_or-set_other (set (set (set (set ws b v0) (b + 1) v1) (b + 2) v2) (b + 3) v3) (b + 4) i v4 0 n4
      ∙ get_or-set_other (set (set (set ws b v0) (b + 1) v1) (b + 2) v2) (b + 3) i v3 0 n3
      ∙ get_or-set_other (set (set ws b v0) (b + 1) v1) (b + 2) i v2 0 n2
      ∙ get_or-set_other (set ws b v0) (b + 1) i v1 0 n1
      ∙ get_or-set_other ws b i v0 0 n0

  module _ (h : b + 5 ≤ length ws) where
    five_4 : get_or five (b + 4) 0 ≡ v4
    five_4 = get_or-set_same (set (set (set (set ws b v0) (b + 1) v1) (b + 2) v2) (b + 3) v3) (b + 4) v4 0 (simp length-set (omega arith))

    five_3 : get_or five (b + 3) 0 ≡ v3
    five_3 =
        get_or-set_other (set (set (set (set ws b v0) (b + 1) v1) (b + 2) v2) (b + 3) v3) (b + 4) (b + 3) v4 0 (λ e. omega arith)
        ∙ get_or-set_same (set (set (set ws b v0) (b + 1) v1) (b + 2) v2) (b + 3) v3 0 (simp length-set (omega arith))

    five_2 : get_or five (b + 2) 0 ≡ v2
    five_2 =
        get_or-set_other (set (set (set (set ws b v0) (b + 1) v1) (b + 2) v2) (b + 3) v3) (b + 4) (b + 2) v4 0 (λ e. omega arith)
        ∙ get_or-set_other (set (set (set ws b v0) (b + 1) v1) (b + 2) v2) (b + 3) (b + 2) v3 0 (λ e. omega arith)
        ∙ get_or-set_same (set (set ws b v0) (b + 1) v1) (b + 2) v2 0 (simp length-set (omega arith))

    five_1 : get_or five (b + 1) 0 ≡ v1
    five_1 =
        get_or-set_other (set (set (set (set ws b v0) (b + 1) v1) (b + 2) v2) (b + 3) v3) (b + 4) (b + 1) v4 0 (λ e. omega arith)
        ∙ get_or-set_other (set (set (set ws b v0) (b + 1) v1) (b + 2) v2) (b + 3) (b + 1) v3 0 (λ e. omega arith)
        ∙ get_or-set_other (set (set ws b v0) (b + 1) v1) (b + 2) (b + 1) v2 0 (λ e. omega arith)
        ∙ get_or-set_same (set ws b v0) (b + 1) v1 0 (simp length-set (omega arith))

    five_0 : get_or five b 0 ≡ v0
    five_0 =
        get_or-set_other (set (set (set (set ws b v0) (b + 1) v1) (b + 2) v2) (b + 3) v3) (b + 4) b v4 0 (λ e. omega arith)
        ∙ get_or-set_other (set (set (set ws b v0) (b + 1) v1) (b + 2) v2) (b + 3) b v3 0 (λ e. omega arith)
        ∙ get_or-set_other (set (set ws b v0) (b + 1) v1) (b + 2) b v2 0 (λ e. omega arith)
        ∙ get_or-set_other (set ws b v0) (b + 1) b v1 0 (λ e. omega arith)
        ∙ get_or-set_same ws b v0 0 (omega arith)

-- the same put as one part
five_part : (ws : List ℕ) (b v0 v1 v2 v3 v4 : ℕ) → b + 5 ≤ length ws → take b ws ++ ((v0 ∷ v1 ∷ v2 ∷ v3 ∷ v4 ∷ []) ++ drop 5 (drop b ws)) ≡ five ws b v0 v1 v2 v3 v4
five_part [] b v0 v1 v2 v3 v4 h = absurd (omega arith)
five_part (x0 ∷ []) zero v0 v1 v2 v3 v4 h = absurd (omega arith)
five_part (x0 ∷ x1 ∷ []) zero v0 v1 v2 v3 v4 h = absurd (omega arith)
five_part (x0 ∷ x1 ∷ x2 ∷ []) zero v0 v1 v2 v3 v4 h = absurd (omega arith)
five_part (x0 ∷ x1 ∷ x2 ∷ x3 ∷ []) zero v0 v1 v2 v3 v4 h = absurd (omega arith)
five_part (x0 ∷ x1 ∷ x2 ∷ x3 ∷ x4 ∷ ws) zero v0 v1 v2 v3 v4 h = refl
five_part (x ∷ ws) (suc b) v0 v1 v2 v3 v4 h =
    let e1 : suc b + 1 ≡ suc (b + 1) = omega arith in
    let e2 : suc b + 2 ≡ suc (b + 2) = omega arith in
    let e3 : suc b + 3 ≡ suc (b + 3) = omega arith in
    let e4 : suc b + 4 ≡ suc (b + 4) = omega arith in
    rw (e1, e2, e3, e4) (ap (λ (l : List ℕ). x ∷ l) (five_part ws b v0 v1 v2 v3 v4 (omega arith)))

pub put_part : (ws ys : List ℕ) (m x s : ℕ) → m * 5 + 5 ≤ length ws → ys ≡ entry_words x s → put_mid (m * 5) (m * 5 + 5 - m * 5) ws ys ≡ put_entry ws m x s
unfolding put_entry entry_words
put_part ws ys m x s h e =
    let k : m * 5 + 5 - m * 5 ≡ 5 = omega arith in
    rw (k, e) (five_part ws (m * 5) x (s % 65536) (s / 65536 % 65536) (s / 65536 / 65536 % 65536) (s / 65536 / 65536 / 65536) h)

pub length-put : (ws : List ℕ) (m x s : ℕ) → length (put_entry ws m x s) ≡ length ws
unfolding put_entry
length-put ws m x s = length_five ws (m * 5) x (s % 65536) (s / 65536 % 65536) (s / 65536 / 65536 % 65536) (s / 65536 / 65536 / 65536)

four_words : (s : ℕ) → s % 65536 + 65536 * (s / 65536 % 65536 + 65536 * (s / 65536 / 65536 % 65536 + 65536 * (s / 65536 / 65536 / 65536))) ≡ s
four_words s = omega arith

pub put_here : (ws : List ℕ) (m x s : ℕ) → m * 5 + 5 ≤ length ws → entry_at (put_entry ws m x s) m ≡ record { place = x; set = s }
unfolding put_entry entry_at set_at
put_here ws m x s h =
    let b : ℕ = m * 5 in
    rw (
      five_0 ws (m * 5) x (s % 65536) (s / 65536 % 65536) (s / 65536 / 65536 % 65536) (s / 65536 / 65536 / 65536) h,
      five_1 ws (m * 5) x (s % 65536) (s / 65536 % 65536) (s / 65536 / 65536 % 65536) (s / 65536 / 65536 / 65536) h,
      five_2 ws (m * 5) x (s % 65536) (s / 65536 % 65536) (s / 65536 / 65536 % 65536) (s / 65536 / 65536 / 65536) h,
      five_3 ws (m * 5) x (s % 65536) (s / 65536 % 65536) (s / 65536 / 65536 % 65536) (s / 65536 / 65536 / 65536) h,
      five_4 ws (m * 5) x (s % 65536) (s / 65536 % 65536) (s / 65536 / 65536 % 65536) (s / 65536 / 65536 / 65536) h,
      four_words s,
    )

pub put_other : (ws : List ℕ) (m n x s : ℕ) → (n ≡ m → ⊥) → entry_at (put_entry ws m x s) n ≡ entry_at ws n
unfolding put_entry entry_at set_at
put_other ws m n x s ne =
    let o : (j : ℕ) → j < 5 → get_or (put_entry ws m x s) (n * 5 + j) 0 ≡ get_or ws (n * 5 + j) 0 = λ j l.
    five_other ws (m * 5) x (s % 65536) (s / 65536 % 65536) (s / 65536 / 65536 % 65536) (s / 65536 / 65536 / 65536) (n * 5 + j)
    (λ e. ne (omega arith)) (λ e. ne (omega arith)) (λ e. ne (omega arith)) (λ e. ne (omega arith)) (λ e. ne (omega arith)) in
    let z : n * 5 + 0 ≡ n * 5 = omega arith in
    rw (rw z at (o 0 (omega arith)), o 1 (omega arith), o 2 (omega arith), o 3 (omega arith), o 4 (omega arith))

pub read_is : (ws : List ℕ) (p a b c d : ℕ) → p ≡ get_or ws 0 0 → a ≡ get_or ws 1 0 → b ≡ get_or ws 2 0 → c ≡ get_or ws 3 0 → d ≡ get_or ws 4 0 → record { place = p; set = a + 65536 * (b + 65536 * (c + 65536 * d)) } ≡ entry_at ws 0
unfolding entry_at set_at
read_is ws p a b c d ep ea eb ec ed = rw (ep, ea, eb, ec, ed)

-- items one behind the other

pub entries-more : (ws : List ℕ) (m n : ℕ) → entries ws m (suc n) ≡ entry_at ws m ∷ entries ws (suc m) n
unfolding entries up_from
entries-more ws m n = refl

pub entries_same : (ws vs : List ℕ) (m n : ℕ) → ((i : ℕ) → m ≤ i → i < m + n → entry_at vs i ≡ entry_at ws i) → entries vs m n ≡ entries ws m n
unfolding entries up_from
entries_same ws vs m zero f = refl
entries_same ws vs m (suc n) f =
    let more = entries_same ws vs (suc m) n (λ i l h. f i (omega arith) (omega arith)) in
    let here = f m (omega arith) (omega arith) in
    cc

-- the words of one item
pub entries-one : (x s : ℕ) → entries (entry_words x s) 0 1 ≡ record { place = x; set = s } ∷ []
unfolding entries up_from entry_at set_at entry_words
entries-one x s = rw (four_words s) refl

map_snoc : (f : ℕ → Entry) (xs : List ℕ) (x : ℕ) → map f (xs ++ x ∷ []) ≡ map f xs ++ f x ∷ []
map_snoc f [] x = refl
map_snoc f (y ∷ xs) x = ap (λ (l : List Entry). f y ∷ l) (map_snoc f xs x)

entries-last : (ws : List ℕ) (n : ℕ) → entries ws 0 (n + 1) ≡ entries ws 0 n ++ entry_at ws n ∷ []
unfolding entries
entries-last ws n =
    let z : 0 + n ≡ n = omega arith in
    rw (add-one n, up_from-last 0 n, z) (map_snoc (entry_at ws) (up_from 0 n) n)

pub entries-put : (ws : List ℕ) (n x s : ℕ) → n * 5 + 5 ≤ length ws → entries (put_entry ws n x s) 0 (n + 1) ≡ entries ws 0 n ++ record { place = x; set = s } ∷ []
entries-put ws n x s h =
    let same = entries_same ws (put_entry ws n x s) 0 n (λ i l u. put_other ws n i x s (λ e. omega arith)) in
    rw (entries-last (put_entry ws n x s) n, same, put_here ws n x s h)

-- all items of some words

unfoldable pub all_entries : List ℕ → List Entry
all_entries ws = entries ws 0 (length ws / 5)

entries_alike : (ws vs : List ℕ) (m k n : ℕ) → ((i : ℕ) → i < n → entry_at vs (m + i) ≡ entry_at ws (k + i)) → entries vs m n ≡ entries ws k n
unfolding entries up_from
entries_alike ws vs m k zero f = refl
entries_alike ws vs m k (suc n) f =
    let y : m + 0 ≡ m = omega arith in
    let z : k + 0 ≡ k = omega arith in
    let more = entries_alike ws vs (suc m) (suc k) n (λ i h. let a : suc m + i ≡ m + suc i = omega arith in let b : suc k + i ≡ k + suc i = omega arith in rw (a, b) (f (suc i) (omega arith))) in
    let here = rw (y, z) at (f 0 (omega arith)) in
    cc

entry_alike : (ws vs : List ℕ) (m k : ℕ) → ((j : ℕ) → j < 5 → get_or vs (m * 5 + j) 0 ≡ get_or ws (k * 5 + j) 0) → entry_at vs m ≡ entry_at ws k
unfolding entry_at set_at
entry_alike ws vs m k f =
    let y : m * 5 + 0 ≡ m * 5 = omega arith in
    let z : k * 5 + 0 ≡ k * 5 = omega arith in
    rw (rw (y, z) at (f 0 (omega arith)), f 1 (omega arith), f 2 (omega arith), f 3 (omega arith), f 4 (omega arith))

-- an item by its own words
pub entry_part : (ws : List ℕ) (m : ℕ) → entry_at (take (m * 5 + 5 - m * 5) (drop (m * 5) ws)) 0 ≡ entry_at ws m
entry_part ws m = entry_alike ws (take (m * 5 + 5 - m * 5) (drop (m * 5) ws)) 0 m (λ j v.
    get_or-take (m * 5 + 5 - m * 5) (drop (m * 5) ws) (0 * 5 + j) 0 (omega arith) ∙ get_or-drop (m * 5) ws (0 * 5 + j) 0 ∙ ap (λ (y : ℕ). get_or ws y 0) (let e : m * 5 + (0 * 5 + j) ≡ m * 5 + j = omega arith in e))

pub all_none : (ws : List ℕ) → length ws < 5 → all_entries ws ≡ []
unfolding all_entries entries up_from
all_none ws h = let z : length ws / 5 ≡ 0 = omega arith in rw z refl

pub all-more : (w ws : List ℕ) → length w ≡ 5 → all_entries (w ++ ws) ≡ entry_at w 0 ∷ all_entries ws
unfolding all_entries
all-more w ws h =
    let l = length-append w ws in
    let z : length (w ++ ws) / 5 ≡ suc (length ws / 5) = omega (arith, l) in
    let here : entry_at (w ++ ws) 0 ≡ entry_at w 0 = entry_alike w (w ++ ws) 0 0 (λ j u. get_or-append w ws 0 (0 * 5 + j) (omega arith)) in
    let there : entries (w ++ ws) 1 (length ws / 5) ≡ entries ws 0 (length ws / 5) = entries_alike ws (w ++ ws) 1 0 (length ws / 5) (λ i u. entry_alike ws (w ++ ws) (1 + i) (0 + i) (λ j v.
    let a : (1 + i) * 5 + j ≡ length w + ((0 + i) * 5 + j) = omega arith in
    rw a (get_or-append-add w ws ((0 + i) * 5 + j) 0))) in
    rw z (entries-more (w ++ ws) 0 (length ws / 5) ∙ (rw (here, there)))

-- a part of the words
pub all_part : (ws : List ℕ) (from past : ℕ) → from ≤ past → past * 5 ≤ length ws → all_entries (take (past * 5 - from * 5) (drop (from * 5) ws)) ≡ entries ws from (past - from)
unfolding all_entries
all_part ws from past h l =
    let d = length-drop (from * 5) ws in
    let t = length-take-le (past * 5 - from * 5) (drop (from * 5) ws) (omega arith) in
    let z : length (take (past * 5 - from * 5) (drop (from * 5) ws)) / 5 ≡ past - from = omega (arith, t) in
    rw z (entries_alike ws (take (past * 5 - from * 5) (drop (from * 5) ws)) 0 from (past - from) (λ i u. entry_alike ws (take (past * 5 - from * 5) (drop (from * 5) ws)) (0 + i) (from + i) (λ j v.
    let a : from * 5 + ((0 + i) * 5 + j) ≡ (from + i) * 5 + j = omega arith in
    get_or-take (past * 5 - from * 5) (drop (from * 5) ws) ((0 + i) * 5 + j) 0 (omega arith) ∙ get_or-drop (from * 5) ws ((0 + i) * 5 + j) 0 ∙ ap (λ (y : ℕ). get_or ws y 0) a)))

-- those in front of some words
pub entries_front : (ws : List ℕ) (n : ℕ) → n * 5 ≤ length ws → entries (take (n * 5) ws) 0 (length (take (n * 5) ws) / 5) ≡ entries ws 0 n
unfolding all_entries
entries_front ws n h = let z : n * 5 - 0 * 5 ≡ n * 5 = omega arith in let y : n - 0 ≡ n = omega arith in rw (z, y) at (all_part ws 0 n (omega arith) h)

-- moving over a symbol, or over the end

module _ (g : List ℕ) (X : Option Symbol) (x s : ℕ) (es : List Entry) where
  over_yes : is_at X (drop (x % index_limit) (listed (symbol_words g (x / index_limit)))) ≡ true → moved_over g X (record { place = x; set = s } ∷ es) ≡ record { place = x + 1; set = s } ∷ moved_over g X es
  unfolding moved_over
  over_yes e = rw (e, moved_over)

  over_no : is_at X (drop (x % index_limit) (listed (symbol_words g (x / index_limit)))) ≡ false → moved_over g X (record { place = x; set = s } ∷ es) ≡ moved_over g X es
  unfolding moved_over
  over_no e = rw (e, moved_over)

over-nil : (g : List ℕ) (X : Option Symbol) → moved_over g X [] ≡ []
unfolding moved_over
over-nil g X = refl

over-split : (g : List ℕ) (X : Option Symbol) (e : Entry) (es : List Entry) → moved_over g X (e ∷ es) ≡ moved_over g X (e ∷ []) ++ moved_over g X es
over-split g X e es =
    cases (is_at X (drop (e.place % index_limit) (listed (symbol_words g (e.place / index_limit)))))
    (λ t. over_yes g X e.place e.set es t ∙ rw (over_yes g X e.place e.set [] t, over-nil g X))
    (λ t. over_no g X e.place e.set es t ∙ rw (over_no g X e.place e.set [] t, over-nil g X))

-- the code's comparison of a cursor's symbol: what is left of the symbols begins with X exactly if it says so
same_symbol : (X Y : Coded) → is_same_symbol (meant X) (meant Y) ≡ eq-value.it Y X
unfolding is_same_symbol
same_symbol (Nonterminal n) (Nonterminal m) = turned n.0 m.0
same_symbol (Nonterminal n) (Terminal m) = refl
same_symbol (Terminal n) (Nonterminal m) = refl
same_symbol (Terminal n) (Terminal m) = turned n m

pub begins_with : (X r : Option Coded) (left rest : List Symbol) → MatchOption r (left ≡ []) (λ s. (left ≡ meant s ∷ rest) × IsInRange s) → is_at (option_map meant X) left ≡ option_eq eq-value.it r X
unfolding is_at begins
begins_with None None left rest e = rw e refl
begins_with None (Some Y) left rest e = rw e.0 refl
begins_with (Some X) None left rest e = rw e refl
begins_with (Some X) (Some Y) left rest e = rw e.0 (same_symbol X Y)

pub appended : (g : List ℕ) (X : Option Symbol) (x s : ℕ) (k k' : List ℕ) (n : ℕ) → n * 5 + 5 ≤ length k → is_at X (drop (x % index_limit) (listed (symbol_words g (x / index_limit)))) ≡ true → k' ≡ put_entry k n (x + 1) s → Appended g X x s k k' n (n + 1)
appended g X x s k k' n h e q = record {
  long = ap length q ∙ length-put k n (x + 1) s;
  low = omega arith;
  high = omega arith;
  is = rw (q, over_yes g X x s [] e, over-nil g X) (entries-put k n (x + 1) s h);
}

pub passed : (g : List ℕ) (X : Option Symbol) (x s : ℕ) (k : List ℕ) (n : ℕ) → is_at X (drop (x % index_limit) (listed (symbol_words g (x / index_limit)))) ≡ false → Appended g X x s k k n n
passed g X x s k n e = record {
  long = refl;
  low = omega arith;
  high = omega arith;
  is = rw (over_no g X x s [] e, over-nil g X) (sym (append-nil (entries k 0 n)));
}

-- a turn of the loop: `left` of the items are still to be moved
pub record Turn (g : List ℕ) (X : Option Symbol) (limit : ℕ) (all : List Entry) (k : List ℕ) (n : ℕ) (left : List Entry) : Type 0 where
  pub short : n + length left ≤ length all
  pub inside : All (λ (e : Entry). e.place < limit) left
  pub moved : entries k 0 n ++ moved_over g X left ≡ moved_over g X all

pub entries_fit : (ws : List ℕ) (limit m n : ℕ) → ((i : ℕ) → m ≤ i → i < m + n → (entry_at ws i).place < limit) → All (λ (e : Entry). e.place < limit) (entries ws m n)
unfolding entries up_from All
entries_fit ws limit m zero f = tt
entries_fit ws limit m (suc n) f = (f m (omega arith) (omega arith), entries_fit ws limit (suc m) n (λ i l h. f i (omega arith) (omega arith)))

pub length-entries : (ws : List ℕ) (m n : ℕ) → length (entries ws m n) ≡ n
unfolding entries
length-entries ws m n = length_mapped (entry_at ws) (up_from m n) ∙ length-up_from m n

pub turn_begin : (g : List ℕ) (X : Option Symbol) (limit : ℕ) (ws k : List ℕ) (from past : ℕ) → from ≤ past → past * 5 ≤ length ws → ((i : ℕ) → from ≤ i → i < past → (entry_at ws i).place < limit)
    → Turn g X limit (entries ws from (past - from)) k 0 (all_entries (take (past * 5 - from * 5) (drop (from * 5) ws)))
unfolding entries up_from
turn_begin g X limit ws k from past h l f =
    rw (all_part ws from past h l) record {
      short = omega arith;
      inside = entries_fit ws limit from (past - from) (λ i u v. f i u (omega arith));
      moved = refl;
    }

module _ (g : List ℕ) (X : Option Symbol) (limit : ℕ) (all : List Entry) (k : List ℕ) (n : ℕ) where
  module _ (w rest : List ℕ) (h : length w ≡ 5) (t : Turn g X limit all k n (all_entries (w ++ rest))) (x s : ℕ) (e : record { place = x; set = s } ≡ entry_at w 0) where
    this : Turn g X limit all k n (record { place = x; set = s } ∷ all_entries rest)
    this = rw (all-more w rest h, ← e) at t

    pub turn_room : (x < limit) × (n < length all)
    unfolding All
    turn_room = let t = this in (t.inside.0, omega (arith, t.short))

    pub turn_next : (k' : List ℕ) (r : ℕ) → Appended g X x s k k' n r → Turn g X limit all k' r (all_entries rest)
    unfolding All
    turn_next k' r a =
        let t = this in
        record {
          short = omega (arith, t.short, a.high);
          inside = t.inside.1;
          moved = rw (a.is, append_assoc (entries k 0 n) (moved_over g X (record { place = x; set = s } ∷ [])) (moved_over g X (all_entries rest))) (rw (← over-split g X (record { place = x; set = s }) (all_entries rest)) t.moved);
        }

  pub turn_end : (rest : List ℕ) → length rest < 5 → Turn g X limit all k n (all_entries rest) → (n ≤ length all) × (entries k 0 n ≡ moved_over g X all)
  turn_end rest h t =
      let z = all_none rest h in
      (omega (arith, t.short), sym (append-nil (entries k 0 n)) ∙ (rw (z, over-nil g X) at t.moved))

-- comparing kernels

module _ (x s : ℕ) (es : List Entry) where
  pub kernel_pass : (ds : List Entry) → x % index_limit ≡ 0 → is_same_kernel (record { place = x; set = s } ∷ es) ds ≡ is_same_kernel es ds
  unfolding is_same_kernel
  kernel_pass [] z = rw (eq-eqb (x % index_limit) 0 z, is_same_kernel)
  kernel_pass (d ∷ ds) z = rw (eq-eqb (x % index_limit) 0 z, is_same_kernel)

  pub kernel_short : (x % index_limit ≡ 0 → ⊥) → is_same_kernel (record { place = x; set = s } ∷ es) [] ≡ false
  unfolding is_same_kernel
  kernel_short z = rw (ne_eqb (x % index_limit) 0 z, is_same_kernel)

  pub kernel_both : (d : Entry) (ds : List Entry) → (x % index_limit ≡ 0 → ⊥) → is_same_kernel (record { place = x; set = s } ∷ es) (d ∷ ds) ≡ (same_entry (record { place = x; set = s }) d && is_same_kernel es ds)
  unfolding is_same_kernel
  kernel_both d ds z = rw (ne_eqb (x % index_limit) 0 z, is_same_kernel)

pub kernel_nil : is_same_kernel [] [] ≡ true
unfolding is_same_kernel
kernel_nil = refl

pub kernel_long : (d : Entry) (ds : List Entry) → is_same_kernel [] (d ∷ ds) ≡ false
unfolding is_same_kernel
kernel_long d ds = refl

pub differs : (x s y t : ℕ) → ((x ≡ y) × (s ≡ t) → ⊥) → same_entry (record { place = x; set = s }) (record { place = y; set = t }) ≡ false
unfolding same_entry
differs x s y t ne =
    cases (eqb x y)
    (λ a. rw a (cases (eqb s t) (λ b. absurd (ne (eqb-true x y a, eqb-true s t b))) (λ b. b)))
    (λ a. rw a refl)

pub alike : (x s y t : ℕ) → x ≡ y → s ≡ t → same_entry (record { place = x; set = s }) (record { place = y; set = t }) ≡ true
unfolding same_entry
alike x s y t p q = rw (eq-eqb x y p, eq-eqb s t q) refl
