-- Symbols in words, a symbol and a production put into the packed words.
use Prim.Native.Nat.{ℕ, zero, suc, ◌+◌, ◌*◌, ◌≤◌, ◌<◌}
use native.Mathlib.Omega.{arith}
use mathlib.Core.Bool.{Bool, true, ◌&&◌}
use mathlib.Core.Path.{◌≡◌, refl, sym, ap, ◌∙◌}
use mathlib.Core.List.{List, [], ◌∷◌, ◌++◌}
use lib.ListN.{length, get_or, take, drop, set}
use lib.Seq.{take-set-le, drop-set-lt}
use borrow.Author.Tests.{lt-ltb}
use Rattle.lr1_base.specs.repr.Sizes.{nonterminal_limit, terminal_limit, production_limit, symbol_limit, production_place, grammar_room}
use Rattle.lr1_base.specs.repr.Meaning.{Symbol, nonterminal, terminal, Table, production_at, SymbolFits, All}
use Rattle.lr1_base.specs.repr.Listed.{symbol_of_kind, listed, symbol_is_fit, list_is_fit}
use Rattle.lr1_base.specs.repr.Packed.{symbol_words, production_in}
use Rattle.lr1_base.proofs.repr.Fronts.{same_part, same_word}
use Rattle.table.specs.Quads.{put_quad}
use Rattle.table.proofs.Quads.{put_0, put_1, put_2, put_3}
use Rattle.table_rewrite.specs.spelling.Spelled.{kind_of, number_of}
use Rattle.yacc_reader.specs.productions.Turn.{pairs, Stored}

-- the two words that stand for a symbol are its kind and its number
pub kind_given : (s : Symbol) (k n : ℕ) → symbol_of_kind k n ≡ s → k < 2 → k ≡ kind_of s
unfolding symbol_of_kind kind_of
kind_given s zero n e h = ap kind_of e
kind_given s (suc zero) n e h = ap kind_of e
kind_given s (suc (suc k)) n e h = absurd (omega (arith, h))

pub number_given : (s : Symbol) (k n : ℕ) → symbol_of_kind k n ≡ s → n ≡ number_of s
unfolding symbol_of_kind number_of
number_given s zero n e = ap number_of e
number_given s (suc k) n e = ap number_of e

-- symbols in words
pub pairs_snoc : (ss : List Symbol) (s : Symbol) → pairs (ss ++ s ∷ []) ≡ pairs ss ++ kind_of s ∷ number_of s ∷ []
unfolding pairs
pairs_snoc [] s = refl
pairs_snoc (x ∷ ss) s = ap (λ (l : List ℕ). kind_of x ∷ number_of x ∷ l) (pairs_snoc ss s)

pub listed-pairs : (ss : List Symbol) → listed (pairs ss) ≡ ss
unfolding pairs listed symbol_of_kind kind_of number_of
listed-pairs [] = refl
listed-pairs (nonterminal n ∷ ss) = ap (λ (l : List Symbol). nonterminal n ∷ l) (listed-pairs ss)
listed-pairs (terminal n ∷ ss) = ap (λ (l : List Symbol). terminal n ∷ l) (listed-pairs ss)

pub fits-pairs : (T : Table) → length T.nonterminals ≤ nonterminal_limit → T.terminals ≤ terminal_limit → (ss : List Symbol) → All (SymbolFits T) ss → list_is_fit nonterminal_limit terminal_limit (pairs ss) ≡ true
unfolding pairs list_is_fit symbol_is_fit kind_of number_of All SymbolFits
fits-pairs T a b [] A = refl
fits-pairs T a b (nonterminal n ∷ ss) A = let h = A.0 in ap (λ (t : Bool). t && list_is_fit nonterminal_limit terminal_limit (pairs ss)) (lt-ltb n nonterminal_limit (omega (arith, h, a))) ∙ fits-pairs T a b ss A.1
fits-pairs T a b (terminal n ∷ ss) A = let h = A.0 in ap (λ (t : Bool). t && list_is_fit nonterminal_limit terminal_limit (pairs ss)) (lt-ltb n terminal_limit (omega (arith, h, b))) ∙ fits-pairs T a b ss A.1

-- the productions in front of what changes stay
pub stored_front : (T : Table) (g g' : List ℕ) (n q : ℕ) → take (production_place n) g' ≡ take (production_place n) g → q < n → Stored T g q → Stored T g' q
unfolding symbol_words production_in
stored_front T g g' n q f h S =
    let s = S.short in
    let kept : (k : ℕ) → k < 36 → get_or g' (production_place q + k) 0 ≡ get_or g (production_place q + k) 0 = λ k b. same_word (production_place n) (production_place q + k) g' g f (omega arith) in
    let first : get_or g' (production_place q) 0 ≡ get_or g (production_place q) 0 = same_word (production_place n) (production_place q) g' g f (omega arith) in
    let words : symbol_words g' q ≡ symbol_words g q =
    ap (λ (k : ℕ). take (2 * k) (drop (production_place q + 4) g')) (kept 1 (omega arith))
    ∙ same_part (production_place n) (production_place q + 4) (2 * get_or g (production_place q + 1) 0) g' g f (omega arith) in
    record {
      is = let i : production_in g' q ≡ production_in g q = rw (first, words, kept 2 (omega arith), kept 3 (omega arith)) in i ∙ S.is;
      short = let k = kept 1 (omega arith) in omega (arith, k, s);
      fits = ap (list_is_fit nonterminal_limit terminal_limit) words ∙ S.fits;
    }

-- the four words in front of a production's symbols
module _ (g : List ℕ) (p a n s e : ℕ) where
  pub head-front : take (production_place p) (put_quad g (p * 9) a n s e) ≡ take (production_place p) g
  unfolding put_quad
  head-front =
      take-set-le (production_place p) (set (set (set g (p * 9 * 4) a) (p * 9 * 4 + 1) n) (p * 9 * 4 + 2) s) (p * 9 * 4 + 3) e (omega arith)
      ∙ take-set-le (production_place p) (set (set g (p * 9 * 4) a) (p * 9 * 4 + 1) n) (p * 9 * 4 + 2) s (omega arith)
      ∙ take-set-le (production_place p) (set g (p * 9 * 4) a) (p * 9 * 4 + 1) n (omega arith)
      ∙ take-set-le (production_place p) g (p * 9 * 4) a (omega arith)

  head-behind : drop (production_place p + 4) (put_quad g (p * 9) a n s e) ≡ drop (production_place p + 4) g
  unfolding put_quad
  head-behind =
      drop-set-lt (production_place p + 4) (set (set (set g (p * 9 * 4) a) (p * 9 * 4 + 1) n) (p * 9 * 4 + 2) s) (p * 9 * 4 + 3) e (omega arith)
      ∙ drop-set-lt (production_place p + 4) (set (set g (p * 9 * 4) a) (p * 9 * 4 + 1) n) (p * 9 * 4 + 2) s (omega arith)
      ∙ drop-set-lt (production_place p + 4) (set g (p * 9 * 4) a) (p * 9 * 4 + 1) n (omega arith)
      ∙ drop-set-lt (production_place p + 4) g (p * 9 * 4) a (omega arith)

  module _ (h : p < production_limit) (l : length g ≡ grammar_room) where
    room : p * 9 * 4 + 3 < length g
    room = omega (arith, h, l)

    place : p * 9 * 4 ≡ production_place p
    place = omega arith

    -- with the words of the symbols behind them a production stands
    pub stored_new : (T : Table) (ss : List Symbol) → take (2 * n) (drop (production_place p + 4) g) ≡ pairs ss → n ≤ symbol_limit → list_is_fit nonterminal_limit terminal_limit (pairs ss) ≡ true → production_at T p ≡ record { nonterminal = a; symbols = ss; start = s; end = e } → Stored T (put_quad g (p * 9) a n s e) p
    unfolding symbol_words production_in
    stored_new T ss w m f i =
        let h0 : get_or (put_quad g (p * 9) a n s e) (production_place p) 0 ≡ a = rw place at (put_0 g (p * 9) a n s e room) in
        let h1 : get_or (put_quad g (p * 9) a n s e) (production_place p + 1) 0 ≡ n = rw place at (put_1 g (p * 9) a n s e room) in
        let h2 : get_or (put_quad g (p * 9) a n s e) (production_place p + 2) 0 ≡ s = rw place at (put_2 g (p * 9) a n s e room) in
        let h3 : get_or (put_quad g (p * 9) a n s e) (production_place p + 3) 0 ≡ e = rw place at (put_3 g (p * 9) a n s e room) in
        let words : symbol_words (put_quad g (p * 9) a n s e) p ≡ pairs ss =
        ap (λ (k : ℕ). take (2 * k) (drop (production_place p + 4) (put_quad g (p * 9) a n s e))) h1
        ∙ ap (take (2 * n)) head-behind
        ∙ w in
        record {
          is = let j : production_in (put_quad g (p * 9) a n s e) p ≡ record { nonterminal = a; symbols = ss; start = s; end = e } = rw (h0, words, listed-pairs ss, h2, h3) in j ∙ sym i;
          short = omega (arith, h1, m);
          fits = ap (list_is_fit nonterminal_limit terminal_limit) words ∙ f;
        }
