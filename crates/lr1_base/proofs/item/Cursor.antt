-- Laws of the symbol at the cursor as one number (specs/item/Cursor).
use Rattle.std.specs.Prelude.{◌≡◌, ℕ, zero, suc, ◌+◌, ◌<◌, ◌≤◌, true, false, eqb, ltb, List, [], ◌∷◌, length, drop}
use mathlib.Core.Path.{refl, sym, ap, ◌∙◌}
use native.Mathlib.Omega.{arith}
use lib.ListN.{drop_of_length-le}
use lib.Seq.{drop-drop, drop-nil}
use borrow.Author.Tests.{eqb-true, eq-eqb, ne_eqb, ltb-true, ltb-false}
use Rattle.lr1_base.specs.repr.Meaning.{Symbol, nonterminal, terminal}
use Rattle.lr1_base.specs.repr.Listed.{symbol_of_kind, listed, list_is_fit}
use Rattle.lr1_base.specs.repr.Packed.{Packed, symbol_words}
use Rattle.lr1_base.proofs.repr.Lists.{cases, clash}
use Rattle.lr1_base.proofs.repr.Listed.{fits_head, symbol_range}
use Rattle.lr1_base.specs.item.Items.{first, symbol_sets, is_nonterminal, shifts_nonterminal}
use Rattle.lr1_base.specs.item.Cursor.{symbol_code, cursor_code, code_in}

pub code-none : (g : List ℕ) (p i : ℕ) → length (listed (symbol_words g p)) ≤ i → 95 ≡ code_in g p i
unfolding code_in cursor_code
code-none g p i h = rw (drop_of_length-le (listed (symbol_words g p)) {i = i} h) refl

-- of what `Item::cursor` answers

pub code_ended : (g : List ℕ) (p i : ℕ) → drop i (listed (symbol_words g p)) ≡ [] → code_in g p i ≡ 95
unfolding code_in cursor_code
code_ended g p i e = rw e

pub code_begun : (g : List ℕ) (p i : ℕ) (s : Symbol) (rest : List Symbol) → drop i (listed (symbol_words g p)) ≡ s ∷ rest → code_in g p i ≡ symbol_code s
unfolding code_in cursor_code
code_begun g p i s rest e = rw e

-- a number below 32 is a nonterminal's

pub code_small : (c : ℕ) (ys : List Symbol) → c ≡ cursor_code ys → c < 32 → ys ≡ nonterminal c ∷ drop 1 ys
unfolding cursor_code symbol_code
code_small c [] e h = absurd (omega arith)
code_small c (nonterminal n ∷ ys) e h = ap (λ (m : ℕ). nonterminal m ∷ ys) (sym e)
code_small c (terminal t ∷ ys) e h = absurd (omega arith)

pub code_inside : (g : List ℕ) (p i c : ℕ) → c ≡ code_in g p i → c < 32 → i ≤ length (listed (symbol_words g p))
code_inside g p i c e h =
    cases (ltb (length (listed (symbol_words g p))) i)
    (λ t. absurd (omega (arith, code-none g p i (omega (arith, ltb-true (length (listed (symbol_words g p))) i t)))))
    (λ t. ltb-false (length (listed (symbol_words g p))) i t)

pub code-shows : (g : List ℕ) (p i c : ℕ) → c ≡ code_in g p i → c < 32 → drop i (listed (symbol_words g p)) ≡ nonterminal c ∷ drop (suc i) (listed (symbol_words g p))
unfolding code_in
code-shows g p i c e h =
    let one : i + 1 ≡ suc i = omega arith in
    code_small c (drop i (listed (symbol_words g p))) e h ∙ ap (λ (l : List Symbol). nonterminal c ∷ l) (drop-drop 1 i (listed (symbol_words g p)) ∙ ap (λ (k : ℕ). drop k (listed (symbol_words g p))) one)

-- whether it is a given nonterminal

pub code_is : (g : List ℕ) (p i n : ℕ) → n < 32 → eqb (code_in g p i) n ≡ shifts_nonterminal (listed (symbol_words g p)) i n
unfolding code_in shifts_nonterminal symbol_sets cursor_code symbol_code first is_nonterminal
code_is g p i n h = go (drop i (listed (symbol_words g p)))
  where
    go : (ys : List Symbol) → eqb (cursor_code ys) n ≡ is_nonterminal n (first ys)
    go [] = ne_eqb 95 n (λ e. omega arith)
    go (nonterminal m ∷ ys) = refl
    go (terminal t ∷ ys) = ne_eqb (32 + t) n (λ e. omega arith)

-- no number from 32 on is one
large : (ws : List ℕ) (i n : ℕ) → list_is_fit 32 63 ws ≡ true → 32 ≤ n → false ≡ is_nonterminal n (first (drop i (listed ws)))
unfolding listed symbol_of_kind first is_nonterminal
large [] i n f h = rw drop-nil
large (k ∷ []) i n f h = rw drop-nil
large (zero ∷ x ∷ ws) zero n f h = let r = (symbol_range 32 63 0 x (fits_head 32 63 (0 ∷ x ∷ ws) 0 (omega arith) f).1.0).1.0 refl in sym (ne_eqb x n (λ e. omega arith))
large (suc k ∷ x ∷ ws) zero n f h = refl
large (k ∷ x ∷ ws) (suc i) n f h = large ws i n (fits_head 32 63 (k ∷ x ∷ ws) 0 (omega arith) f).1.1 h

pub code_never : (g : List ℕ) (ps p i n : ℕ) → Packed g ps → p < ps → 32 ≤ n → false ≡ shifts_nonterminal (listed (symbol_words g p)) i n
unfolding shifts_nonterminal symbol_sets
code_never g ps p i n P h l = large (symbol_words g p) i n (P.fits p h) l

-- which one it is
pub cursor_is : (g : List ℕ) (p i c : ℕ) → c ≡ code_in g p i → (n : ℕ) → shifts_nonterminal (listed (symbol_words g p)) i n ≡ true → c ≡ n
unfolding code_in shifts_nonterminal symbol_sets cursor_code symbol_code first is_nonterminal
cursor_is g p i c e n s = go (drop i (listed (symbol_words g p))) e s
  where
    go : (ys : List Symbol) → c ≡ cursor_code ys → is_nonterminal n (first ys) ≡ true → c ≡ n
    go [] q t = clash _ t refl
    go (nonterminal m ∷ ys) q t = q ∙ eqb-true m n t
    go (terminal m ∷ ys) q t = clash _ t refl

pub cursor_shifts : (g : List ℕ) (p i c : ℕ) → c ≡ code_in g p i → c < 32 → shifts_nonterminal (listed (symbol_words g p)) i c ≡ true
cursor_shifts g p i c e h = sym (code_is g p i c h) ∙ eq-eqb (code_in g p i) c (sym e)
