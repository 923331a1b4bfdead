-- Laws of parts of a list of symbols in words (specs/repr/Listed), and of a production's words (specs/repr/Packed).
use mathlib.Core.Path.{◌≡◌, refl, sym, ap, ◌∙◌}
use mathlib.Core.Bool.{true}
use mathlib.Core.List.{List, [], ◌∷◌}
use Prim.Native.Nat.{ℕ, zero, suc, ◌+◌, ◌*◌, ◌<◌}
use native.Mathlib.Omega.{arith}
use lib.ListN.{length, get_or, take, drop}
use lib.Seq.{drop-nil, take-nil, get_or-take, get_or-drop}
use Rattle.lr1_base.specs.repr.Sizes.{production_place}
use Rattle.lr1_base.specs.repr.Meaning.{Symbol}
use Rattle.lr1_base.specs.repr.Listed.{symbol_of_kind, listed, list_is_fit, symbol_is_fit}
use Rattle.lr1_base.specs.repr.Packed.{symbol_words, Packed}
use Rattle.lr1_base.proofs.repr.Packed.{words_long}
use Rattle.lr1_base.proofs.repr.Listed.{listed-step, fits_head}
use Rattle.lr1_base.proofs.laws.Bools.{and-true}

pub two_more : (j : ℕ) → 2 * suc j ≡ suc (suc (2 * j))
two_more j = omega arith

-- two words a symbol
pub listed-take : (i : ℕ) (ws : List ℕ) → listed (take (2 * i) ws) ≡ take i (listed ws)
unfolding listed
listed-take zero ws = refl
listed-take (suc i) [] = rw (two_more i)
listed-take (suc i) (k ∷ []) = rw (two_more i, take-nil)
listed-take (suc i) (k ∷ x ∷ ws) = rw (two_more i) (ap (λ (l : List Symbol). symbol_of_kind k x ∷ l) (listed-take i ws))

pub listed-drop : (i : ℕ) (ws : List ℕ) → listed (drop (2 * i) ws) ≡ drop i (listed ws)
unfolding listed
listed-drop zero ws = refl
listed-drop (suc i) [] = rw (two_more i)
listed-drop (suc i) (k ∷ []) = rw (two_more i, drop-nil)
listed-drop (suc i) (k ∷ x ∷ ws) = rw (two_more i) (listed-drop i ws)

-- a list that fits has whole symbols
pub length-listed : (n t : ℕ) (ws : List ℕ) → list_is_fit n t ws ≡ true → length ws ≡ 2 * length (listed ws)
unfolding listed list_is_fit
length-listed n t [] e = refl
length-listed n t (k ∷ []) e = let z : ◌≡◌ {A = ℕ} 0 1 = cc in absurd (omega arith)
length-listed n t (k ∷ x ∷ ws) e =
    let f = (fits_head n t (k ∷ x ∷ ws) 0 (omega arith) e).1.1 in
    let r = length-listed n t ws f in
    omega arith

-- how many symbols a production has
pub symbols_long : (g : List ℕ) (n p : ℕ) → Packed g n → p < n → length (listed (symbol_words g p)) ≡ get_or g (production_place p + 1) 0
symbols_long g n p P h =
    let a = words_long g n p P h in
    let b = length-listed 32 63 (symbol_words g p) (P.fits p h) in
    omega arith

-- the symbol at a place
pub listed_at : (ws : List ℕ) (i : ℕ) → 2 * i + 1 < length ws → drop i (listed ws) ≡ symbol_of_kind (get_or ws (2 * i) 0) (get_or ws (2 * i + 1) 0) ∷ drop (suc i) (listed ws)
listed_at ws i h =
    let e : 2 * i + 2 ≡ 2 * suc i = omega arith in
    sym (listed-drop i ws) ∙ listed-step ws (2 * i) h ∙ ap (λ (l : List Symbol). symbol_of_kind (get_or ws (2 * i) 0) (get_or ws (2 * i + 1) 0) ∷ l) (rw e (listed-drop (suc i) ws))

-- a word of a production's symbols among all words
pub word_of : (g : List ℕ) (n p j : ℕ) → Packed g n → p < n → j < 2 * get_or g (production_place p + 1) 0 → get_or (symbol_words g p) j 0 ≡ get_or g (production_place p + 4 + j) 0
unfolding symbol_words
word_of g n p j P h l = get_or-take (2 * get_or g (production_place p + 1) 0) (drop (production_place p + 4) g) j 0 l ∙ get_or-drop (production_place p + 4) g j 0

-- symbol i of a production's
pub symbol_here : (g : List ℕ) (n p i : ℕ) → Packed g n → p < n → i < length (listed (symbol_words g p))
    → drop i (listed (symbol_words g p)) ≡ symbol_of_kind (get_or g (production_place p + 4 + 2 * i) 0) (get_or g (production_place p + 4 + 2 * i + 1) 0) ∷ drop (suc i) (listed (symbol_words g p))
symbol_here g n p i P h l =
    let s = symbols_long g n p P h in
    let w = words_long g n p P h in
    let e : production_place p + 4 + 2 * i + 1 ≡ production_place p + 4 + (2 * i + 1) = omega arith in
    listed_at (symbol_words g p) i (omega arith)
    ∙ rw (word_of g n p (2 * i) P h (omega arith), word_of g n p (2 * i + 1) P h (omega arith), e)

-- what is left of a list that fits does
pub fits-drop : (n t i : ℕ) (ws : List ℕ) → list_is_fit n t ws ≡ true → list_is_fit n t (drop (2 * i) ws) ≡ true
unfolding list_is_fit
fits-drop n t zero ws e = e
fits-drop n t (suc i) [] e = rw (two_more i)
fits-drop n t (suc i) (k ∷ []) e = let z : ◌≡◌ {A = ℕ} 0 1 = cc in absurd (omega arith)
fits-drop n t (suc i) (k ∷ x ∷ ws) e = rw (two_more i) (fits-drop n t i ws (fits_head n t (k ∷ x ∷ ws) 0 (omega arith) e).1.1)

pub fits-take : (n t i : ℕ) (ws : List ℕ) → list_is_fit n t ws ≡ true → list_is_fit n t (take (2 * i) ws) ≡ true
unfolding list_is_fit
fits-take n t zero ws e = refl
fits-take n t (suc i) [] e = rw (two_more i)
fits-take n t (suc i) (k ∷ []) e = let z : ◌≡◌ {A = ℕ} 0 1 = cc in absurd (omega arith)
fits-take n t (suc i) (k ∷ x ∷ ws) e =
    let r = and-true (symbol_is_fit n t k x) (list_is_fit n t ws) e in
    rw (two_more i) (rw r.0 (fits-take n t i ws r.1))
