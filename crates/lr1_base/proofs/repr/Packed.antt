-- Laws of the productions in words (specs/repr/Packed).
use mathlib.Core.Path.{◌≡◌}
use mathlib.Core.List.{List}
use Prim.Native.Nat.{ℕ, ◌+◌, ◌-◌, ◌*◌, ◌<◌}
use native.Mathlib.Omega.{arith}
use lib.ListN.{length, get_or, take, drop, length-take, length-drop}
use Rattle.lr1_base.specs.repr.Sizes.{production_place}
use Rattle.lr1_base.specs.repr.Packed.{symbol_words, Packed, production_in, productions_in}
use Rattle.lr1_base.proofs.repr.Lists.{length-map-below}

-- the part of the words that the code hands on
pub words_part : (g : List ℕ) (p k from past : ℕ) → k ≡ get_or g (production_place p + 1) 0 → from ≡ production_place p + 4 → past ≡ from + 2 * k → take (past - from) (drop from g) ≡ symbol_words g p
unfolding symbol_words
words_part g p k from past ek ef ep = let e : past - from ≡ 2 * k = omega arith in rw (e, ek, ef)

-- it has two words for each symbol
pub words_long : (g : List ℕ) (n p : ℕ) → Packed g n → p < n → length (symbol_words g p) ≡ 2 * get_or g (production_place p + 1) 0
unfolding symbol_words
words_long g n p P h =
    let s = P.short p h in
    let l = P.long in
    let f = P.few in
    simp (length-take, length-drop) (omega arith)

pub productions_long : (g : List ℕ) (n : ℕ) → length (productions_in g n) ≡ n
unfolding productions_in
productions_long g n = length-map-below (production_in g) n
