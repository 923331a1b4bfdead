-- Laws of an item's symbol sets (specs/item/Items), over a production's words.
use Rattle.std.specs.Prelude.{◌≡◌, ℕ, zero, suc, ◌+◌, ◌-◌, ◌*◌, ◌<◌, ◌≤◌, false, eqb, List, [], ◌∷◌, length, get_or, take, drop, min}
use mathlib.Core.Path.{refl, sym}
use mathlib.Core.Option.{some}
use native.Mathlib.Omega.{arith}
use lib.ListN.{drop_of_length-le}
use lib.Seq.{take_all, length-take-le}
use Rattle.lr1_base.specs.repr.Sizes.{production_place}
use Rattle.lr1_base.specs.repr.Meaning.{Symbol, nonterminal, terminal}
use Rattle.lr1_base.specs.repr.Listed.{symbol_of_kind, listed}
use Rattle.lr1_base.specs.repr.Packed.{symbol_words, Packed}
use Rattle.lr1_base.proofs.repr.Parts.{listed-take, listed-drop, symbol_here}
use Rattle.lr1_base.specs.item.Items.{no_sets, first, symbol_sets, counts, held, counts_of, is_nonterminal, shifts_nonterminal, sets_in}

pub sets-none : (ws : List ℕ) → sets_in ws 0 0 0 ≡ no_sets
unfolding sets_in first listed
sets-none ws = refl

pub counts-none : counts 0 0 0 ≡ counts_of no_sets
unfolding counts_of held
counts-none = refl

first_one : (xs : List Symbol) → first (take 1 xs) ≡ first xs
unfolding first
first_one [] = refl
first_one (x ∷ xs) = refl

-- an index under the length
pub sets_at : (ws : List ℕ) (i n : ℕ) → length ws ≡ 2 * n → i < n → sets_in ws i 1 (n - i - 1) ≡ symbol_sets (listed ws) i
unfolding sets_in symbol_sets
sets_at ws i n l h = rw (listed-take i ws, listed-take 1 (drop (2 * i) ws), listed-drop i ws, first_one (drop i (listed ws)), rest) refl
  where
    whole : take (2 * (n - i - 1)) (drop (2 * (i + 1)) ws) ≡ drop (2 * (i + 1)) ws
    whole = take_all (2 * (n - i - 1)) (drop (2 * (i + 1)) ws) (rw (lib.ListN.length-drop (2 * (i + 1)) ws) (omega arith))

    rest : listed (take (2 * (n - i - 1)) (drop (2 * (i + 1)) ws)) ≡ drop (suc i) (listed ws)
    rest = let e : i + 1 ≡ suc i = omega arith in rw whole (rw e (listed-drop (suc i) ws))

-- at the length all is prefix
pub sets_end : (ws : List ℕ) (i n : ℕ) → n ≡ length (listed ws) → n ≤ i → sets_in ws i 0 0 ≡ symbol_sets (listed ws) i
unfolding sets_in symbol_sets first listed
sets_end ws i n l h = rw (listed-take i ws, drop_of_length-le (listed ws) {i = i} (omega arith), drop_of_length-le (listed ws) {i = suc i} (omega arith)) refl

-- how many symbols each part has
held_first : (xs : List Symbol) → 0 < length xs → held (first xs) ≡ 1
unfolding held first
held_first [] h = absurd (omega arith)
held_first (x ∷ xs) h = refl

held_none : (xs : List Symbol) → length xs ≡ 0 → held (first xs) ≡ 0
unfolding held first
held_none [] h = refl
held_none (x ∷ xs) h = absurd (omega arith)

alike : {a b c x y z : ℕ} → a ≡ x → b ≡ y → c ≡ z → counts a b c ≡ counts x y z
alike p q r = (cc)

pub counts_at : (xs : List Symbol) (i n x : ℕ) → n ≡ length xs → i < n → x + i + 1 ≡ n → counts i 1 x ≡ counts_of (symbol_sets xs i)
unfolding counts_of symbol_sets
counts_at xs i n x l h e =
    let a = length-take-le i xs (omega arith) in
    let b = lib.ListN.length-drop i xs in
    let d = lib.ListN.length-drop (suc i) xs in
    alike (omega arith) (sym (held_first (drop i xs) (omega arith))) (omega arith)

pub counts_end : (xs : List Symbol) (i : ℕ) → i ≡ length xs → counts i 0 0 ≡ counts_of (symbol_sets xs i)
unfolding counts_of symbol_sets
counts_end xs i l =
    let a = length-take-le i xs (omega arith) in
    let b = lib.ListN.length-drop i xs in
    let d = lib.ListN.length-drop (suc i) xs in
    alike (omega arith) (sym (held_none (drop i xs) (omega arith))) (omega arith)

-- the cursor's symbol, by kind
pub shifts_past : (xs : List Symbol) (i k : ℕ) → length xs ≤ i → false ≡ shifts_nonterminal xs i k
unfolding shifts_nonterminal symbol_sets first is_nonterminal
shifts_past xs i k h = rw (drop_of_length-le xs {i = i} h)

module _ (g : List ℕ) (n p i : ℕ) (P : Packed g n) (h : p < n) (l : i < length (listed (symbol_words g p))) where
  pub shifts_nonterminal_lem : (k x : ℕ) → get_or g (production_place p + 4 + 2 * i) 0 ≡ 0 → x ≡ get_or g (production_place p + 4 + 2 * i + 1) 0 → eqb x k ≡ shifts_nonterminal (listed (symbol_words g p)) i k
  unfolding shifts_nonterminal symbol_sets first is_nonterminal symbol_of_kind
  shifts_nonterminal_lem k x z e = rw (symbol_here g n p i P h l, z, e)

  pub shifts-terminal : (k : ℕ) → (get_or g (production_place p + 4 + 2 * i) 0 ≡ 0 → ⊥) → false ≡ shifts_nonterminal (listed (symbol_words g p)) i k
  unfolding shifts_nonterminal symbol_sets first is_nonterminal symbol_of_kind
  shifts-terminal k ne = rw (symbol_here g n p i P h l) (go (get_or g (production_place p + 4 + 2 * i) 0) ne)
    where
      go : (c : ℕ) → (c ≡ 0 → ⊥) → false ≡ is_nonterminal k (some (symbol_of_kind c (get_or g (production_place p + 4 + 2 * i + 1) 0)))
      go zero a = absurd (a refl)
      go (suc c) a = refl

-- by what is left from the cursor on
module _ (xs : List Symbol) (i k : ℕ) where
  pub shifts_none : drop i xs ≡ [] → shifts_nonterminal xs i k ≡ false
  unfolding shifts_nonterminal symbol_sets first is_nonterminal
  shifts_none e = rw e

  pub shifts_this : (m : ℕ) (rest : List Symbol) → drop i xs ≡ nonterminal m ∷ rest → shifts_nonterminal xs i k ≡ eqb m k
  unfolding shifts_nonterminal symbol_sets first is_nonterminal
  shifts_this m rest e = rw e

  pub shifts_no_terminal : (t : ℕ) (rest : List Symbol) → drop i xs ≡ terminal t ∷ rest → shifts_nonterminal xs i k ≡ false
  unfolding shifts_nonterminal symbol_sets first is_nonterminal
  shifts_no_terminal t rest e = rw e

-- parts of a production's symbols
pub prefix_is : (ws : List ℕ) (i : ℕ) → listed (take (2 * i) ws) ≡ (symbol_sets (listed ws) i).prefix
unfolding symbol_sets
prefix_is ws i = listed-take i ws

pub suffix_is : (ws : List ℕ) (i : ℕ) → listed (drop (2 * i + 2) ws) ≡ (symbol_sets (listed ws) i).suffix
unfolding symbol_sets
suffix_is ws i = let e : 2 * i + 2 ≡ 2 * suc i = omega arith in rw e (listed-drop (suc i) ws)

pub tail_from : (xs : List ℕ) (a k : ℕ) → k ≡ min a (length xs) → take (length xs - k) (drop k xs) ≡ drop a xs
tail_from xs a k e = rw (take_all (length xs - k) (drop k xs) (rw (lib.ListN.length-drop k xs) (omega arith))) (go (native.Mathlib.Decide.dec_le a (length xs)))
  where
    go : Dec (a ≤ length xs) → drop k xs ≡ drop a xs
    go (yes q) = let h : k ≡ a = omega arith in rw h refl
    go (no q) = rw (drop_of_length-le xs {i = k} (omega arith), drop_of_length-le xs {i = a} (omega arith)) refl
