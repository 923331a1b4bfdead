-- Laws of bytes written one behind the other (specs/Wrote), and numerals of one and two digits.
use Prim.Native.Nat.{ℕ, zero, suc, ◌+◌, ◌*◌, ◌/◌, ◌%◌, ◌≤◌, ◌<◌}
use native.Mathlib.Nat.{add-zero, add-suc, suc-add}
use native.Mathlib.Omega.{arith}
use mathlib.Core.Path.{◌≡◌, refl, sym, ap, ◌∙◌, subst}
use mathlib.Core.List.{List, [], ◌∷◌, ◌++◌}
use lib.ListN.{length, get_or, set, take, drop, length-append}
use lib.Seq.{sets, sets-eq, set_out, take-suc}
use native.Mathlib.Numerals.{add-one}
use Rattle.std.proofs.lemmas.List.{take_all}
use borrow.Author.Tests.{lt-ltb, le-ltb}
use Rattle.lr1_base.specs.words.Lent.{in_front}
use Rattle.lr1_base.specs.repr.Sizes.{production_place}
use Rattle.lr1_base.specs.repr.Lists.{joined}
use Rattle.lr1_base.specs.repr.Meaning.{nonterminal, terminal, Production}
use Rattle.lr1_base.specs.repr.Listed.{listed}
use Rattle.lr1_base.specs.repr.Packed.{symbol_words, production_in}
use Rattle.lr1_base.specs.numerals.Numeral.{numeral_by, numeral}
use Rattle.yacc_writer.specs.Wrote.{Wrote, name_bytes, terminal_bytes, token_bytes, production_bytes, file_bytes}

-- a byte, where there is no room
pub wrote-out : (l : List ℕ) (at x : ℕ) → length l ≤ at → Wrote l at (x ∷ []) l (at + 1)
wrote-out l at x h = record { is = sym (set_out l at x h); place = refl }

pub wrote_nothing : (l : List ℕ) (at : ℕ) → Wrote l at [] l at
wrote_nothing l at = record { is = refl; place = sym (add-zero at) }

-- one behind the other
pub sets-append : (xs ys l : List ℕ) (i : ℕ) → sets l i (xs ++ ys) ≡ sets (sets l i xs) (i + length xs) ys
sets-append [] ys l i = ap (λ (k : ℕ). sets l k ys) (sym (add-zero i))
sets-append (x ∷ xs) ys l i =
    let e : suc i + length xs ≡ i + suc (length xs) = suc-add i (length xs) ∙ sym (add-suc i (length xs)) in
    sets-append xs ys (set l i x) (suc i) ∙ ap (λ (k : ℕ). sets (sets (set l i x) (suc i) xs) k ys) e

pub wrote_then : {a b c : List ℕ} {at m r : ℕ} {t u : List ℕ} → Wrote a at t b m → Wrote b m u c r → Wrote a at (t ++ u) c r
wrote_then {a} {b} {c} {at} {m} {r} {t} {u} P Q = record {
  is = Q.is ∙ ap (λ (l : List ℕ). sets l m u) P.is ∙ ap (λ (k : ℕ). sets (sets a at t) k u) P.place ∙ sym (sets-append t u a at);
  place = let e = P.place in let f = Q.place in let g = length-append t u in omega arith;
}

-- one byte more of some
pub wrote_more : {a b c : List ℕ} {at m r : ℕ} (bs : List ℕ) (i : ℕ) → i < length bs → Wrote a at (take i bs) b m → Wrote b m (get_or bs i 0 ∷ []) c r → Wrote a at (take (i + 1) bs) c r
wrote_more {a} {b} {c} {at} {m} {r} bs i h P Q = subst (λ (l : List ℕ). Wrote a at l c r) (sym (ap (λ (k : ℕ). take k bs) (add-one i) ∙ take-suc bs i 0 h)) (wrote_then P Q)

pub wrote_all : {a b : List ℕ} {at r : ℕ} (bs : List ℕ) (i : ℕ) → length bs ≤ i → Wrote a at (take i bs) b r → Wrote a at bs b r
wrote_all {a} {b} {at} {r} bs i h P = subst (λ (l : List ℕ). Wrote a at l b r) (take_all i bs h) P

pub wrote_as : {a b : List ℕ} {at r : ℕ} {t u : List ℕ} → Wrote a at t b r → t ≡ u → Wrote a at u b r
wrote_as {a} {b} {at} {r} P e = subst (λ (l : List ℕ). Wrote a at l b r) e P

-- from the front on, with room
pub wrote-front : {a b t : List ℕ} {r : ℕ} → Wrote a 0 t b r → length t ≤ length a → b ≡ in_front t a
unfolding in_front
wrote-front {a} {b} {t} {r} P h =
    let z : 0 + length t ≡ length t = omega arith in
    P.is ∙ sets-eq t a 0 (omega arith) ∙ ap (λ (k : ℕ). t ++ drop k a) z

-- a loop that writes: what is left of the whole
pub record Left (a : List ℕ) (at : ℕ) (whole b : List ℕ) (m : ℕ) (rest : List ℕ) : Type 0 where
  pub is : sets b m rest ≡ sets a at whole
  pub place : m + length rest ≡ at + length whole

pub left_all_lem : (a : List ℕ) (at : ℕ) (whole : List ℕ) → Left a at whole a at whole
left_all_lem a at whole = record { is = refl; place = refl }

pub left_less : {a b c : List ℕ} {at m r : ℕ} {whole t u rest : List ℕ} → Left a at whole b m rest → rest ≡ t ++ u → Wrote b m t c r → Left a at whole c r u
left_less {a} {b} {c} {at} {m} {r} {whole} {t} {u} {rest} L e P = record {
  is = ap (λ (l : List ℕ). sets l r u) P.is ∙ ap (λ (k : ℕ). sets (sets b m t) k u) P.place ∙ sym (sets-append t u b m) ∙ ap (sets b m) (sym e) ∙ L.is;
  place = let f = P.place in let g = length-append t u in let h = L.place in let k = ap length e in omega arith;
}

pub left-none : {a b : List ℕ} {at m : ℕ} {whole rest : List ℕ} → Left a at whole b m rest → rest ≡ [] → Wrote a at whole b m
left-none {a} {b} {at} {m} {whole} {rest} L e = record {
  is = ap (sets b m) (sym e) ∙ L.is;
  place = let h = L.place in let k : length rest ≡ 0 = ap length e in omega arith;
}

-- numerals below 100
pub one_digit : (n : ℕ) → n < 10 → (48 + n) ∷ [] ≡ numeral n
unfolding numeral numeral_by
one_digit n h = sym (rw (lt-ltb n 10 h, numeral_by))

pub two_digits : (n : ℕ) → 10 ≤ n → n < 100 → (48 + n / 10) ∷ (48 + n % 10) ∷ [] ≡ numeral n
unfolding numeral numeral_by
two_digits n h k =
    let q : n / 10 < 10 = omega arith in
    sym (rw (le-ltb n 10 h, lt-ltb (n / 10) 10 q, numeral_by))

-- `put_number`: n has its last digit alone, or one before it
pub number_one : {a b : List ℕ} {at r d : ℕ} (n : ℕ) → n < 10 → d ≡ 48 + n % 10 → Wrote a at (d ∷ []) b r → Wrote a at (numeral n) b r × (r ≤ at + 2)
number_one n h e W =
    let m : n % 10 ≡ n = omega arith in
    let p = W.place in
    (wrote_as W (ap {B = List ℕ} (λ (x : ℕ). x ∷ []) (e ∙ ap (λ (x : ℕ). 48 + x) m) ∙ one_digit n h), omega arith)

pub number_two : {a b c : List ℕ} {at m r d e : ℕ} (n : ℕ) → 10 ≤ n → n < 100 → d ≡ 48 + n / 10 → e ≡ 48 + n % 10 → Wrote a at (d ∷ []) b m → Wrote b m (e ∷ []) c r
    → Wrote a at (numeral n) c r × (r ≤ at + 2)
number_two {d = d} n h k ed ee S W =
    let p = S.place in
    let q = W.place in
    (wrote_as (wrote_then S W) (ap {B = List ℕ} (λ (x : ℕ). d ∷ x ∷ []) ee ∙ ap {B = List ℕ} (λ (x : ℕ). x ∷ (48 + n % 10) ∷ []) ed ∙ two_digits n h k), omega arith)

-- a byte in front
pub byte-then : {a b c : List ℕ} {at m r x : ℕ} {t : List ℕ} (k : ℕ) → Wrote a at (x ∷ []) b m → Wrote b m t c r × (r ≤ m + k) → Wrote a at (x ∷ t) c r × (r ≤ at + (k + 1))
byte-then k S W = let p = S.place in let h = W.1 in (wrote_then S W.0, omega arith)

pub nonterminal-put : {a b c : List ℕ} {at m r : ℕ} (n : ℕ) → Wrote a at (32 ∷ []) b m → Wrote b m (78 ∷ numeral n) c r × (r ≤ m + 3) → Wrote a at (name_bytes (nonterminal n)) c r × (r ≤ at + 4)
unfolding name_bytes
nonterminal-put n S W = byte-then 3 S W

pub terminal-put : {a b c : List ℕ} {at m r : ℕ} (n : ℕ) → Wrote a at (32 ∷ []) b m → Wrote b m (84 ∷ numeral n) c r × (r ≤ m + 3) → Wrote a at (name_bytes (terminal n)) c r × (r ≤ at + 4)
unfolding name_bytes
terminal-put n S W = byte-then 3 S W

-- the line of the tokens
pub no_tokens : (a : List ℕ) (n : ℕ) → n ≡ 0 → Wrote a 0 (token_bytes n) a 0 × (0 ≤ 259)
unfolding token_bytes
no_tokens a n e = (subst (λ (k : ℕ). Wrote a 0 (token_bytes k) a 0) (sym e) (wrote_nothing a 0), omega arith)

pub some-tokens : {a b c d : List ℕ} {i k r : ℕ} (n : ℕ) → (n ≡ 0 → ⊥) → n ≤ 63 → Wrote a 0 (37 ∷ 116 ∷ 111 ∷ 107 ∷ 101 ∷ 110 ∷ []) b i
    → Wrote b i (terminal_bytes n) c k × (k ≤ i + 4 * n) → Wrote c k (10 ∷ []) d r → Wrote a 0 (token_bytes n) d r × (r ≤ 259)
unfolding token_bytes
some-tokens zero ne h S X Y = absurd (ne refl)
some-tokens (suc n) ne h S X Y =
    let p = S.place in
    let s = X.1 in
    let t = Y.place in
    (wrote_then S (wrote_then X.0 Y), omega arith)

-- the line of a production
pub production-put : {a b c d e f : List ℕ} {at i j k l r : ℕ} (g : List ℕ) (p o : ℕ) (ws : List ℕ) → o ≡ get_or g (production_place p) 0 → ws ≡ symbol_words g p
    → Wrote a at (78 ∷ numeral o) b i × (i ≤ at + 3) → Wrote b i (32 ∷ []) c j → Wrote c j (58 ∷ []) d k → Wrote d k (joined name_bytes (listed ws)) e l × (l ≤ k + 64)
    → Wrote e l (32 ∷ 59 ∷ 10 ∷ []) f r → Wrote a at (production_bytes (production_in g p)) f r × (r ≤ at + 72)
unfolding production_bytes production_in
production-put g p o ws eo ew U S W X Y =
    let h = U.1 in
    let q = S.place in
    let s = W.place in
    let t = X.1 in
    let u = Y.place in (
      wrote_as (wrote_then U.0 (wrote_then S (wrote_then W (wrote_then X.0 Y))))
          (ap (λ (x : ℕ). (78 ∷ numeral x) ++ (32 ∷ 58 ∷ (joined name_bytes (listed ws) ++ (32 ∷ 59 ∷ 10 ∷ [])))) eo
          ∙ ap (λ (l : List ℕ). (78 ∷ numeral (get_or g (production_place p) 0)) ++ (32 ∷ 58 ∷ (joined name_bytes (listed l) ++ (32 ∷ 59 ∷ 10 ∷ [])))) ew),
      omega arith,
    )

-- all lines
pub file_put : {a b c d : List ℕ} {i j r : ℕ} (n : ℕ) (ps : List Production) (k : ℕ) → k ≤ 128 → Wrote a 0 (token_bytes n) b i × (i ≤ 259) → Wrote b i (37 ∷ 37 ∷ 10 ∷ []) c j
    → Wrote c j (joined production_bytes ps) d r × (r ≤ j + 72 * k) → Wrote a 0 (file_bytes n ps) d r × (r < 65536)
unfolding file_bytes
file_put n ps k h U S W =
    let p = U.1 in
    let q = S.place in
    let s = W.1 in
    (wrote_then U.0 (wrote_then S W.0), omega arith)
