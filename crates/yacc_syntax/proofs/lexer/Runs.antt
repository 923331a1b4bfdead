-- Runs of bytes from a place of a text on: names, words, comments.
use Prim.Native.Nat.{ℕ, suc, ◌+◌, ◌-◌, ◌≤◌, ◌<◌}
use native.Mathlib.Numerals.{add-one}
use native.Mathlib.Omega.{arith}
use mathlib.Core.Bool.{Bool, true, false, ◌&&◌, not}
use mathlib.Core.Path.{◌≡◌, refl, sym, ap, ◌∙◌}
use mathlib.Core.List.{List, [], ◌∷◌}
use mathlib.Core.Option.{Option, none, some}
use lib.Dec.{eqb}
use Rattle.std.specs.List.{starts_with, take_while}
use Rattle.std.proofs.lemmas.List.Sums.{take_while-cons}
use Rattle.std.specs.Prelude.{cond}
use Rattle.std.proofs.lemmas.Grind.{common_steps}
use Rattle.std.proofs.lemmas.Bool.Decides.{nat_tests}
use lib.ListN.{length, get_or, take, drop, length-drop, drop_of_length-le}
use lib.Seq.{drop-cons, get_or-drop}
use borrow.Author.Tests.{eq-eqb, ne_eqb}
use Rattle.yacc_syntax.specs.text.Grammar.{kind_of, goes_on_byte, comment, slash_next, closes, stops}
use Rattle.yacc_syntax.specs.text.Lex.{Next, goes, outside, rest, run_of, past_run, strip, longer, in_comment}
use Rattle.yacc_syntax.proofs.text.Lexing.{run_more, run_none}
use Rattle.yacc_syntax.specs.lexer.Steps.{begins, behind_comment}

-- the byte at a place, and what stands behind it
pub drop-next : (t : List ℕ) (i : ℕ) → i < length t → drop i t ≡ get_or t i 0 ∷ drop (i + 1) t
drop-next t i h = drop-cons t i 0 h ∙ ap (λ (k : ℕ). get_or t i 0 ∷ drop k t) (sym (add-one i))

-- the bytes from a place on, as the code slices them
pub rest_of : (at : ℕ) (t : List ℕ) → take (length t - at) (drop at t) ≡ drop at t
rest_of at t = grind (arith, common_steps)

pub rest_long : (at : ℕ) (t : List ℕ) → length (take (length t - at) (drop at t)) ≡ length t - at
rest_long at t = ap length (rest_of at t) ∙ length-drop at t

pub byte_behind : (at i : ℕ) (t : List ℕ) → get_or (take (length t - at) (drop at t)) i 0 ≡ get_or t (at + i) 0
byte_behind at i t = ap (λ (k : List ℕ). get_or k i 0) (rest_of at t) ∙ get_or-drop at t i 0

run_byte : (b : ℕ) (k : List ℕ) (g : Bool) → goes_on_byte (kind_of b) ≡ g → take_while (λ c. goes_on_byte (kind_of c)) k ≡ run_of k → take_while (λ c. goes_on_byte (kind_of c)) (b ∷ k) ≡ run_of (b ∷ k)
run_byte b k true e I = take_while-cons (λ c. goes_on_byte (kind_of c)) b k ∙ ap (λ (c : Bool). cond c (b ∷ take_while (λ d. goes_on_byte (kind_of d)) k) []) e ∙ ap (λ (l : List ℕ). b ∷ l) I ∙ sym (run_more b k e)
run_byte b k false e I = take_while-cons (λ c. goes_on_byte (kind_of c)) b k ∙ ap (λ (c : Bool). cond c (b ∷ take_while (λ d. goes_on_byte (kind_of d)) k) []) e ∙ sym (run_none b k e)

pub run_passes : (k : List ℕ) → take_while (λ b. goes_on_byte (kind_of b)) k ≡ run_of k
unfolding run_of
run_passes [] = refl
run_passes (b ∷ k) = run_byte b k (goes_on_byte (kind_of b)) refl (run_passes k)

-- a run is as many bytes of the text
by_byte : (b : ℕ) (k : List ℕ) (g : Bool) → goes_on_byte (kind_of b) ≡ g → (run_of k ≡ take (length (run_of k)) k) × (past_run k ≡ drop (length (run_of k)) k)
    → (run_of (b ∷ k) ≡ take (length (run_of (b ∷ k))) (b ∷ k)) × (past_run (b ∷ k) ≡ drop (length (run_of (b ∷ k))) (b ∷ k))
unfolding run_of past_run
by_byte b k true e I = rw (e, run_of, past_run) (ap (λ (l : List ℕ). b ∷ l) I.0, I.1)
by_byte b k false e I = rw (e, run_of, past_run) (refl, refl)

pub run_taken : (k : List ℕ) → (run_of k ≡ take (length (run_of k)) k) × (past_run k ≡ drop (length (run_of k)) k)
unfolding run_of past_run
run_taken [] = (refl, refl)
run_taken (b ∷ k) = by_byte b k (goes_on_byte (kind_of b)) refl (run_taken k)

-- `stops_at`
pub stops_end : (t : List ℕ) (i : ℕ) → length t ≤ i → true ≡ stops (drop i t)
unfolding stops
stops_end t i h = sym (ap stops (drop_of_length-le t h))

pub stops-byte : (t : List ℕ) (i : ℕ) (g : Bool) → i < length t → g ≡ goes_on_byte (kind_of (get_or t i 0)) → not g ≡ stops (drop i t)
unfolding stops
stops-byte t i g h e = ap not e ∙ sym (ap stops (drop-next t i h))

-- `has_word`
pub begins_is : (ps k : List ℕ) → starts_with eqb k ps ≡ begins ps k
unfolding begins
begins_is [] k = refl
begins_is (p ∷ ps) [] = refl
begins_is (p ∷ ps) (b ∷ k) = by (eqb p b) (begins_is ps k)
  where
    by : (q : Bool) → starts_with eqb k ps ≡ begins ps k → q && starts_with eqb k ps ≡ elim q [ true ↦ begins ps k | false ↦ false ]
    by true I = I
    by false I = refl

pub begins-strip : (ps k : List ℕ) → begins ps k ≡ true → strip ps k ≡ some (drop (length ps) k)
unfolding begins strip
begins-strip [] k e = refl
begins-strip (p ∷ ps) [] e = let z : ◌≡◌ {A = Bool} false true = e in let o : ◌≡◌ {A = ℕ} 0 1 = cc in absurd (omega arith)
begins-strip (p ∷ ps) (b ∷ k) e = by (eqb p b) refl (λ f. begins-strip ps k f)
  where
    by : (q : Bool) → eqb p b ≡ q → (begins ps k ≡ true → strip ps k ≡ some (drop (length ps) k)) → strip (p ∷ ps) (b ∷ k) ≡ some (drop (length ps) k)
    by true q I = rw (q, strip) (I (rw (q, begins) at e))
    by false q I = let z : ◌≡◌ {A = Bool} false true = rw (q, begins) at e in let o : ◌≡◌ {A = ℕ} 0 1 = cc in absurd (omega arith)

pub begins-none : (ps k : List ℕ) → begins ps k ≡ false → strip ps k ≡ none
unfolding begins strip
begins-none [] k e = let z : ◌≡◌ {A = Bool} true false = e in let o : ◌≡◌ {A = ℕ} 0 1 = cc in absurd (omega arith)
begins-none (p ∷ ps) [] e = refl
begins-none (p ∷ ps) (b ∷ k) e = by (eqb p b) refl (λ f. begins-none ps k f)
  where
    by : (q : Bool) → eqb p b ≡ q → (begins ps k ≡ false → strip ps k ≡ none) → strip (p ∷ ps) (b ∷ k) ≡ none
    by true q I = rw (q, strip) (I (rw (q, begins) at e))
    by false q I = rw (q, strip)

pub begins_long : (ps k : List ℕ) → begins ps k ≡ true → length ps ≤ length k
unfolding begins
begins_long [] k e = omega arith
begins_long (p ∷ ps) [] e = let z : ◌≡◌ {A = Bool} false true = e in let o : ◌≡◌ {A = ℕ} 0 1 = cc in absurd (omega arith)
begins_long (p ∷ ps) (b ∷ k) e = by (eqb p b) refl (λ f. begins_long ps k f)
  where
    by : (q : Bool) → eqb p b ≡ q → (begins ps k ≡ true → length ps ≤ length k) → suc (length ps) ≤ suc (length k)
    by true q I = let i = I (rw (q, begins) at e) in omega arith
    by false q I = let z : ◌≡◌ {A = Bool} false true = rw (q, begins) at e in let o : ◌≡◌ {A = ℕ} 0 1 = cc in absurd (omega arith)

-- `closes_at`
pub closes_star : (b : ℕ) (bs : List ℕ) → b ≡ 42 → begins (47 ∷ []) bs ≡ closes b bs
unfolding begins closes slash_next
closes_star b [] e = grind (arith, nat_tests)
closes_star b (c ∷ bs) e = grind (arith, nat_tests)

pub closes_other : (b : ℕ) (bs : List ℕ) → (b ≡ 42 → ⊥) → eqb b 42 ≡ closes b bs
unfolding closes slash_next
closes_other b [] n = grind (arith, nat_tests)
closes_other b (c ∷ bs) n = grind (arith, nat_tests)

closes_long : (b : ℕ) (bs : List ℕ) → closes b bs ≡ true → 1 ≤ length bs
unfolding closes slash_next
closes_long b [] e = by (eqb b 42) e
  where
    by : (q : Bool) → q && false ≡ true → 1 ≤ 0
    by true e = let o : ◌≡◌ {A = ℕ} 0 1 = cc in absurd (omega arith)
    by false e = let o : ◌≡◌ {A = ℕ} 0 1 = cc in absurd (omega arith)
closes_long b (c ∷ bs) e = omega arith

-- `comment_end`
module _ (t : List ℕ) (i : ℕ) (r : Option ℕ) (inv : behind_comment i (drop i t) ≡ r) where
  pub comment-over : length t ≤ i → none ≡ r
  unfolding behind_comment
  comment-over h = sym (ap (behind_comment i) (drop_of_length-le t h)) ∙ inv

  module _ (h : i < length t) (k : Bool) (e : k ≡ closes (get_or t i 0) (drop (i + 1) t)) where
    here : behind_comment i (get_or t i 0 ∷ drop (i + 1) t) ≡ r
    here = sym (ap (behind_comment i) (drop-next t i h)) ∙ inv

    pub comment-closed : k ≡ true → some (i + 2) ≡ r
    unfolding behind_comment
    comment-closed y = rw (sym e ∙ y, behind_comment) at here

    pub comment-zero : k ≡ false → get_or t i 0 ≡ 0 → none ≡ r
    unfolding behind_comment
    comment-zero n z = rw (sym e ∙ n, eq-eqb (get_or t i 0) 0 z, behind_comment) at here

    pub comment-more : k ≡ false → (get_or t i 0 ≡ 0 → ⊥) → behind_comment (i + 1) (drop (i + 1) t) ≡ r
    unfolding behind_comment
    comment-more n z = ap (λ (m : ℕ). behind_comment m (drop (i + 1) t)) (add-one i) ∙ (rw (sym e ∙ n, ne_eqb (get_or t i 0) 0 z, behind_comment) at here)

-- what stands behind a comment
rest-drop : (k : List ℕ) → rest k ≡ drop 1 k
unfolding rest
rest-drop [] = refl
rest-drop (b ∷ k) = refl

-- a comment that ends at p
pub record Ends (k : List ℕ) (at p : ℕ) : Type 0 where
  pub bytes : List ℕ
  pub is : in_comment k ≡ goes (comment bytes) (drop (p - at) k)
  pub place : p ≡ at + length bytes + 2
  pub long : p ≤ at + length k

no_place : (p : ℕ) → ◌≡◌ {A = Option ℕ} none (some p) → ⊥
no_place p e = let o : ◌≡◌ {A = ℕ} 0 1 = cc in omega arith

longer_is : (b : ℕ) (x : Next) (cs k : List ℕ) → x ≡ goes (comment cs) k → longer b x ≡ goes (comment (b ∷ cs)) k
unfolding longer
longer_is b x cs k e = ap (longer b) e

ends_here : (b : ℕ) (bs : List ℕ) (at p : ℕ) → closes b bs ≡ true → behind_comment at (b ∷ bs) ≡ some p → Ends (b ∷ bs) at p
unfolding behind_comment in_comment
ends_here b bs at p c e =
    let q : at + 2 ≡ p = (let s : some (at + 2) ≡ some p = rw (c, behind_comment) at e in cc) in
    let z : p - at ≡ 2 = omega arith in
    let l = closes_long b bs c in
    record {
      bytes = [];
      is = rw (c, in_comment) (ap (goes (comment [])) (rest-drop bs ∙ sym (ap (λ (n : ℕ). drop n (b ∷ bs)) z)));
      place = omega arith;
      long = omega arith;
    }

ends_more : (b : ℕ) (bs : List ℕ) (at p : ℕ) → closes b bs ≡ false → eqb b 0 ≡ false → Ends bs (suc at) p → Ends (b ∷ bs) at p
unfolding in_comment
ends_more b bs at p c n E =
    let pl = E.place in
    let z : p - at ≡ suc (p - suc at) = omega arith in
    let lo = E.long in
    record {
      bytes = b ∷ E.bytes;
      is = rw (c, n, in_comment) (longer_is b (in_comment bs) E.bytes (drop (p - suc at) bs) E.is ∙ sym (ap (λ (m : ℕ). goes (comment (b ∷ E.bytes)) (drop m (b ∷ bs))) z));
      place = omega arith;
      long = omega arith;
    }

pub comment-ends : (k : List ℕ) (at p : ℕ) → behind_comment at k ≡ some p → Ends k at p
unfolding behind_comment
comment-ends [] at p e = absurd (no_place p e)
comment-ends (b ∷ bs) at p e = by (closes b bs) (eqb b 0) refl refl (λ f. comment-ends bs (suc at) p f)
  where
    by : (c z : Bool) → closes b bs ≡ c → eqb b 0 ≡ z → (behind_comment (suc at) bs ≡ some p → Ends bs (suc at) p) → Ends (b ∷ bs) at p
    by true z c d I = ends_here b bs at p c e
    by false true c d I = absurd (no_place p (rw (c, d, behind_comment) at e))
    by false false c d I = ends_more b bs at p c d (I (rw (c, d, behind_comment) at e))

longer-outside : (b : ℕ) (x : Next) → x ≡ outside → longer b x ≡ outside
unfolding longer
longer-outside b x e = ap (longer b) e

pub comment_endless : (k : List ℕ) (at : ℕ) → behind_comment at k ≡ none → in_comment k ≡ outside
unfolding behind_comment in_comment
comment_endless [] at e = refl
comment_endless (b ∷ bs) at e = by (closes b bs) (eqb b 0) refl refl (λ f. comment_endless bs (suc at) f)
  where
    by : (c z : Bool) → closes b bs ≡ c → eqb b 0 ≡ z → (behind_comment (suc at) bs ≡ none → in_comment bs ≡ outside) → in_comment (b ∷ bs) ≡ outside
    by true z c d I = let s : some (at + 2) ≡ none = rw (c, behind_comment) at e in absurd (no_place (at + 2) (sym s))
    by false true c d I = rw (c, d, in_comment)
    by false false c d I = rw (c, d, in_comment) (longer-outside b (in_comment bs) (I (rw (c, d, behind_comment) at e)))
