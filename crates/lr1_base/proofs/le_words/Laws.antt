-- Laws of `words_of` and `encoded`, and of the room that words take.
use mathlib.Core.Path.{◌≡◌, refl, sym, ap, ◌∙◌}
use Prim.Native.Nat.{ℕ, suc, ◌+◌, ◌*◌, ◌/◌, ◌%◌, ◌<◌}
use mathlib.Core.List.{List, [], ◌∷◌, ◌++◌, append_assoc, append-nil}
use native.Mathlib.Numerals.{add-one}
use native.Mathlib.Omega.{arith}
use lib.ListN.{length, get_or, take, drop, set, length-set, length-drop, take-append-drop}
use lib.Seq.{drop-cons, take-suc-set, drop-set-lt, drop-drop, take_at}
use Rattle.lr1_base.specs.le_words.Little.{words_of, encoded}
use Rattle.lr1_base.proofs.laws.Lists.{empty}

none : (bs : List ℕ) → length bs < 2 → words_of bs ≡ []
unfolding words_of
none [] h = refl
none (a ∷ []) h = refl
none (a ∷ b ∷ bs) h = absurd (omega arith)

-- the words of the bytes before `left` are written
pub record Turn (bytes out₀ out : List ℕ) (i : ℕ) (left : List ℕ) : Type 0 where
  pub long : length out ≡ length out₀
  pub done : take i out ++ words_of left ≡ words_of bytes
  pub rest : drop i out ≡ drop i out₀
  pub size : i + length left / 2 ≡ length bytes / 2

module _ {bytes out₀ out : List ℕ} {i : ℕ} {left : List ℕ} (T : Turn bytes out₀ out i left) where
  pub turn_end : length left < 2 → out ≡ words_of bytes ++ drop (length bytes / 2) out₀
  turn_end l =
      let e : i ≡ length bytes / 2 = let h = T.size in omega arith in
      let t : take i out ≡ words_of bytes = sym (append-nil (take i out)) ∙ ap (λ (l : List ℕ). take i out ++ l) (sym (none left l)) ∙ T.done in
      sym (take-append-drop i out) ∙ ap (λ (l : List ℕ). l ++ drop i out) t ∙ ap (λ (l : List ℕ). words_of bytes ++ l) T.rest ∙ ap (λ (k : ℕ). words_of bytes ++ drop k out₀) e

  pub turn_again : (pair left₁ : List ℕ) (w : ℕ) → left ≡ pair ++ left₁ → length pair ≡ 2 → i < length out → w ≡ get_or pair 0 0 + get_or pair 1 0 * 256 → Turn bytes out₀ (set out i w) (i + 1) left₁
  unfolding words_of
  turn_again [] left₁ w e two h ew = absurd (omega arith)
  turn_again (a ∷ []) left₁ w e two h ew = absurd (omega arith)
  turn_again (a ∷ b ∷ c ∷ cs) left₁ w e two h ew = absurd (omega arith)
  turn_again (a ∷ b ∷ []) left₁ w e two h ew =
      let both : words_of left ≡ w ∷ words_of left₁ = rw (e, ew) in
      let lt : i < suc i = omega arith in
      let n : length left ≡ suc (suc (length left₁)) = ap length e in
      record {
        long = length-set out i w ∙ T.long;
        done = ap (λ (k : ℕ). take k (set out i w) ++ words_of left₁) (add-one i) ∙ ap (λ (l : List ℕ). l ++ words_of left₁) (take-suc-set out i w h) ∙ append_assoc (take i out) (w ∷ []) (words_of left₁) ∙ ap (λ (l : List ℕ). take i out ++ l) (sym both) ∙ T.done;
        rest = ap (λ (k : ℕ). drop k (set out i w)) (add-one i) ∙ drop-set-lt (suc i) out i w lt ∙ ap (λ (k : ℕ). drop k out) (sym (add-one i)) ∙ sym (drop-drop 1 i out) ∙ ap (drop 1) T.rest ∙ drop-drop 1 i out₀;
        size = let s = T.size in omega (arith, n);
      }

-- words written as bytes and read again are the words
pub decode-encoded : (ws : List ℕ) → words_of (encoded ws) ≡ ws
unfolding words_of encoded
decode-encoded [] = refl
decode-encoded (w ∷ ws) = let e : w % 256 + w / 256 * 256 ≡ w = omega arith in rw (e, decode-encoded ws)

pub encoded-length : (ws : List ℕ) → length (encoded ws) ≡ length ws * 2
unfolding encoded
encoded-length [] = refl
encoded-length (w ∷ ws) = ap (λ (n : ℕ). suc (suc n)) (encoded-length ws) ∙ omega arith

-- the bytes of the first i words are written
pub record Spread (words out₀ : List ℕ) (out : List ℕ) (i : ℕ) : Type 0 where
  pub long : length out ≡ length out₀
  pub done : take (i * 2) out ++ encoded (drop i words) ≡ encoded words
  pub rest : drop (i * 2) out ≡ drop (i * 2) out₀

module _ {words out₀ out : List ℕ} {i : ℕ} (S : Spread words out₀ out i) where
  pub spread_end : i ≡ length words → out ≡ encoded words ++ drop (length words * 2) out₀
  unfolding encoded
  spread_end e =
      let l : length (drop i words) ≡ 0 = (simp length-drop (omega arith)) in
      let t : take (i * 2) out ≡ encoded words = sym (append-nil (take (i * 2) out)) ∙ ap (λ (l : List ℕ). take (i * 2) out ++ encoded l) (sym (empty (drop i words) l)) ∙ S.done in
      sym (take-append-drop (i * 2) out) ∙ ap (λ (l : List ℕ). l ++ drop (i * 2) out) t ∙ ap (λ (l : List ℕ). encoded words ++ l) S.rest ∙ ap (λ (n : ℕ). encoded words ++ drop (n * 2) out₀) e

  pub spread_again : (a b : ℕ) → i < length words → i * 2 + 1 < length out → a ≡ get_or words i 0 % 256 → b ≡ get_or words i 0 / 256 → Spread words out₀ (set (set out (i * 2) a) (i * 2 + 1) b) (i + 1)
  unfolding encoded
  spread_again a b hw ho ea eb =
      let e₁ : i * 2 + 1 ≡ suc (i * 2) = omega arith in
      let e₂ : (i + 1) * 2 ≡ suc (suc (i * 2)) = omega arith in
      let e₃ : suc (suc (i * 2)) ≡ i * 2 + 2 = omega arith in
      let h₀ : i * 2 < length out = omega arith in
      let h₁ : suc (i * 2) < length (set out (i * 2) a) = rw (length-set out (i * 2) a) (omega arith) in
      let lt : i * 2 < suc (suc (i * 2)) = omega arith in
      let lt₁ : suc (i * 2) < suc (suc (i * 2)) = omega arith in
      let new : List ℕ = set (set out (i * 2) a) (i * 2 + 1) b in
      let two : encoded (drop i words) ≡ a ∷ b ∷ encoded (drop (i + 1) words) = rw (ea, eb, drop-cons words i 0 hw, add-one i) in
      let front : take ((i + 1) * 2) new ≡ (take (i * 2) out ++ (a ∷ [])) ++ (b ∷ []) =
      rw (e₁, e₂) (take-suc-set (set out (i * 2) a) (suc (i * 2)) b h₁ ∙ ap (λ (l : List ℕ). l ++ (b ∷ [])) (take-suc-set out (i * 2) a h₀)) in
      record {
        long = length-set (set out (i * 2) a) (i * 2 + 1) b ∙ length-set out (i * 2) a ∙ S.long;
        done = ap (λ (l : List ℕ). l ++ encoded (drop (i + 1) words)) front ∙ append_assoc (take (i * 2) out ++ (a ∷ [])) (b ∷ []) (encoded (drop (i + 1) words)) ∙ append_assoc (take (i * 2) out) (a ∷ []) (b ∷ encoded (drop (i + 1) words)) ∙ ap (λ (l : List ℕ). take (i * 2) out ++ l) (sym two) ∙ S.done;
        rest = rw (e₁, e₂) (drop-set-lt (suc (suc (i * 2))) (set out (i * 2) a) (suc (i * 2)) b lt₁ ∙ drop-set-lt (suc (suc (i * 2))) out (i * 2) a lt ∙ ap (λ (n : ℕ). drop n out) e₃ ∙ sym (drop-drop 2 (i * 2) out) ∙ ap (drop 2) S.rest ∙ drop-drop 2 (i * 2) out₀ ∙ ap (λ (n : ℕ). drop n out₀) (sym e₃));
      }

pub words-length : (bs : List ℕ) → length (words_of bs) ≡ length bs / 2
unfolding words_of
words-length [] = refl
words-length (a ∷ []) = refl
words-length (a ∷ b ∷ bs) = ap suc (words-length bs) ∙ omega arith

-- words of 2n bytes stand at the front
pub words-front : (bs rest : List ℕ) (n m : ℕ) → length bs ≡ m → m ≡ n * 2 → take n (words_of bs ++ rest) ≡ words_of bs
words-front bs rest n m h k = take_at (words_of bs) rest n (words-length bs ∙ omega arith)
