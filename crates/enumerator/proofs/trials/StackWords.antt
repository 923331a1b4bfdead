-- Words that hold a stack (specs/trials/Stacks): its top; the words of one stack are those of no other.
use Rattle.std.proofs.Common.{◌≡◌, ℕ, suc, ◌-◌, ◌<◌, ◌≤◌, List, [], ◌∷◌, ◌++◌, reverse, length, get_or, take, drop, replicate, sym, refl, ap, ◌∙◌, append_assoc, arith, length-append, take-suc}
use mathlib.Core.List.{reverse-cons, reverse-reverse, reverse-append}
use lib.ListN.{length-reverse}
use lib.Seq.{get_or_at, drop-append_seam}
use Rattle.lr1_base.specs.repr.Sizes.{scratch_words}
use Rattle.enumerator.specs.trials.Words.{words_of, path_in, path_room}
use Rattle.enumerator.specs.trials.Stacks.{Within, Stacked, stack_in}
use Rattle.enumerator.proofs.trials.WordsOf.{words_long, path_in-words}
use Rattle.lr1_base.proofs.laws.Lists.{length_last}

pub words-head : (p rest : List ℕ) → get_or (words_of p ++ rest) 0 0 ≡ length p
unfolding words_of
words-head p rest = refl

pub words-all : (p rest : List ℕ) → length p ≤ path_room → scratch_words ≤ length (words_of p ++ rest)
words-all p rest h = omega (arith, words_long p h, length-append (words_of p) rest)

-- the words with their last edge
last : (p rest : List ℕ) (e m : ℕ) → path_room - length p ≡ suc m → words_of (p ++ e ∷ []) ++ rest ≡ suc (length p) ∷ (p ++ e ∷ (replicate m 0 ++ rest))
unfolding words_of
last p rest e m h =
    let l = length_last p e in
    let k : path_room - length (p ++ e ∷ []) ≡ m = omega arith in
    ap (λ (n : ℕ). n ∷ (((p ++ e ∷ []) ++ replicate (path_room - length (p ++ e ∷ [])) 0) ++ rest)) l
    ∙ ap (λ (l : List ℕ). suc (length p) ∷ l) (append_assoc (p ++ e ∷ []) (replicate (path_room - length (p ++ e ∷ [])) 0) rest
    ∙ ap (λ (n : ℕ). (p ++ e ∷ []) ++ (replicate n 0 ++ rest)) k
    ∙ append_assoc p (e ∷ []) (replicate m 0 ++ rest))

room : (n : ℕ) → n < path_room → path_room - n ≡ suc (path_room - 1 - n)
room n h = omega arith

-- the last edge's word
pub last_word : (ws : List ℕ) (p : List ℕ) (e : ℕ) (rest : List ℕ) → length p < path_room → ws ≡ words_of (p ++ e ∷ []) ++ rest → get_or ws (suc (length p)) 0 ≡ e
last_word ws p e rest h x =
    ap (λ (l : List ℕ). get_or l (suc (length p)) 0) (x ∙ last p rest e (path_room - 1 - length p) (room (length p) h))
    ∙ get_or_at p e (replicate (path_room - 1 - length p) 0 ++ rest) 0 (length p) refl

-- the words of one path are those of no other
pub words-once : (p q r s : List ℕ) → words_of p ++ r ≡ words_of q ++ s → (p ≡ q) × (r ≡ s)
words-once p q r s e =
    let a : p ≡ q = sym (path_in-words p r) ∙ ap path_in e ∙ path_in-words q s in
    (a, sym (drop-append_seam (words_of p) r) ∙ ap (drop (length (words_of p))) e ∙ ap (λ (x : List ℕ). drop (length (words_of x)) (words_of q ++ s)) a ∙ drop-append_seam (words_of q) s)

pub stack_once : (st tt r s : List ℕ) → words_of (reverse st) ++ r ≡ words_of (reverse tt) ++ s → (st ≡ tt) × (r ≡ s)
stack_once st tt r s e =
    let w = words-once (reverse st) (reverse tt) r s e in
    (sym (reverse-reverse st) ∙ ap reverse w.0 ∙ reverse-reverse tt, w.1)

module _ {k : ℕ} {ws : List ℕ} (S : Stacked k ws) where
  pub stack_depth : get_or ws 0 0 ≡ length S.stack
  stack_depth = ap (λ (l : List ℕ). get_or l 0 0) S.words ∙ words-head (reverse S.stack) S.rest ∙ length-reverse S.stack

  pub stack_long : scratch_words ≤ length ws
  stack_long =
      let a = length-reverse S.stack in
      let b = words-all (reverse S.stack) S.rest (omega (arith, S.short)) in
      let c = ap length S.words in
      omega arith

  -- its top
  pub record Top : Type 0 where
    pub edge : ℕ
    pub under : List ℕ
    pub is : S.stack ≡ edge ∷ under

  pub top : (d : ℕ) → d ≡ get_or ws 0 0 → (d ≡ 0 → ⊥) → Top
  top d e ne = go S.stack refl
    where
      go : (st : List ℕ) → S.stack ≡ st → Top
      go [] q = absurd (ne (e ∙ stack_depth ∙ ap length q))
      go (x ∷ st) q = record { edge = x; under = st; is = q }

  pub empty : (d : ℕ) → d ≡ get_or ws 0 0 → d ≡ 0 → S.stack ≡ []
  empty d e z = go S.stack refl
    where
      go : (st : List ℕ) → S.stack ≡ st → S.stack ≡ []
      go [] q = q
      go (x ∷ st) q = let a : ◌≡◌ {A = ℕ} 0 (suc (length st)) = sym z ∙ e ∙ stack_depth ∙ ap length q in absurd (omega arith)

  module _ (T : Top) where
    pub top-words : ws ≡ words_of (reverse T.under ++ T.edge ∷ []) ++ S.rest
    top-words = S.words ∙ ap (λ (l : List ℕ). words_of l ++ S.rest) (ap reverse T.is ∙ reverse-cons T.edge T.under)

    pub top_depth : get_or ws 0 0 ≡ suc (length T.under)
    top_depth = stack_depth ∙ ap length T.is

    pub top_short : length T.under ≤ 32
    top_short = omega (arith, S.short, ap length T.is)

    pub top-word : (d : ℕ) → d ≡ get_or ws 0 0 → get_or ws d 0 ≡ T.edge
    top-word d e =
        let l = length-reverse T.under in
        let s = top_short in
        let q : d ≡ suc (length (reverse T.under)) = omega (arith, top_depth) in
        ap (λ (n : ℕ). get_or ws n 0) q ∙ last_word ws (reverse T.under) T.edge S.rest (omega arith) top-words

    within_both : Within k (T.edge ∷ T.under)
    within_both = rw T.is at S.edges

    pub top_below : T.edge < k
    unfolding Within
    top_below = within_both.0

-- the top as the code reads it
module _ {k : ℕ} {ws : List ℕ} (S : Stacked k ws) {d : ℕ} (ed : d ≡ get_or ws 0 0) (ne : d ≡ 0 → ⊥) {x : ℕ} (ex : x ≡ get_or ws d 0) where
  pub upper : Top S
  upper = top S d ed ne

  pub upper_edge : x ≡ upper.edge
  upper_edge = ex ∙ top-word S upper d ed

  pub upper_below : x < k
  upper_below = omega (arith, upper_edge, top_below S upper)

  pub upper_stack : S.stack ≡ x ∷ upper.under
  upper_stack = upper.is ∙ ap (λ (y : ℕ). y ∷ upper.under) (sym upper_edge)

  pub upper_is : (st rest : List ℕ) → ws ≡ words_of (reverse st) ++ rest → st ≡ x ∷ upper.under
  upper_is st rest q = (stack_once st S.stack rest S.rest (sym q ∙ S.words)).0 ∙ upper_stack

-- one edge more of the words
pub stack_more : (ws : List ℕ) (d : ℕ) → suc d < length ws → stack_in ws (suc d) ≡ get_or ws (suc d) 0 ∷ stack_in ws d
unfolding stack_in
stack_more [] d h = absurd (omega arith)
stack_more (w ∷ ws) d h = ap reverse (take-suc ws d 0 (omega arith)) ∙ reverse-append (take d ws) (get_or ws d 0 ∷ [])

-- the words of no edge
pub cleared : (ws d : List ℕ) (n : ℕ) → n ≡ scratch_words → ws ≡ replicate n 0 ++ drop n d → ws ≡ words_of [] ++ drop scratch_words d
unfolding words_of
cleared ws d n e w = w ∙ ap (λ (k : ℕ). replicate k 0 ++ drop k d) e
