-- Words that hold a stack (specs/graph_view/Trial): an edge more, another last edge, one fewer; the words of one stack are those of no other; with zeros behind them they are those of specs/trials/Words.
use Prim.Native.Nat.{ℕ, suc, ◌+◌, ◌-◌, ◌≤◌, ◌<◌}
use native.Mathlib.Omega.{arith}
use mathlib.Core.Path.{◌≡◌, refl, sym, ap, ◌∙◌}
use mathlib.Core.List.{List, [], ◌∷◌, ◌++◌, reverse, append_assoc, reverse-cons, reverse-reverse}
use lib.ListN.{length, get_or, set, take, drop, replicate, length-append, length-reverse, length-replicate, replicate-append-replicate}
use lib.Seq.{set_at, get_or_at, take_at, drop-append_seam}
use Rattle.lr1_base.specs.repr.Sizes.{scratch_words, edge_limit, reduction_limit}
use Rattle.enumerator.specs.trials.Trials.{Path}
use Rattle.enumerator.specs.trials.Words.{words_of, path_in, path_room}
use Rattle.enumerator.specs.trials.Stacks.{Within, stack_in}
use Rattle.enumerator.proofs.trials.Holding.{within-reverse}
use Rattle.enumerator.specs.graph_view.Trial.{trial_room, trial_words, Held}
use Rattle.lr1_base.proofs.laws.Lists.{length_last}

pub trial_long : (p : Path) → length p ≤ reduction_limit → length (trial_words p) ≡ trial_room
unfolding trial_words
trial_long p h = simp (length-append, length-replicate) (omega arith)

-- the words give the path back, whatever follows them
pub path_in_trial : (p : Path) (rest : List ℕ) → path_in (trial_words p ++ rest) ≡ p
unfolding trial_words path_in
path_in_trial p rest = ap (take (length p)) (append_assoc p (replicate (reduction_limit - length p) 0) rest) ∙ take_at p (replicate (reduction_limit - length p) 0 ++ rest) (length p) refl

-- the words that a public listing leaves
pub words_trial : (p : Path) → length p ≤ reduction_limit → words_of p ≡ trial_words p ++ replicate (scratch_words - trial_room) 0
unfolding words_of trial_words
words_trial p h =
    let e : path_room - length p ≡ (reduction_limit - length p) + (scratch_words - trial_room) = omega arith in
    ap (λ (l : List ℕ). length p ∷ (p ++ l)) (ap (λ (k : ℕ). replicate {A = ℕ} k 0) e ∙ sym (replicate-append-replicate (reduction_limit - length p) (scratch_words - trial_room) 0))
    ∙ ap (λ (l : List ℕ). length p ∷ l) (sym (append_assoc p (replicate (reduction_limit - length p) 0) (replicate (scratch_words - trial_room) 0)))

pub words-head : (p rest : List ℕ) → get_or (trial_words p ++ rest) 0 0 ≡ length p
unfolding trial_words
words-head p rest = refl

pub words-all : (p rest : List ℕ) → length p ≤ reduction_limit → trial_room ≤ length (trial_words p ++ rest)
words-all p rest h = omega (arith, trial_long p h, length-append (trial_words p) rest)

-- the words with their first spare zero, and with their last edge
spare : (p rest : List ℕ) (m : ℕ) → reduction_limit - length p ≡ suc m → trial_words p ++ rest ≡ length p ∷ (p ++ 0 ∷ (replicate m 0 ++ rest))
unfolding trial_words
spare p rest m e = ap (λ (l : List ℕ). length p ∷ l) (append_assoc p (replicate (reduction_limit - length p) 0) rest ∙ ap (λ (k : ℕ). p ++ (replicate k 0 ++ rest)) e)

last : (p rest : List ℕ) (e m : ℕ) → reduction_limit - length p ≡ suc m → trial_words (p ++ e ∷ []) ++ rest ≡ suc (length p) ∷ (p ++ e ∷ (replicate m 0 ++ rest))
unfolding trial_words
last p rest e m h =
    let l = length_last p e in
    let k : reduction_limit - length (p ++ e ∷ []) ≡ m = omega arith in
    ap (λ (n : ℕ). n ∷ (((p ++ e ∷ []) ++ replicate (reduction_limit - length (p ++ e ∷ [])) 0) ++ rest)) l
    ∙ ap (λ (l : List ℕ). suc (length p) ∷ l) (append_assoc (p ++ e ∷ []) (replicate (reduction_limit - length (p ++ e ∷ [])) 0) rest
    ∙ ap (λ (n : ℕ). (p ++ e ∷ []) ++ (replicate n 0 ++ rest)) k
    ∙ append_assoc p (e ∷ []) (replicate m 0 ++ rest))

room : (n : ℕ) → n < reduction_limit → reduction_limit - n ≡ suc (reduction_limit - 1 - n)
room n h = omega arith

-- an edge more
pub pushed : (ws : List ℕ) (w f : ℕ) → w ≡ get_or ws 0 0 → get_or ws 0 0 < reduction_limit → (p rest : List ℕ) → ws ≡ trial_words p ++ rest
    → set (set ws (w + 1) f) 0 (w + 1) ≡ trial_words (p ++ f ∷ []) ++ rest
pushed ws w f ew h p rest e =
    let n : get_or ws 0 0 ≡ length p = ap (λ (l : List ℕ). get_or l 0 0) e ∙ words-head p rest in
    let r = room (length p) (omega arith) in
    let q : w + 1 ≡ suc (length p) = omega arith in
    let X = replicate (reduction_limit - 1 - length p) 0 ++ rest in
    ap (λ (k : ℕ). set (set ws k f) 0 k) q
    ∙ ap (λ (l : List ℕ). set (set l (suc (length p)) f) 0 (suc (length p))) (e ∙ spare p rest (reduction_limit - 1 - length p) r)
    ∙ ap (λ (l : List ℕ). suc (length p) ∷ l) (set_at p 0 X f (length p) refl)
    ∙ sym (last p rest f (reduction_limit - 1 - length p) r)

-- the depth of words with a last edge
last_deep : (ws : List ℕ) (p : List ℕ) (e : ℕ) (rest : List ℕ) → ws ≡ trial_words (p ++ e ∷ []) ++ rest → get_or ws 0 0 ≡ suc (length p)
last_deep ws p e rest h = ap (λ (l : List ℕ). get_or l 0 0) h ∙ words-head (p ++ e ∷ []) rest ∙ length_last p e

-- another last edge
pub replaced : (ws : List ℕ) (w f : ℕ) → w ≡ get_or ws 0 0 → get_or ws 0 0 < trial_room → (p : List ℕ) (e : ℕ) (rest : List ℕ) → ws ≡ trial_words (p ++ e ∷ []) ++ rest
    → set ws w f ≡ trial_words (p ++ f ∷ []) ++ rest
replaced ws w f ew h p e rest x =
    let n = last_deep ws p e rest x in
    let r = room (length p) (omega arith) in
    let X = replicate (reduction_limit - 1 - length p) 0 ++ rest in
    ap (λ (k : ℕ). set ws k f) (ew ∙ n)
    ∙ ap (λ (l : List ℕ). set l (suc (length p)) f) (x ∙ last p rest e (reduction_limit - 1 - length p) r)
    ∙ ap (λ (l : List ℕ). suc (length p) ∷ l) (set_at p e X f (length p) refl)
    ∙ sym (last p rest f (reduction_limit - 1 - length p) r)

-- one fewer
pub popped : (ws : List ℕ) (w : ℕ) → w ≡ get_or ws 0 0 → get_or ws 0 0 < trial_room → (p : List ℕ) (e : ℕ) (rest : List ℕ) → ws ≡ trial_words (p ++ e ∷ []) ++ rest
    → set (set ws w 0) 0 (w - 1) ≡ trial_words p ++ rest
popped ws w ew h p e rest x =
    let n = last_deep ws p e rest x in
    let r = room (length p) (omega arith) in
    let X = replicate (reduction_limit - 1 - length p) 0 ++ rest in
    let q : w - 1 ≡ length p = omega arith in
    ap (λ (k : ℕ). set (set ws w 0) 0 k) q
    ∙ ap (λ (k : ℕ). set (set ws k 0) 0 (length p)) (ew ∙ n)
    ∙ ap (λ (l : List ℕ). set (set l (suc (length p)) 0) 0 (length p)) (x ∙ last p rest e (reduction_limit - 1 - length p) r)
    ∙ ap (λ (l : List ℕ). length p ∷ l) (set_at p e X 0 (length p) refl)
    ∙ sym (spare p rest (reduction_limit - 1 - length p) r)

-- the last edge's word
pub last_word : (ws : List ℕ) (p : List ℕ) (e : ℕ) (rest : List ℕ) → length p < reduction_limit → ws ≡ trial_words (p ++ e ∷ []) ++ rest → get_or ws (suc (length p)) 0 ≡ e
last_word ws p e rest h x =
    ap (λ (l : List ℕ). get_or l (suc (length p)) 0) (x ∙ last p rest e (reduction_limit - 1 - length p) (room (length p) h))
    ∙ get_or_at p e (replicate (reduction_limit - 1 - length p) 0 ++ rest) 0 (length p) refl

-- the words of one path are those of no other
pub words-once : (p q r s : List ℕ) → trial_words p ++ r ≡ trial_words q ++ s → (p ≡ q) × (r ≡ s)
words-once p q r s e =
    let a : p ≡ q = sym (path_in_trial p r) ∙ ap path_in e ∙ path_in_trial q s in
    (a, sym (drop-append_seam (trial_words p) r) ∙ ap (drop (length (trial_words p))) e ∙ ap (λ (x : List ℕ). drop (length (trial_words x)) (trial_words q ++ s)) a ∙ drop-append_seam (trial_words q) s)

pub stack_once : (st tt r s : List ℕ) → trial_words (reverse st) ++ r ≡ trial_words (reverse tt) ++ s → (st ≡ tt) × (r ≡ s)
stack_once st tt r s e =
    let w = words-once (reverse st) (reverse tt) r s e in
    (sym (reverse-reverse st) ∙ ap reverse w.0 ∙ reverse-reverse tt, w.1)

module _ {ws : List ℕ} (S : Held ws) where
  pub stack_depth : get_or ws 0 0 ≡ length S.stack
  stack_depth = ap (λ (l : List ℕ). get_or l 0 0) S.words ∙ words-head (reverse S.stack) S.rest ∙ length-reverse S.stack

  pub stack_long : trial_room ≤ length ws
  stack_long =
      let a = length-reverse S.stack in
      let b = words-all (reverse S.stack) S.rest (omega (arith, S.short)) in
      let c = ap length S.words in
      omega arith

  -- its top
  pub record Top : Type 0 where
    pub edge : ℕ
    pub under : List ℕ
    pub is : S.stack ≡ edge ∷ under

  pub top : (d : ℕ) → d ≡ get_or ws 0 0 → (d ≡ 0 → ⊥) → Top
  top d e ne = go S.stack refl
    where
      go : (st : List ℕ) → S.stack ≡ st → Top
      go [] q = absurd (ne (e ∙ stack_depth ∙ ap length q))
      go (x ∷ st) q = record { edge = x; under = st; is = q }

  pub empty : (d : ℕ) → d ≡ get_or ws 0 0 → d ≡ 0 → S.stack ≡ []
  empty d e z = go S.stack refl
    where
      go : (st : List ℕ) → S.stack ≡ st → S.stack ≡ []
      go [] q = q
      go (x ∷ st) q = let a : ◌≡◌ {A = ℕ} 0 (suc (length st)) = sym z ∙ e ∙ stack_depth ∙ ap length q in absurd (omega arith)

  module _ (T : Top) where
    pub top-words : ws ≡ trial_words (reverse T.under ++ T.edge ∷ []) ++ S.rest
    top-words = S.words ∙ ap (λ (l : List ℕ). trial_words l ++ S.rest) (ap reverse T.is ∙ reverse-cons T.edge T.under)

    pub top_depth : get_or ws 0 0 ≡ suc (length T.under)
    top_depth = stack_depth ∙ ap length T.is

    pub top_short : length T.under ≤ 32
    top_short = omega (arith, S.short, ap length T.is)

    pub top-word : (d : ℕ) → d ≡ get_or ws 0 0 → get_or ws d 0 ≡ T.edge
    top-word d e =
        let l = length-reverse T.under in
        let s = top_short in
        let q : d ≡ suc (length (reverse T.under)) = omega (arith, top_depth) in
        ap (λ (n : ℕ). get_or ws n 0) q ∙ last_word ws (reverse T.under) T.edge S.rest (omega arith) top-words

    within_both : Within edge_limit (T.edge ∷ T.under)
    within_both = rw T.is at S.edges

    pub top_below : T.edge < edge_limit
    unfolding Within
    top_below = within_both.0

    pub under_within : Within edge_limit T.under
    unfolding Within
    under_within = within_both.1

    -- the stack under it, read from the words
    pub under_read : (d : ℕ) → d ≡ get_or ws 0 0 → stack_in ws (d - 1) ≡ T.under
    unfolding stack_in
    under_read d e =
        let u = reverse T.under in
        let l = length-reverse T.under in
        let s = top_short in
        let X = replicate (reduction_limit - 1 - length u) 0 ++ S.rest in
        let q : d - 1 ≡ length u = omega (arith, top_depth) in
        ap (λ (n : ℕ). reverse (take n (drop 1 ws))) q
        ∙ ap (λ (x : List ℕ). reverse (take (length u) (drop 1 x))) (top-words ∙ last u S.rest T.edge (reduction_limit - 1 - length u) (room (length u) (omega arith)))
        ∙ ap reverse (take_at u (T.edge ∷ X) (length u) refl)
        ∙ reverse-reverse T.under

-- the top as the code reads it
module _ {ws : List ℕ} (S : Held ws) {d : ℕ} (ed : d ≡ get_or ws 0 0) (ne : d ≡ 0 → ⊥) {x : ℕ} (ex : x ≡ get_or ws d 0) where
  pub upper : Top S
  upper = top S d ed ne

  pub upper_edge : x ≡ upper.edge
  upper_edge = ex ∙ top-word S upper d ed

  pub upper_below : x < edge_limit
  upper_below = omega (arith, upper_edge, top_below S upper)

  pub upper_stack : S.stack ≡ x ∷ upper.under
  upper_stack = upper.is ∙ ap (λ (y : ℕ). y ∷ upper.under) (sym upper_edge)

  pub upper_is : (st rest : List ℕ) → ws ≡ trial_words (reverse st) ++ rest → st ≡ x ∷ upper.under
  upper_is st rest q = (stack_once st S.stack rest S.rest (sym q ∙ S.words)).0 ∙ upper_stack

-- the words of no edge
pub cleared : (ws d : List ℕ) (n : ℕ) → n ≡ trial_room → ws ≡ replicate n 0 ++ drop n d → ws ≡ trial_words [] ++ drop trial_room d
unfolding trial_words
cleared ws d n e w = w ∙ ap (λ (k : ℕ). replicate k 0 ++ drop k d) e

-- a path's words as a stack
within_more : (k m : ℕ) (st : List ℕ) → k ≤ m → Within k st → Within m st
unfolding Within
within_more k m [] h w = tt
within_more k m (e ∷ st) h w = (omega (arith, w.0), within_more k m st h w.1)

pub held_path : {k : ℕ} {ws : List ℕ} (p rest : List ℕ) → ws ≡ trial_words p ++ rest → length p ≤ reduction_limit → k ≤ edge_limit → Within k p → Held ws
held_path {k} p rest w s h e = record {
  stack = reverse p;
  rest = rest;
  words = w ∙ ap (λ (l : List ℕ). trial_words l ++ rest) (sym (reverse-reverse p));
  short = omega (arith, length-reverse p);
  edges = within_more k edge_limit (reverse p) h (within-reverse k p e);
}
