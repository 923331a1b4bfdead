-- Labels in words, three each, written one after another and read back.
use Rattle.std.proofs.Common.{◌≡◌, ℕ, ◌+◌, ◌≤◌, List, [], ◌∷◌, ◌++◌, length, take, drop, set, sym, refl, ap, ◌∙◌, append_assoc, append-nil, arith, length-append, length-take-le, take_at}
use Rattle.lr1_base.specs.repr.Lists.{joined}
use Rattle.lr1_base.proofs.repr.Lists.{joined_append}
use Rattle.enumerator.specs.example.Example.{Label}
use Rattle.enumerator.specs.example.Labels.{labels_in}
use Rattle.lr1_base.specs.words.Insert.{put_at}
use Rattle.lr1_base.proofs.words.Put.{stored_three}

-- a label's words
unfoldable pub label_words : Label → List ℕ
label_words l = l.nonterminal ∷ l.production ∷ l.index ∷ []

pub labels_read : (ls : List Label) → labels_in (joined label_words ls) ≡ ls
unfolding labels_in label_words joined
labels_read [] = refl
labels_read (l ∷ ls) = ap (λ (r : List Label). l ∷ r) (labels_read ls)

pub words_count : (ls : List Label) → length (joined label_words ls) ≡ length ls + (length ls + length ls)
unfolding label_words joined
words_count [] = refl
words_count (l ∷ ls) = let r = words_count ls in omega arith

-- three words more
pub front-more : (xs : List ℕ) (at a b c : ℕ) → at + 3 ≤ length xs → take (at + 3) (set (set (set xs at a) (at + 1) b) (at + 2) c) ≡ take at xs ++ (a ∷ b ∷ c ∷ [])
unfolding put_at
front-more xs at a b c h =
    let three = a ∷ b ∷ c ∷ [] in
    let s : length (take at xs ++ three) ≡ at + 3 = omega (arith, length-append (take at xs) three, length-take-le at xs (omega arith)) in
    ap (take (at + 3)) (stored_three at a b c xs h ∙ sym (append_assoc (take at xs) three (drop (at + 3) xs)))
    ∙ take_at (take at xs ++ three) (drop (at + 3) xs) (at + 3) s

pub joined_last : (ls : List Label) (l : Label) → joined label_words (ls ++ l ∷ []) ≡ joined label_words ls ++ label_words l
unfolding joined
joined_last ls l = joined_append label_words ls (l ∷ []) ∙ ap (λ (w : List ℕ). joined label_words ls ++ w) (append-nil (label_words l))
