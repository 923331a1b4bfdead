-- The scratch that a call hands back, in front of the rest of the scratch: its length stays, its front is a trial's words or zeros, and behind the first 32,000 words it is as it was.
use Rattle.std.proofs.Common.{◌≡◌, ℕ, ◌+◌, ◌-◌, ◌≤◌, List, ◌++◌, length, take, drop, replicate, sym, ap, ◌∙◌, append_assoc, arith, length-append, length-drop, take-append-drop, length-take, drop_at}
use lib.ListN.{length-replicate}
use lib.Seq.{take-append-add, drop-append-le}
use Rattle.lr1_base.specs.repr.Sizes.{scratch_words}
use Rattle.lr1_base.specs.words.Lent.{in_front, zeroed}
use Rattle.enumerator.specs.trials.Trials.{Path}
use Rattle.enumerator.specs.trials.Words.{words_of, path_room}
use Rattle.enumerator.proofs.trials.WordsOf.{words_long}

-- the words begin with those of a path
unfoldable pub Kept : Path → List ℕ → Type 0
Kept p ws = (rest : List ℕ) × (ws ≡ words_of p ++ rest)

pub kept_taken : (p : Path) (ws : List ℕ) (m : ℕ) → length p ≤ path_room → scratch_words ≤ m → Kept p ws → Kept p (take m ws)
unfolding Kept
kept_taken p ws m h l k =
    let a = words_long p h in
    let e : m ≡ length (words_of p) + (m - scratch_words) = omega arith in
    (take (m - scratch_words) k.0, ap (λ (x : ℕ). take x ws) e ∙ ap (take (length (words_of p) + (m - scratch_words))) k.1 ∙ take-append-add (words_of p) k.0 (m - scratch_words))

-- new words at the front of what is lent, in front of the rest, are new words at the front of the scratch as it was, where the rest is as it was
front-back : (n m : ℕ) (new ws ws₀ : List ℕ) → n ≤ length (take m ws) → drop n ws ≡ drop n ws₀ → (new ++ drop n (take m ws)) ++ drop m ws ≡ new ++ drop n ws₀
front-back n m new ws ws₀ h e =
    append_assoc new (drop n (take m ws)) (drop m ws)
    ∙ ap (λ (r : List ℕ). new ++ r) (sym (drop-append-le n (take m ws) (drop m ws) h) ∙ ap (drop n) (take-append-drop m ws) ∙ e)

module _ (m : ℕ) (ws ws₀ : List ℕ) (h : scratch_words ≤ length (take m ws)) (e : drop scratch_words ws ≡ drop scratch_words ws₀) where
  pub front_kept : (p : Path) → length p ≤ path_room → in_front (words_of p) (take m ws) ++ drop m ws ≡ in_front (words_of p) ws₀
  unfolding in_front
  front_kept p s = rw (words_long p s) (front-back scratch_words m (words_of p) ws ws₀ h e)

  pub zeros_kept : zeroed scratch_words (take m ws) ++ drop m ws ≡ zeroed scratch_words ws₀
  unfolding zeroed
  zeros_kept = front-back scratch_words m (replicate scratch_words 0) ws ws₀ h e

-- the words behind the first 32,000 are as they were
pub rest-front : (p : Path) (ws₀ : List ℕ) → length p ≤ path_room → drop scratch_words (in_front (words_of p) ws₀) ≡ drop scratch_words ws₀
unfolding in_front
rest-front p ws₀ s =
    drop_at (words_of p) (drop (length (words_of p)) ws₀) scratch_words (words_long p s) ∙ ap (λ (n : ℕ). drop n ws₀) (words_long p s)

pub rest-zeroed : (ws₀ : List ℕ) → drop scratch_words (zeroed scratch_words ws₀) ≡ drop scratch_words ws₀
unfolding zeroed
rest-zeroed ws₀ = drop_at (replicate scratch_words 0) (drop scratch_words ws₀) scratch_words (length-replicate {A = ℕ} scratch_words 0)

pub front_holds : (p : Path) (ws ws₀ : List ℕ) → ws ≡ in_front (words_of p) ws₀ → Kept p ws
unfolding Kept in_front
front_holds p ws ws₀ e = (drop (length (words_of p)) ws₀, e)

-- what comes back is as long as what was lent
pub length_back : (m : ℕ) (s ws : List ℕ) → length s ≡ length (take m ws) → length (s ++ drop m ws) ≡ length ws
length_back m s ws h =
    let a = length-append s (drop m ws) in
    let b = length-take m ws in
    let c = length-drop m ws in
    omega arith
