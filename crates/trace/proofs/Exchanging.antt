-- Two lists that change places word by word, and with them the lists of two tails (specs/Tails).
use Rattle.std.proofs.Common.{◌≡◌, ℕ, zero, suc, ◌+◌, ◌<◌, ◌≤◌, List, [], ◌∷◌, ◌++◌, length, get_or, take, drop, set, replicate, sym, refl, ◌∙◌, append-nil, arith, drop_of_length-le, take_all}
use lib.ListN.{length-replicate}
use Rattle.lr1_base.proofs.words.Copy.{copy_more}
use Rattle.trace.specs.Tails.{tail_words, Usable, TwoTails}
use Rattle.trace.proofs.Linking.{usable_blank}

-- what stands behind i words that were put in
behind : (i : ℕ) (a d : List ℕ) → i < length a → i < length d → get_or (take i a ++ drop i d) i 0 ≡ get_or d i 0
behind i [] d h l = absurd (omega arith)
behind i (x ∷ a) [] h l = absurd (omega arith)
behind zero (x ∷ a) (y ∷ d) h l = refl
behind (suc i) (x ∷ a) (y ∷ d) h l = behind i a d (omega arith) (omega arith)

module _ (a₀ b₀ : List ℕ) (same : length b₀ ≡ length a₀) (i : ℕ) where
  -- one more word of a₀ gives way to that of b₀
  pub exchanged_more : i < length a₀ → (a b : List ℕ) → a ≡ take i b₀ ++ drop i a₀ → b ≡ take i a₀ ++ drop i b₀ → set a i (get_or b i 0) ≡ take (i + 1) b₀ ++ drop (i + 1) a₀
  exchanged_more h a b ea eb = rw (ea, eb, behind i a₀ b₀ h (omega arith)) (copy_more i b₀ a₀ (omega arith) h)

  -- all did
  pub exchanged_all : length a₀ ≤ i → take i b₀ ++ drop i a₀ ≡ b₀
  exchanged_all h = rw (take_all i b₀ (omega arith), drop_of_length-le a₀ h) (append-nil b₀)

-- no tail is listed in words that are 0
pub tails_blank : (t zs : List ℕ) → suc (suc (length zs)) ≤ tail_words → TwoTails t (0 ∷ 0 ∷ zs) (0 ∷ 0 ∷ zs) (0 ∷ 0 ∷ zs) (0 ∷ 0 ∷ zs)
tails_blank t zs h = record { few = h; links = refl; others = refl; other_links = refl; usable = usable_blank t zs _; other_usable = usable_blank t zs _ }

pub tails_new : (t : List ℕ) (n : ℕ) → suc (suc n) ≤ tail_words → (rs ls us ms : List ℕ) → (rs ≡ replicate (suc (suc n)) 0) × (ls ≡ replicate (suc (suc n)) 0) → (us ≡ replicate (suc (suc n)) 0) × (ms ≡ replicate (suc (suc n)) 0) → TwoTails t rs ls us ms
tails_new t n h rs ls us ms a b = let l = length-replicate {A = ℕ} n 0 in rw (a.0, a.1, b.0, b.1) (tails_blank t (replicate n 0) (omega arith))

-- another tail in place of the older one
pub listed-over : (t rs ls us ms us' ms' : List ℕ) → TwoTails t rs ls us ms → length us' ≡ length us → length ms' ≡ length ms → Usable t us' ms' → TwoTails t rs ls us' ms'
listed-over t rs ls us ms us' ms' T lu lm U = record { few = T.few; links = T.links; others = lu ∙ T.others; other_links = lm ∙ T.other_links; usable = T.usable; other_usable = U }

-- the two tails change places
pub turned : (t rs ls us ms : List ℕ) → TwoTails t rs ls us ms → (rs' ls' us' ms' : List ℕ) → rs' ≡ us → ls' ≡ ms → us' ≡ rs → ms' ≡ ls → TwoTails t rs' ls' us' ms'
turned t rs ls us ms T rs' ls' us' ms' a b c d = rw (a, b, c, d) (record {
  few = rw T.others T.few;
  links = T.other_links ∙ sym T.others;
  others = sym T.others;
  other_links = T.links ∙ sym T.others;
  usable = T.other_usable;
  other_usable = T.usable;
})
