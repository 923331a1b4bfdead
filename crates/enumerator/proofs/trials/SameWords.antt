-- The test of two lists of words decides equality; a path is in a list exactly if the test finds it.
use Rattle.std.proofs.Common.{◌≡◌, true, ◌⊎◌, List, [], ◌∷◌, sym, ◌∙◌, inl, inr}
use mathlib.Core.List.Memᴰ
use mathlib.Core.List.{Memᴰ}
use Rattle.lr1_base.proofs.words.Same.{same_words_eq, eq_same_words}
use Rattle.lr1_base.specs.words.Same.{same_words}
use Rattle.lr1_base.specs.repr.Lists.{some?}
use Rattle.lr1_base.proofs.repr.Lists.{cases, clash}
use Rattle.lr1_base.proofs.repr.Tests.{some?-nil, some?-yes, some?_no}
use Rattle.enumerator.specs.trials.Trials.{Path}

-- a member of a list of paths, as a fact and as a test
pub found_of_member : (p : Path) (ts : List Path) → Memᴰ p ts → some? (same_words p) ts ≡ true
found_of_member p [] m = absurd (Memᴰ.not-nil m)
found_of_member p (q ∷ ts) m = by (found_of_member p ts) (Memᴰ.cases_cons m)
  where
    by : (Memᴰ p ts → some? (same_words p) ts ≡ true) → (p ≡ q) ⊎ Memᴰ p ts → some? (same_words p) (q ∷ ts) ≡ true
    by ih (inl e) = some?-yes (same_words p) q ts (eq_same_words p q e)
    by ih (inr m') = cases (same_words p q) (some?-yes (same_words p) q ts) (λ e. some?_no (same_words p) q ts e ∙ ih m')

pub member_of_found : (p : Path) (ts : List Path) → some? (same_words p) ts ≡ true → Memᴰ p ts
member_of_found p [] e = clash (some? (same_words p) []) e (some?-nil (same_words p))
member_of_found p (q ∷ ts) e =
    cases (same_words p q)
    (λ s. Memᴰ.head (same_words_eq p q s))
    (λ s. Memᴰ.tail (member_of_found p ts (sym (some?_no (same_words p) q ts s) ∙ e)))
