-- Of all paths of a list (specs/trials/Trials).
use Rattle.std.proofs.Common.{◌≡◌, ◌⊎◌, List, [], ◌∷◌, ◌++◌, map, inl, inr}
use mathlib.Core.List.Memᴰ
use mathlib.Core.List.{Memᴰ}
use Rattle.enumerator.specs.trials.Trials.{Path, AllPaths}

pub all_map : (P Q : Path → Type 0) (f : Path → Path) (ps : List Path) → ((p : Path) → P p → Q (f p)) → AllPaths P ps → AllPaths Q (map f ps)
all_map P Q f [] h a = tt
all_map P Q f (p ∷ ps) h a = (h p a.0, all_map P Q f ps h a.1)

pub all_append : (P : Path → Type 0) (ps qs : List Path) → AllPaths P ps → AllPaths P qs → AllPaths P (ps ++ qs)
all_append P [] qs a b = b
all_append P (p ∷ ps) qs a b = (a.0, all_append P ps qs a.1 b)

pub all_weak : (P Q : Path → Type 0) (ps : List Path) → ((p : Path) → P p → Q p) → AllPaths P ps → AllPaths Q ps
all_weak P Q [] h a = tt
all_weak P Q (p ∷ ps) h a = (h p a.0, all_weak P Q ps h a.1)

pub all_in : (P : Path → Type 0) (ps : List Path) (p : Path) → AllPaths P ps → Memᴰ p ps → P p
all_in P [] p a m = absurd (Memᴰ.not-nil m)
all_in P (q ∷ ps) p a m = by (all_in P ps p a.1) (Memᴰ.cases_cons m)
  where
    by : (Memᴰ p ps → P p) → (p ≡ q) ⊎ Memᴰ p ps → P p
    by ih (inl e) = rw e a.0
    by ih (inr m') = ih m'
