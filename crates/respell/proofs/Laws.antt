-- What is written has no more records than a table may.
use mathlib.Core.Path.{◌≡◌, sym, ap, ◌∙◌}
use mathlib.Core.List.{List}
use Prim.Native.Nat.{ℕ, ◌≤◌}
use Rattle.lr1_base.specs.repr.Reply.{Reply, answered}
use Rattle.lr1_base.specs.repr.Sizes.{record_limit}
use Rattle.table_rewrite.specs.spelling.Outcome.{respell_of}
use Rattle.table_rewrite.proofs.spelling.Wrote.{wrote}

pub few_records : (t out ws : List ℕ) (r : Reply ℕ) (n : ℕ) → record { answer = r; out = ws } ≡ respell_of t out → r ≡ answered n → n ≤ record_limit
few_records t out ws r n e h = (wrote t out ws n (sym e ∙ ap (λ (a : Reply ℕ). record { answer = a; out = ws }) h)).few
