-- What is left stands in the words that were lent.
use mathlib.Core.Path.{◌≡◌, sym, ap, ◌∙◌}
use mathlib.Core.List.{List}
use Prim.Native.Nat.{ℕ, ◌*◌, ◌≤◌}
use native.Mathlib.Omega.{arith}
use lib.ListN.{length}
use Rattle.lr1_base.specs.repr.Sizes.{record_limit}
use Rattle.lr1_base.specs.repr.Reply.{Reply, answered}
use Rattle.table.proofs.Accepted.{accepts}
use Rattle.table_rewrite.specs.compaction.Outcome.{compact_of}
use Rattle.table_rewrite.proofs.compaction.Called.{left, left-length}
use Rattle.table_rewrite.proofs.compaction.Theorems.{count_most}

pub few_left : (t ws : List ℕ) (r : Reply ℕ) (n : ℕ) → record { answer = r; table = ws } ≡ compact_of t → r ≡ answered n → (n ≤ record_limit) × (n * 4 ≤ length ws)
few_left t ws r n e h =
    let o = sym e ∙ ap (λ (a : Reply ℕ). record { answer = a; table = ws }) h in
    let L = left t n ws o in
    let A = accepts t L.accepted in
    let w = A.words in
    let f = A.few_records in
    let k = L.count in
    let m = count_most t L.accepted in
    let s = left-length t n ws o in
    (omega arith, omega arith)
