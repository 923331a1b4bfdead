use mathlib.Core.Path.{ap}
use Prim.Native.Nat.{ℕ}
use lib.ListN.{get_or}
use Rattle.table_rewrite.proofs.compaction.InPlace.{followed-none, followed-put}
use native.Mathlib.Omega.{arith}
use Rattle.table_rewrite.proofs.compaction.follow_heads.Goals as goal

pub loop-r-init : goal.loop-r-init
loop-r-init c = followed-none _ _ _ _

pub word-x-requires : goal.word-x-requires
word-x-requires c = omega (arith, c.requires)

pub bounds-numbers-x : goal.bounds-numbers-x
bounds-numbers-x c =
    let b = c.requires.by_index _ c.loop-r.auto.r c.loop-r-test.true in
    let e = c.loop-r.invariant.behind c.loop-r.r c.args.heads.k c.requires.first_le_past.1.1.1 (omega arith) in
    omega (arith, b, e, c.word-x.ensures.0)

pub loop-r-preserved : goal.loop-r-preserved
loop-r-preserved c = followed-put _ _ _ _ _ _ c.loop-r.invariant c.requires.first_le_past.1.1.1 c.loop-r.auto.r (omega (arith, c.requires)) _ (ap (λ (x : ℕ). get_or c.args.numbers.now x 0) c.word-x.ensures.0)
