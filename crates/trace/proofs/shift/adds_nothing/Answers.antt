use Rattle.std.proofs.Common.{sym, ◌∙◌, true≢false}
use Rattle.trace.proofs.Passing.{clear_none, passing_start, passing_more, passing_done}
use Rattle.trace.proofs.shift.adds_nothing.Goals.{then-read-last-via-then-read-last, then-read-last-via-else-read-last+then-read-earlier}
use Rattle.trace.proofs.shift.adds_nothing.Goals as goal

pub items-read-items-requires : goal.items-read-items-requires
items-read-items-requires c = c.requires.within.1

pub loop-read-init : goal.loop-read-init
loop-read-init c = rw c.into_iter-read-iterator.ensures.into_iter_gives (c.items-read-items.ensures.0, passing_start _ _ _ _ _ _ c.items-read-items.ensures.1)

pub returns-then-read-last : goal.returns-then-read-last
returns-then-read-last c = elim c.then-read-last.branch [
  | then-read-last-via-then-read-last w ↦ λ _. passing_done _ _ _ _ _ _ c.loop-read.invariant.1 _ (sym c.in-Some.ensures.steps.1.1 ∙ w.if-read-last.true) c.requires.clear.0
  | then-read-last-via-else-read-last+then-read-earlier w ↦ λ _. passing_done _ _ _ _ _ _ c.loop-read.invariant.1 _ (sym c.in-Some.ensures.steps.1.1 ∙ w.if-read-earlier.true) c.requires.clear.1
]

pub is_passed-requires : goal.is_passed-requires
is_passed-requires c = record { room = c.requires.room; within = ((rw c.loop-read.invariant.0 at c.in-Some.ensures.steps.1.2).fits, c.requires.within.0) }

pub returns-then-not-is_passed : goal.returns-then-not-is_passed
returns-then-not-is_passed c = λ e. absurd (true≢false (sym e))

pub loop-read-preserved : goal.loop-read-preserved
loop-read-preserved c = (c.in-Some.ensures.steps.0 ∙ c.loop-read.invariant.0, passing_more _ _ _ _ _ _ c.loop-read.invariant.1 _ _ _ (rw c.loop-read.invariant.0 at c.in-Some.ensures.steps.1.2) (c.is_passed.ensures c.if-not-is_passed.false))

pub returns : goal.returns
returns c = λ _. passing_done _ _ _ _ _ _ c.loop-read.invariant.1 0 c.in-None.ensures.steps.1 (clear_none _ _ _ _)
