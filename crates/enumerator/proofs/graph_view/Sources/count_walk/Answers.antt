use mathlib.Core.Path.{◌≡◌, refl, ap, ◌∙◌}
use Prim.Native.Nat.{ℕ, ◌+◌, ◌-◌}
use lib.ListN.{get_or}
use Rattle.enumerator.proofs.graph_view.Trial.{stack_long, stack_depth}
use Rattle.enumerator.proofs.graph_view.Counting.{joined_first, joined_end, joined_given, joined_edge, joined_again}
use native.Mathlib.Omega.{arith}
use Rattle.enumerator.proofs.graph_view.Sources.count_walk.Goals as goal

pub word-at-end-requires : goal.word-at-end-requires
word-at-end-requires c = omega (arith, stack_long c.requires.held)

pub loop-at-init : goal.loop-at-init
loop-at-init c = (refl, joined_first c.args.self.bytes.now c.args.words.now c.word-at-end.result c.requires.counted)

pub word-requires : goal.word-requires
word-requires c = let S = c.requires.held in omega (arith, c.loop-at.invariant.1.low, stack_long S, stack_depth S, S.short, c.word-at-end.ensures.0)

pub join-requires : goal.join-requires
join-requires c = record { edge_lt_edge_limit = joined_edge c.args.self.bytes.now c.requires.held c.word-at-end.ensures.0 c.loop-at.invariant.1 (omega (arith, c.loop-at.auto.at)) (c.word.ensures.0 ∙ ap (λ (k : ℕ). get_or c.args.words.now k 0) (omega (arith, c.loop-at.auto.at))); by_index = joined_given c.args.self.bytes.now c.requires.held c.word-at-end.ensures.0 c.loop-at.invariant.1 }

pub loop-at-preserved : goal.loop-at-preserved
loop-at-preserved c = let next : c.loop-at.at + 1 - 1 ≡ c.loop-at.at - 1 + 1 = omega (arith, c.loop-at.auto.at) in rw next (c.join.auto.counts ∙ c.loop-at.invariant.0, joined_again c.args.self.bytes.now c.requires.held c.word-at-end.ensures.0 c.loop-at.invariant.1 (omega (arith, c.loop-at.auto.at)) (c.word.ensures.0 ∙ ap (λ (k : ℕ). get_or c.args.words.now k 0) (omega (arith, c.loop-at.auto.at))) c.join.ensures)

pub returns : goal.returns
returns c = joined_end c.args.self.bytes.now c.requires.held c.word-at-end.ensures.0 c.loop-at.invariant.1 (omega arith)
