use Rattle.std.proofs.Common.{ℕ, ◌-◌, ap, arith}
use Rattle.std.proofs.lemmas.List.Sums.{sum_by_more}
use Rattle.automaton.specs.declared.conflict.Clash.{Clash}
use Rattle.automaton.specs.Resolutions.{left_count}
use Rattle.automaton.proofs.resolution.count_reduce_reduce.Goals as goal

pub loop-clash-preserved : goal.loop-clash-preserved
loop-clash-preserved c =
    let left : Clash → ℕ = λ x. left_count c.args.grammar.now c.args.used x - 1 in
    let more = sum_by_more left c.args.clashes.now c.loop-clash.clash-index c.clash-item.result (omega arith) in
    let one = ap left c.clash-item.is in
    omega (arith, more, one, c.loop-clash.invariant, c.saturating_add-count.ensures, c.saturating_sub.ensures, c.count_left.ensures)
