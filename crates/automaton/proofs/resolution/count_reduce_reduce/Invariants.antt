use Rattle.std.proofs.Common.{◌≡◌, ◌-◌, take, min}
use Rattle.std.specs.Prelude.{sum_by}
use Rattle.automaton.specs.declared.conflict.Clash.{Clash}
use Rattle.automaton.specs.Resolutions.{left_count}
use Rattle.automaton.proofs.resolution.count_reduce_reduce.Given as goal

abbrev pub invariant-loop-clash : goal.invariant-loop-clash
invariant-loop-clash l = l.count ≡ min 18446744073709551615 (sum_by (λ (c : Clash). left_count l.grammar l.used c - 1) (take l.clash-index l.clashes))
