use Rattle.std.proofs.Common.{◌≡◌, take}
use Rattle.automaton.specs.Resolutions.{resolved_in}
use Rattle.automaton.proofs.resolution.resolve.Given as goal

abbrev pub invariant-loop-clash : goal.invariant-loop-clash
invariant-loop-clash l = l.list.items ≡ resolved_in l.grammar l.used (take l.clash-index l.clashes)
