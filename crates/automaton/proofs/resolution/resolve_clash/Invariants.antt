use Rattle.std.proofs.Common.{◌≡◌, ◌++◌, take}
use Rattle.std.specs.Prelude.{map}
use Rattle.automaton.specs.Conflicts.{conflicts_of}
use Rattle.automaton.specs.Resolutions.{resolved}
use Rattle.automaton.proofs.resolution.resolve_clash.Given as goal

abbrev pub invariant-loop-conflict : goal.invariant-loop-conflict
invariant-loop-conflict l = l.list.items ≡ l.initial.list.items ++ map (resolved l.grammar l.used l.clash) (take l.conflict-index (conflicts_of l.clash))
