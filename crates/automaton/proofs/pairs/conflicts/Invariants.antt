use Rattle.std.proofs.Common.{◌≡◌, take}
use Rattle.std.specs.List.{flat_map}
use Rattle.automaton.specs.Conflicts.{pairs_of}
use Rattle.automaton.proofs.pairs.conflicts.Given as goal

abbrev pub invariant-loop-production : goal.invariant-loop-production
invariant-loop-production l = l.list.items ≡ flat_map (pairs_of l.clash) (take l.production-index l.clash.reductions.items)
