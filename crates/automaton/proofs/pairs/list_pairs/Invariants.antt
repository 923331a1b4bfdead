use Rattle.std.proofs.Common.{◌≡◌, ◌++◌, take}
use Rattle.std.specs.Prelude.{map, filter, nat_lt}
use Rattle.automaton.specs.declared.conflict.Other.TheVariants.{Reduce}
use Rattle.automaton.specs.Conflicts.{pair}
use Rattle.automaton.proofs.pairs.list_pairs.Given as goal

abbrev pub invariant-loop-q : goal.invariant-loop-q
invariant-loop-q l =
    l.list.items ≡ l.initial.list.items ++ map (λ q. pair l.clash l.production (Reduce q)) (filter (λ q. nat_lt l.production q) (take l.q-index l.clash.reductions.items))
