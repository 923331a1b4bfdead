use Rattle.std.proofs.Common.{◌≡◌, ℕ, drop}
use Rattle.std.specs.List.{find}
use Rattle.automaton.specs.Resolutions.{taker_of, takes_shift, choice_in}
use Rattle.automaton.proofs.resolution.taker.Given as goal

abbrev pub invariant-loop-production : goal.invariant-loop-production
invariant-loop-production l =
    find (λ (p : ℕ). takes_shift (choice_in l.grammar l.used l.clash p)) (drop l.production-index l.clash.reductions.items) ≡ taker_of l.grammar l.used l.clash
