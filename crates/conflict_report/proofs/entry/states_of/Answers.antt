use Rattle.std.proofs.Common.{ℕ, List, Contains, ◌↔◌, subst}
use Rattle.conflict_report.proofs.entry.states_of.Goals as goal

pub returns : goal.returns
returns c = λ n. let P : List ℕ → Type 0 = λ l. Contains c.each_once.result.items n ↔ Contains l n in
    subst P c.in_ok-states.ensures (c.each_once.ensures n)
