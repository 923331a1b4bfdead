use mathlib.Core.Path.{ap}
use Rattle.std.specs.Prelude.{ℕ, eqb}
use Rattle.lr1_base.proofs.item.Item.can_reduce.Goals as goal

pub returns : goal.returns
returns c = ap (λ (n : ℕ). eqb c.args.self.index n) c.length.ensures.0
