use mathlib.Core.Path.{ap}
use Rattle.std.specs.Prelude.{ℕ, ltb}
use Rattle.lr1_base.proofs.item.Item.can_shift.Goals as goal

pub returns : goal.returns
returns c = ap (λ (n : ℕ). ltb c.args.self.index n) c.length.ensures.0
