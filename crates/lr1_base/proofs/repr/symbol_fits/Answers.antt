use Rattle.std.proofs.Common.{arith}
use Rattle.lr1_base.proofs.repr.Listed.{kind_zero, kind_one, kind_other}
use Rattle.lr1_base.proofs.repr.symbol_fits.Goals as goal

pub returns-in-0 : goal.returns-in-0
returns-in-0 c = kind_zero _ _ _ _ c.in-0.is

pub returns-in-1 : goal.returns-in-1
returns-in-1 c = kind_one _ _ _ _ c.in-1.is

pub returns-in_default : goal.returns-in_default
returns-in_default c = kind_other _ _ _ _ (λ e. omega arith) (λ e. omega arith)
