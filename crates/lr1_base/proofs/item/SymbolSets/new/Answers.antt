use Rattle.lr1_base.proofs.item.Items.{sets-none, counts-none}
use Rattle.lr1_base.proofs.item.SymbolSets.new.Goals as goal

pub returns : goal.returns
returns c = record { by_index = (λ ws. sets-none ws); suffix_value = counts-none }
