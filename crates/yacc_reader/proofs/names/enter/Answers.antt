use Rattle.lr1_base.specs.hash_index.Chains.{chained}
use lib.ListN.{length-set}
use native.Mathlib.Omega.{arith}
use borrow.Author.Rules.{rules}
use Rattle.yacc_reader.proofs.names.enter.Goals as goal

-- src/lib.rt:94:5
pub bounds-ix-bucket-2 : goal.bounds-ix-bucket-2
bounds-ix-bucket-2 c = simp length-set (omega (arith, c.requires))

-- src/lib.rt:75:1
pub returns : goal.returns
unfolding chained
returns c = search rules
