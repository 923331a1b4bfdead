use native.Mathlib.Omega.{arith}
use Rattle.lr1_tables.proofs.Found.{fixed_small, sizes_are}
use Rattle.lr1_tables.proofs.sizes_of.Goals as goal

pub overflow_add-result-3 : goal.overflow_add-result-3
overflow_add-result-3 c = let l = fixed_small _ c.counts-counts.ensures.fits c.requires.same.1 c.counts-counts.ensures.nonterminals c.requires.same.0 c.count_symbols-symbols.ensures in omega arith

pub returns : goal.returns
returns c = sizes_are _ c.counts-counts.ensures.fits c.requires.same.1 c.counts-counts.ensures.nonterminals c.requires.same.0 c.count_symbols-symbols.ensures c.min.ensures
