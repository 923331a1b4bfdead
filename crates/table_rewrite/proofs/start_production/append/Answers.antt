use lib.ListN.{length-set}
use Rattle.table_rewrite.proofs.start_production.Appended.{appended_packed, appended_is}
use native.Mathlib.Omega.{arith}
use Rattle.table_rewrite.proofs.start_production.append.Goals as goal

pub bounds-grammar-base-2 : goal.bounds-grammar-base-2
bounds-grammar-base-2 c = simp length-set (omega (arith, c.requires.packed.0.long, c.requires.packed.1))

pub bounds-grammar-base-3 : goal.bounds-grammar-base-3
bounds-grammar-base-3 c = simp length-set (omega (arith, c.requires.packed.0.long, c.requires.packed.1))

pub bounds-grammar-base-4 : goal.bounds-grammar-base-4
bounds-grammar-base-4 c = simp length-set (omega (arith, c.requires.packed.0.long, c.requires.packed.1))

pub bounds-grammar-base-5 : goal.bounds-grammar-base-5
bounds-grammar-base-5 c = simp length-set (omega (arith, c.requires.packed.0.long, c.requires.packed.1))

pub bounds-grammar-base-6 : goal.bounds-grammar-base-6
bounds-grammar-base-6 c = simp length-set (omega (arith, c.requires.packed.0.long, c.requires.packed.1))

pub returns : goal.returns
returns c = (appended_packed _ _ _ _ c.requires.packed.0 c.requires.packed.1 c.requires.owner_lt_nonterminal_limit.0 c.requires.owner_lt_nonterminal_limit.1, appended_is _ _ _ _ c.requires.packed.0 c.requires.packed.1 c.requires.owner_lt_nonterminal_limit.0 c.requires.owner_lt_nonterminal_limit.1)
