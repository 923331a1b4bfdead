use native.Mathlib.Omega.{arith}
use lib.ListN.{length-set}
use Rattle.table.specs.Quads.{put_quad}
use borrow.Author.Rules.{rules}
use Rattle.table.proofs.put.Goals as goal

pub bounds-table-at-2 : goal.bounds-table-at-2
bounds-table-at-2 c = simp length-set (omega arith)

pub bounds-table-at-3 : goal.bounds-table-at-3
bounds-table-at-3 c = simp length-set (omega arith)

pub returns : goal.returns
unfolding put_quad
returns c = search rules
