use mathlib.Core.Path.{ap}
use lib.ListN.{length-set}
use lib.ListN.{length}
use Rattle.table.proofs.Written.{storing_start, symbol_small, storing_room, storing_step, storing_end}
use native.Mathlib.Omega.{arith}
use Rattle.table.proofs.accepted_table.AcceptedTable.store_symbols.Goals as goal

pub first_symbol-at-requires : goal.first_symbol-at-requires
first_symbol-at-requires c = c.requires.1

pub loop-at-init : goal.loop-at-init
loop-at-init c = storing_start _ c.args.self.accepted _ _ _ c.requires.0 c.requires.1 c.first_symbol-at.ensures

pub symbol-read-requires : goal.symbol-read-requires
symbol-read-requires c = (c.loop-at-test.true, c.loop-at.invariant.on)

pub overflow_mul-put : goal.overflow_mul-put
overflow_mul-put c = omega (arith, c.loop-at.invariant.inside)

pub overflow_add-put : goal.overflow_add-put
overflow_add-put c = omega (arith, c.loop-at.invariant.inside)

pub overflow_mul-put-in-loop-at : goal.overflow_mul-put-in-loop-at
overflow_mul-put-in-loop-at c = omega (arith, c.loop-at.invariant.left)

pub overflow_add-put-in-loop-at : goal.overflow_add-put-in-loop-at
overflow_add-put-in-loop-at c = omega (arith, c.loop-at.invariant.inside, c.loop-at.invariant.left)

pub overflow_cast-grammar : goal.overflow_cast-grammar
overflow_cast-grammar c = let s = symbol_small _ c.args.self.accepted _ _ _ _ c.symbol-read.ensures in omega arith

pub offset_bounds-grammar-put : goal.offset_bounds-grammar-put
offset_bounds-grammar-put c = omega (arith, c.loop-at.invariant.inside, c.loop-at.invariant.left)

pub bounds-grammar-put : goal.bounds-grammar-put
bounds-grammar-put c = omega (arith, storing_room _ c.args.self.accepted _ _ _ _ _ _ _ _ c.symbol-read.ensures c.loop-at.invariant)

pub overflow_cast-grammar-in-loop-at : goal.overflow_cast-grammar-in-loop-at
overflow_cast-grammar-in-loop-at c = let s = symbol_small _ c.args.self.accepted _ _ _ _ c.symbol-read.ensures in omega arith

pub overflow_add-grammar : goal.overflow_add-grammar
overflow_add-grammar c = omega (arith, c.loop-at.invariant.inside, c.loop-at.invariant.left)

pub offset_bounds-grammar-put-in-loop-at : goal.offset_bounds-grammar-put-in-loop-at
offset_bounds-grammar-put-in-loop-at c = omega (arith, c.loop-at.invariant.inside, c.loop-at.invariant.left)

pub bounds-grammar-put-in-loop-at : goal.bounds-grammar-put-in-loop-at
bounds-grammar-put-in-loop-at c = simp length-set (storing_room _ c.args.self.accepted _ _ _ _ _ _ _ _ c.symbol-read.ensures c.loop-at.invariant)

pub overflow_add-count : goal.overflow_add-count
overflow_add-count c = omega (arith, c.loop-at.invariant.left)

pub loop-at-smaller : goal.loop-at-smaller
loop-at-smaller c = omega (arith, ap length c.symbol-read.ensures.list)

pub loop-at-preserved : goal.loop-at-preserved
loop-at-preserved c = storing_step _ c.args.self.accepted _ _ _ _ _ _ _ _ c.symbol-read.ensures c.loop-at.invariant

pub shape_of-grammar : goal.shape_of-grammar
shape_of-grammar c = c.loop-at.invariant.same

pub returns : goal.returns
returns c = storing_end _ c.args.self.accepted _ _ _ _ _ c.loop-at-test.false c.loop-at.invariant
