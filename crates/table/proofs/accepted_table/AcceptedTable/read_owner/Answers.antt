use mathlib.Core.Path.{◌∙◌}
use Rattle.table.proofs.Decoding.{fits}
use Rattle.table.proofs.Written.{owning_start, owned-room, owning_step, owning_end}
use native.Mathlib.Omega.{arith}
use Rattle.table.proofs.accepted_table.AcceptedTable.read_owner.Goals as goal

pub loop-read-init : goal.loop-read-init
loop-read-init c = rw c.into_iter-read-iterator.ensures.into_iter_gives (c.productions-read-items.ensures.0, owning_start _ c.args.self.accepted _ _ _ c.requires.0 c.requires.1 (c.productions-read-items.ensures.1, rw c.productions-read-items.ensures.0 at c.productions-read-items.result.on))

pub overflow_cast-grammar : goal.overflow_cast-grammar
overflow_cast-grammar c = omega (arith, (fits _ c.args.self.accepted).few_nonterminals, c.requires.1)

pub overflow_mul-grammar : goal.overflow_mul-grammar
overflow_mul-grammar c = omega (arith, owned-room _ c.args.self.accepted _ _ _ (rw c.loop-read.invariant.0 at c.in-Some.ensures.steps.1.1))

pub offset_bounds-grammar-owned : goal.offset_bounds-grammar-owned
offset_bounds-grammar-owned c = omega (arith, owned-room _ c.args.self.accepted _ _ _ (rw c.loop-read.invariant.0 at c.in-Some.ensures.steps.1.1))

pub bounds-grammar-owned : goal.bounds-grammar-owned
bounds-grammar-owned c = omega (arith, owned-room _ c.args.self.accepted _ _ _ (rw c.loop-read.invariant.0 at c.in-Some.ensures.steps.1.1), c.loop-read.invariant.1.long)

pub loop-read-preserved : goal.loop-read-preserved
loop-read-preserved c = (c.in-Some.ensures.steps.0 ∙ c.loop-read.invariant.0, owning_step _ c.args.self.accepted _ _ _ _ _ _ (rw c.loop-read.invariant.0 at c.in-Some.ensures.steps.1.1) c.loop-read.invariant.1)

pub shape_of-grammar : goal.shape_of-grammar
shape_of-grammar c = c.loop-read.invariant.1.same

pub returns : goal.returns
returns c = owning_end _ c.args.self.accepted _ _ _ _ c.in-None.ensures.steps.1 c.loop-read.invariant.1
