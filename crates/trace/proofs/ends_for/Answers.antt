use Rattle.std.proofs.Common.{sym, ◌∙◌, arith}
use Rattle.table.specs.Decoded.{meaning}
use Rattle.trace.proofs.ends_for.Goals as goal

pub overflow_cast-terminals : goal.overflow_cast-terminals
overflow_cast-terminals c = let C = c.counts-terminals.ensures in omega (arith, C.fits.few_terminals, C.terminals)

pub new-sets-requires : goal.new-sets-requires
new-sets-requires c = let C = c.counts-terminals.ensures in omega (arith, C.fits.few_terminals, C.terminals)

pub suffix_ends-requires : goal.suffix_ends-requires
suffix_ends-requires c = record { map_value = rw c.new-sets.ensures.terminals c.new-sets.ensures.is }

pub returns-in-Shift : goal.returns-in-Shift
returns-in-Shift c = λ e. absurd (let s = c.in-Shift.is in cc)

pub returns-in-Reduce : goal.returns-in-Reduce
returns-in-Reduce c = λ _. c.suffix_ends.ensures (meaning c.args.tracer.table.words.now) (sym c.args.tracer.working.same) (sym (c.new-sets.ensures.terminals ∙ c.counts-terminals.ensures.terminals))
