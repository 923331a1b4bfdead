use Rattle.trace.proofs.trace_codes.Goals as goal

pub shift_codes-requires : goal.shift_codes-requires
shift_codes-requires c = record { room = c.requires.room; within = c.requires.within }

pub returns-in-Shift : goal.returns-in-Shift
returns-in-Shift c = rw c.in-Shift.is c.shift_codes.ensures

pub invariant_of-reduce_codes : goal.invariant_of-reduce_codes
invariant_of-reduce_codes c = record { suffixes = c.requires.suffixes c.in-Reduce.is }

pub reduce_codes-requires : goal.reduce_codes-requires
reduce_codes-requires c = record { room = c.requires.room; within = c.requires.within }

pub returns-in-Reduce : goal.returns-in-Reduce
returns-in-Reduce c = rw c.in-Reduce.is c.reduce_codes.ensures
