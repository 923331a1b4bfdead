use Rattle.yacc_reader.proofs.fault_in.Goals as goal

pub enter-requires : goal.enter-requires
enter-requires c = record { fresh = c.new-room.ensures; text = c.requires }

pub returns : goal.returns
returns c = rw c.enter.ensures at c.fault_place.ensures
