use Rattle.yacc_reader.proofs.read_in.Goals as goal

pub enter-requires : goal.enter-requires
enter-requires c = record { fresh = c.new-room.ensures; text = c.requires }

pub read_named-requires : goal.read_named-requires
read_named-requires c = rw c.enter.ensures c.requires.0

pub returns : goal.returns
returns c = rw c.enter.ensures at c.read_named.ensures
