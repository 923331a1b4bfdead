use Rattle.yacc_reader.proofs.Room.enter.Goals as goal

pub enter-requires : goal.enter-requires
enter-requires c = (c.requires.fresh _ c.requires.text.0, c.requires.text.1)
