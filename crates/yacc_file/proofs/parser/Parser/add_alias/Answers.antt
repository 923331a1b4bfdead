use Rattle.yacc_file.proofs.parser.Parser.add_alias.Goals as goal

pub invariant_of-self : goal.invariant_of-self
invariant_of-self c = record { within = c.args.self.now.within; in_range = rw c.add_alias.ensures.names c.args.self.now.in_range }
