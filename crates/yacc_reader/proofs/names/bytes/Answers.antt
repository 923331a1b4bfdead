use Rattle.std.proofs.Common.{rules}
use Rattle.yacc_reader.proofs.names.Laws.{bytes_is}
use Rattle.yacc_reader.proofs.names.bytes.Goals as goal

pub returns : goal.returns
returns c = bytes_is c.args.text.now c.args.from c.args.past _ c.requires (search rules)
