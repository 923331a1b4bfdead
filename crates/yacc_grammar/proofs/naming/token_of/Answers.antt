use Rattle.std.proofs.Common.{arith, rules}
use Rattle.yacc_grammar.proofs.Calls.{called_as_token}
use Rattle.yacc_grammar.proofs.naming.token_of.Goals as goal

pub returns-then-alias-id : goal.returns-then-alias-id
returns-then-alias-id c =
    let file = c.args.file.now in
    called_as_token file c.in_ok-index.index c.args.id c.index-alias.result.now (omega (arith, file.aliases.ok.0)) c.index-alias.ensures (search rules)
