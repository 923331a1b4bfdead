use Rattle.yacc_grammar.specs.GrammarOf.{IsCalled, as_spelled}
use Rattle.yacc_grammar.proofs.naming.is_called.Goals as goal

pub returns-then-is_spelled : goal.returns-then-is_spelled
returns-then-is_spelled c _ = as_spelled c.args.id c.args.text.now (c.is_spelled.ensures c.if-is_spelled.true)

pub returns-then-is_spelled-2 : goal.returns-then-is_spelled-2
returns-then-is_spelled-2 c _ =
    let text = c.args.text.now in
    c.in-Some.ensures text (as_spelled c.in-Some.token text (c.is_spelled-2.ensures c.if-is_spelled-2.true))

pub returns : goal.returns
returns c h =
    let text = c.args.text.now in
    c.in-Some.ensures text (c.in-Some-token_of.ensures text (as_spelled c.in-Some-token_of.last text (c.is_spelled-3.ensures h)))
