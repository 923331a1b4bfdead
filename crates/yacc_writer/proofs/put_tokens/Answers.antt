use Rattle.yacc_writer.proofs.Laws.{no_tokens, some-tokens}
use native.Mathlib.Omega.{arith}
use Rattle.yacc_writer.proofs.put_tokens.Goals as goal

pub returns-then-n-eq0 : goal.returns-then-n-eq0
returns-then-n-eq0 c = no_tokens _ _ c.if-n-eq0.true

pub put_terminals-last-requires : goal.put_terminals-last-requires
put_terminals-last-requires c = (omega (arith, c.put_all-next.ensures.place), c.requires)

pub put-requires : goal.put-requires
put-requires c = omega (arith, c.put_terminals-last.ensures.1, c.put_all-next.ensures.place, c.requires)

pub returns : goal.returns
returns c = some-tokens _ c.if-n-eq0.false c.requires c.put_all-next.ensures c.put_terminals-last.ensures c.put.ensures
