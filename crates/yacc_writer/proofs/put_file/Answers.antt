use Rattle.yacc_writer.proofs.Laws.{file_put}
use native.Mathlib.Omega.{arith}
use Rattle.yacc_writer.proofs.put_file.Goals as goal

pub put_tokens-tokens-requires : goal.put_tokens-tokens-requires
put_tokens-tokens-requires c = c.requires

pub put_all-mark-requires : goal.put_all-mark-requires
put_all-mark-requires c = omega (arith, c.put_tokens-tokens.ensures.1)

pub put_productions-requires : goal.put_productions-requires
put_productions-requires c = omega (arith, c.put_all-mark.ensures.place, c.put_tokens-tokens.ensures.1)

pub returns : goal.returns
returns c = file_put _ _ _ c.args.grammar.packed.few c.put_tokens-tokens.ensures c.put_all-mark.ensures c.put_productions.ensures
