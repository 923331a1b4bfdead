use Rattle.yacc_writer.proofs.Laws.{production-put}
use Rattle.yacc_writer.proofs.Turns.{owner_small, words_small}
use native.Mathlib.Omega.{arith}
use Rattle.yacc_writer.proofs.put_production.Goals as goal

pub put_name-name-requires : goal.put_name-name-requires
put_name-name-requires c = (omega (arith, c.requires.0), owner_small _ _ _ _ c.args.grammar.packed c.requires.1 c.owner.ensures)

pub put-space-requires : goal.put-space-requires
put-space-requires c = omega (arith, c.put_name-name.ensures.1, c.requires.0)

pub put-colon-requires : goal.put-colon-requires
put-colon-requires c = omega (arith, c.put-space.ensures.place, c.put_name-name.ensures.1, c.requires.0)

pub put_symbols-last-requires : goal.put_symbols-last-requires
put_symbols-last-requires c = (omega (arith, c.put-colon.ensures.place, c.put-space.ensures.place, c.put_name-name.ensures.1, c.requires.0), words_small _ _ _ _ c.args.grammar.packed c.requires.1 c.symbols.ensures)

pub put_all-requires : goal.put_all-requires
put_all-requires c = omega (arith, c.put_symbols-last.ensures.1, c.put-colon.ensures.place, c.put-space.ensures.place, c.put_name-name.ensures.1, c.requires.0)

pub returns : goal.returns
returns c = production-put _ _ _ _ c.owner.ensures c.symbols.ensures c.put_name-name.ensures c.put-space.ensures c.put-colon.ensures c.put_symbols-last.ensures c.put_all.ensures
