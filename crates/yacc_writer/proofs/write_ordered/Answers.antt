use Rattle.yacc_writer.proofs.Turns.{ordered_short, ordered_done}
use native.Mathlib.Omega.{arith}
use Rattle.yacc_writer.proofs.write_ordered.Goals as goal

pub put_file-size-requires : goal.put_file-size-requires
put_file-size-requires c = rw c.counts-counts.ensures.terminals c.counts-counts.ensures.fits.few_terminals

pub returns-then-size-text : goal.returns-then-size-text
returns-then-size-text c = ordered_short _ _ _ _ _ _ c.requires c.counts-counts.ensures.terminals c.read_grammar-grammar.ensures.1 c.put_file-size.ensures.0.place c.if-size-text.true

pub put_file-requires : goal.put_file-requires
put_file-requires c = rw c.counts-counts.ensures.terminals c.counts-counts.ensures.fits.few_terminals

pub overflow_cast-result : goal.overflow_cast-result
overflow_cast-result c = omega (arith, c.put_file-size.ensures.1)

pub returns : goal.returns
returns c = ordered_done _ _ _ _ _ _ c.requires c.counts-counts.ensures.terminals c.read_grammar-grammar.ensures.1 c.put_file-size.ensures.0.place c.if-size-text.false _ _ c.put_file.ensures.0
