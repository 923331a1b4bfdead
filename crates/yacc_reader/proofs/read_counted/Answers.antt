use mathlib.Core.Path.{sym, ◌∙◌}
use Rattle.std.proofs.lemmas.Result.{err_from_is_err_and}
use Rattle.yacc_reader.proofs.Laws.{meant_some, limit_at, limit_refused, limit_written, passes-written}
use Rattle.yacc_reader.proofs.read_counted.Goals as goal

pub count-counts-requires : goal.count-counts-requires
count-counts-requires c = c.requires.short

pub check_counts-requires : goal.check_counts-requires
check_counts-requires c = meant_some _ _ _ _ _ _ _ c.args.symbols.now.named _ c.count-counts.ensures c.args.symbols.now.grammar

pub returns-in_err-check_counts : goal.returns-in_err-check_counts
returns-in_err-check_counts c =
    let q = err_from_is_err_and c.from_residual.result c.from_residual.ensures.1 in
    rw (q.1, q.2) (λ l p. limit_refused _ _ _ _ _ ∙ sym (limit_at _ _ _ _ _ _ _ c.args.symbols.now.named _ c.count-counts.ensures _ _ _ c.in_err-check_counts.ensures l p))

pub write_read-requires : goal.write_read-requires
write_read-requires c = record { short = c.requires.short; passes = λ l p. passes-written _ _ _ c.requires.short l p (c.requires.pieces_value l p) (limit_at _ _ _ _ _ _ _ c.args.symbols.now.named _ c.count-counts.ensures _ _ _ c.in_ok-check_counts.ensures l p ∙ limit_written _ _ _) }

pub returns : goal.returns
returns c = c.write_read.ensures
