use Rattle.std.proofs.Common.{sym, ◌∙◌}
use Rattle.std.proofs.lemmas.Result.{err_from_is_err_and}
use Rattle.table.proofs.Exact.{check_words, check_counts, check_rows}
use Rattle.table_check.proofs.check.Goals as goal

pub returns-then-bad_words-clause-answer : goal.returns-then-bad_words-clause-answer
returns-then-bad_words-clause-answer c = sym (check_words _ (sym c.bad_words.ensures ∙ c.if-bad_words.true))

pub bad_counts-requires : goal.bad_counts-requires
bad_counts-requires c = sym c.bad_words.ensures ∙ c.if-bad_words.false

pub returns-then-bad_counts-clause-answer : goal.returns-then-bad_counts-clause-answer
returns-then-bad_counts-clause-answer c = sym
    (check_counts _ (sym c.bad_words.ensures ∙ c.if-bad_words.false) (sym c.bad_counts.ensures ∙ c.if-bad_counts.true))

pub inspect-requires : goal.inspect-requires
inspect-requires c = record
    { words = sym c.bad_words.ensures ∙ c.if-bad_words.false; counts = sym c.bad_counts.ensures ∙ c.if-bad_counts.false }

pub returns-in_err-inspect-clause-answer : goal.returns-in_err-inspect-clause-answer
returns-in_err-inspect-clause-answer c =
    let p = err_from_is_err_and c.from_residual.result c.from_residual.ensures.1 in
    rw (p.1, p.2) (c.in_err-inspect.ensures
    ∙ sym (check_rows _ (sym c.bad_words.ensures ∙ c.if-bad_words.false) (sym c.bad_counts.ensures ∙ c.if-bad_counts.false)))

pub invariant_of-result : goal.invariant_of-result
invariant_of-result c = record {
  accepted = check_rows _ (sym c.bad_words.ensures ∙ c.if-bad_words.false) (sym c.bad_counts.ensures ∙ c.if-bad_counts.false) ∙ sym c.in_ok-inspect.ensures;
}
