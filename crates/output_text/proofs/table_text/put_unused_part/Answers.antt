use Rattle.std.proofs.Common.{sym, ◌∙◌, arith}
use Rattle.output_text.proofs.table_text.Texts.{used, not-used}
use Rattle.output_text.proofs.table_text.put_unused_part.Goals as goal

pub returns-then-any : goal.returns-then-any
returns-then-any c = (used _ _ _ (sym c.any.ensures ∙ c.if-any.true), omega arith)

pub returns : goal.returns
returns c = (not-used _ (sym c.any.ensures ∙ c.if-any.false) c.put_text.ensures, omega (arith, c.put_text.ensures.place))
