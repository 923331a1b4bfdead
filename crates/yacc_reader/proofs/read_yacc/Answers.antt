use mathlib.Core.Path.{sym, ◌∙◌}
use borrow.Author.Tests.{leb-true, leb-false}
use Rattle.yacc_reader.proofs.Laws.{read_long, read-outside, read-inside}
use Rattle.yacc_reader.proofs.read_yacc.Goals as goal
use Rattle.yacc_reader.proofs.read_yacc.Goals.{then-not-is_short-via-then-not-is_short, then-not-is_short-via-else-not-is_short+then-not-is_grammar}

pub returns-then-not-is_short : goal.returns-then-not-is_short
returns-then-not-is_short c = elim c.then-not-is_short.branch [
  | then-not-is_short-via-then-not-is_short w ↦ read_long _ _ _ (leb-false _ _ (sym c.is_short.ensures ∙ w.if-not-is_short.true))
  | then-not-is_short-via-else-not-is_short+then-not-is_grammar w ↦ read-outside _ _ _ (leb-true _ _ (sym c.is_short.ensures ∙ w.if-not-is_short.false)) (sym w.is_grammar.ensures ∙ w.if-not-is_grammar.true)
]

pub returns : goal.returns
returns c = read-inside _ _ _ (leb-true _ _ (sym c.is_short.ensures ∙ c.if-not-is_short.false)) (sym c.is_grammar.ensures ∙ c.if-not-is_grammar.false) _ c.read_in.ensures
