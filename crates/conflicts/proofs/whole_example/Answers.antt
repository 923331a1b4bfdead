use mathlib.Core.Path.{refl, ◌∙◌}
use native.Mathlib.Omega.{arith}
use borrow.Author.Tests.{lt-leb}
use Rattle.conflicts.proofs.Seen.{whole_short, whole-counts, whole_cursor, rest_long}
use Rattle.conflicts.proofs.whole_example.Goals as goal

pub returns-in_default : goal.returns-in_default
returns-in_default c = whole_short _ c.in_default.len_below

pub returns-then-rest-words : goal.returns-then-rest-words
returns-then-rest-words c = let l = rest_long c.args.buffer.now c.in-len3-up.len_at_least in whole_cursor _ c.in-len3-up.len_at_least _ _ _ refl refl refl (omega (arith, l, c.if-rest-words.true, c.in-len3-up.len_at_least))

pub returns-else-rest-words : goal.returns-else-rest-words
returns-else-rest-words c = let l = rest_long c.args.buffer.now c.in-len3-up.len_at_least in lt-leb _ _ c.if-rest-words.false ∙ whole-counts _ c.in-len3-up.len_at_least _ _ _ refl refl refl (omega (arith, l, c.if-rest-words.false, c.in-len3-up.len_at_least))
