use Rattle.std.proofs.Common.{sym, ◌∙◌, eqb-true}
use borrow.Author.Tests.{eqb-false}
use Rattle.conflict_sides.proofs.examples.Both.{not_shift}
use Rattle.conflicts.specs.judgement.Judging.{pair_in}
use Rattle.conflicts.proofs.judgement.Ways.{judges_same}
use Rattle.conflicts.proofs.judgement.Sides.{ambiguity_shift, ambiguity_reduce}
use Rattle.conflicts.proofs.judgement.Judging.ambiguity.Goals as goal

pub returns-then-is_shift : goal.returns-then-is_shift
returns-then-is_shift c = λ xs ys K hx hy. judges_same xs ys _ _ _ (c.shift_ambiguity.ensures xs ys hx hy) (ambiguity_shift _ _ _ _ (pair_in xs ys c.args.x c.args.y) (eqb-true _ _ (sym c.is_shift.ensures ∙ c.if-is_shift.true)))

pub reduce_ambiguity-requires : goal.reduce_ambiguity-requires
reduce_ambiguity-requires c = record { reduces = not_shift c.args.self.case.conflict (sym c.is_shift.ensures ∙ c.if-is_shift.false); sides = c.requires }

pub returns-else-is_shift : goal.returns-else-is_shift
returns-else-is_shift c = λ xs ys K hx hy. judges_same xs ys _ _ _ (c.reduce_ambiguity.ensures xs ys K hx hy) (ambiguity_reduce _ _ _ _ (pair_in xs ys c.args.x c.args.y) (eqb-false _ _ (sym c.is_shift.ensures ∙ c.if-is_shift.false)))
