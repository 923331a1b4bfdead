use Rattle.conflict_sides.proofs.examples.Both.{state_in_lem, operand_in_lem, token_in, no_shift}
use Rattle.conflict_sides.proofs.examples.TableConflict.reduction.Goals as goal

pub invariant_of-result : goal.invariant_of-result
invariant_of-result c = let F = c.args.self.fits in record { within = (state_in_lem _ _ F, operand_in_lem _ _ F (no_shift _ c.requires), token_in _ _ F) }
