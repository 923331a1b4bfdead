use Rattle.conflict_sides.proofs.examples.Actions.{reduced_fits}
use Rattle.conflict_sides.proofs.examples.TableConflict.reduced.Goals as goal

pub invariant_of-result : goal.invariant_of-result
invariant_of-result c = record { fits = reduced_fits _ _ c.args.self.fits }
