use Rattle.enumerator.proofs.filter.read_labels.Goals as goal

pub invariant_of-result : goal.invariant_of-result
invariant_of-result c = record { fit = c.write_labels-size.ensures.upper_bound.1 _ _ c.requires.tried.1 }
