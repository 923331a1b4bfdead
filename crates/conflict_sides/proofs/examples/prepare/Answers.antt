use Rattle.conflict_sides.proofs.examples.Preparing.{prepared}
use Rattle.conflict_sides.proofs.examples.prepare.Goals as goal

pub returns : goal.returns
returns c =
    let C = c.counts-counts.ensures in
    let S = c.new-sets.ensures in
    let R = prepared _ _ _ _ _ _ _ c.args.table.accepted C.productions _ S.terminals C.terminals c.read_productions.ensures S.is c.least_productions.ensures c.suffix_ends.ensures in
    rw C.productions at R
