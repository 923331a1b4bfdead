use Rattle.std.proofs.lemmas.Result.{err_from_is_err_and}
use Rattle.conflict_sides.proofs.examples.Actions.{reduced-sided}
use Rattle.conflicts.proofs.classification.Ways.{side_stops, side_gathers, action_stops, reduce_stops, both-judged}
use Rattle.conflicts.proofs.classification.classify.Goals as goal

pub classify_kept-class-requires : goal.classify_kept-class-requires
classify_kept-class-requires c =
    let A = side_gathers _ _ _ _ _ _ _ c.action_examples.ensures.sided _ c.in_ok-own.was in
    let R = side_gathers _ _ _ _ _ _ _ (reduced-sided _ c.args.case.conflict _ _ _ (rw (c.reduced.ensures.table, c.reduced.ensures.conflict) at c.action_examples-2.ensures.sided)) _ c.in_ok-found.was in
    rw (c.read.ensures.0, c.read.ensures.1, c.read-2.ensures.0, c.read-2.ensures.1) (record { sides = (A.examples, (R.examples, (record { action = A.held; reduce = R.held }, (A.many, R.many)))); example_room_in_bounds = c.requires })

pub returns-in_err-own : goal.returns-in_err-own
returns-in_err-own c =
    let p = err_from_is_err_and c.from_residual.result c.from_residual.ensures.1 in
    λ w. rw (p.1, p.2) (action_stops _ c.args.case.conflict w _ _ _ (side_stops _ _ _ _ _ _ _ c.action_examples.ensures.sided _ c.in_err-own.was))

pub returns-in_err-found : goal.returns-in_err-found
returns-in_err-found c =
    let p = err_from_is_err_and c.from_residual-in_err-found.result c.from_residual-in_err-found.ensures.1 in
    let A = side_gathers _ _ _ _ _ _ _ c.action_examples.ensures.sided _ c.in_ok-own.was in
    λ w. rw (p.1, p.2) (reduce_stops _ c.args.case.conflict w _ _ _ _ _ A.is (side_stops _ _ _ _ _ _ _ (reduced-sided _ c.args.case.conflict _ _ _ (rw (c.reduced.ensures.table, c.reduced.ensures.conflict) at c.action_examples-2.ensures.sided)) _ c.in_err-found.was))

pub returns : goal.returns
returns c =
    let A = side_gathers _ _ _ _ _ _ _ c.action_examples.ensures.sided _ c.in_ok-own.was in
    let R = side_gathers _ _ _ _ _ _ _ (reduced-sided _ c.args.case.conflict _ _ _ (rw (c.reduced.ensures.table, c.reduced.ensures.conflict) at c.action_examples-2.ensures.sided)) _ c.in_ok-found.was in
    λ w. both-judged _ c.args.case.conflict w _ _ A.examples R.examples _ _ A.is R.is _ _ _ ((rw (c.read.ensures.0, c.read.ensures.1, c.read-2.ensures.0, c.read-2.ensures.1) at c.classify_kept-class.ensures) A.examples R.examples (record { action = A.held; reduce = R.held }) A.many R.many)
