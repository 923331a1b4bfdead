use mathlib.Core.Path.{sym, ◌∙◌}
use Prim.Native.Nat.{ℕ}
use lib.ListN.{length-replicate}
use Rattle.lr1_base.specs.repr.Sizes.{example_limit}
use Rattle.conflict_sides.proofs.examples.Actions.{reduced-kept}
use Rattle.conflicts.proofs.classification.Ways.{no_action, no_reduce, side_sorts, side_long, side_ordered, side_picked, kept-judged}
use native.Mathlib.Omega.{arith}
use Rattle.conflicts.proofs.classification.classify_kept.Goals.{then-action_count-eq0-via-then-action_count-eq0, then-action_count-eq0-via-else-action_count-eq0+then-reduce_count-eq0}
use Rattle.conflicts.proofs.classification.classify_kept.Goals as goal

pub returns-then-action_count-eq0 : goal.returns-then-action_count-eq0
returns-then-action_count-eq0 c = elim c.then-action_count-eq0.branch [
  | then-action_count-eq0-via-then-action_count-eq0 w ↦ λ xs ys K e f. no_action _ c.args.case.conflict _ _ xs ys (e ∙ w.if-action_count-eq0.true)
  | then-action_count-eq0-via-else-action_count-eq0+then-reduce_count-eq0 w ↦ λ xs ys K e f. no_reduce _ c.args.case.conflict _ _ xs ys (f ∙ w.if-reduce_count-eq0.true)
]

pub sort_side-requires : goal.sort_side-requires
sort_side-requires c = let P = c.requires.sides in let K = P.1.1.0 in let e = P.1.1.1.0 in let S = side_sorts _ _ _ _ _ _ K.action _ e _ (length-replicate {A = ℕ} example_limit 0) in (S.0, (S.1, S.2))

pub sort_side-requires-2 : goal.sort_side-requires-2
sort_side-requires-2 c = let P = c.requires.sides in let K = P.1.1.0 in let f = P.1.1.1.1 in let S = side_sorts _ _ _ _ _ _ K.reduce _ f _ (length-replicate {A = ℕ} example_limit 0) in (S.0, (S.1, S.2))

pub slice_bounds-rows-end : goal.slice_bounds-rows-end
slice_bounds-rows-end c = let P = c.requires.sides in let K = P.1.1.0 in let e = P.1.1.1.0 in let l = K.action.outlined.few in omega arith

pub slice_bounds-judging-end : goal.slice_bounds-judging-end
slice_bounds-judging-end c = let P = c.requires.sides in let K = P.1.1.0 in let e = P.1.1.1.0 in sym (side_long _ _ _ _ _ _ K.action _ e _ c.sort_side.ensures)

pub slice_bounds-columns-end : goal.slice_bounds-columns-end
slice_bounds-columns-end c = let P = c.requires.sides in let K = P.1.1.0 in let f = P.1.1.1.1 in let l = K.reduce.outlined.few in omega arith

pub slice_bounds-judging-end-2 : goal.slice_bounds-judging-end-2
slice_bounds-judging-end-2 c = let P = c.requires.sides in let K = P.1.1.0 in let f = P.1.1.1.1 in sym (side_long _ _ _ _ _ _ K.reduce _ f _ c.sort_side-2.ensures)

pub judge-judged-requires : goal.judge-judged-requires
judge-judged-requires c = let P = c.requires.sides in let K = P.1.1.0 in let e = P.1.1.1.0 in let f = P.1.1.1.1 in (P.0, (P.1.0, (K, ((side_ordered _ _ _ _ _ _ K.action _ e _ c.sort_side.ensures c.if-action_count-eq0.false), (side_ordered _ _ _ _ _ _ K.reduce _ f _ c.sort_side-2.ensures c.if-reduce_count-eq0.false)))))

pub show-requires : goal.show-requires
show-requires c = let P = c.requires.sides in let K = P.1.1.0 in let e = P.1.1.1.0 in let f = P.1.1.1.1 in let J = c.judge-judged.ensures P.0 P.1.0 K (side_ordered _ _ _ _ _ _ K.action _ e _ c.sort_side.ensures c.if-action_count-eq0.false) (side_ordered _ _ _ _ _ _ K.reduce _ f _ c.sort_side-2.ensures c.if-reduce_count-eq0.false) in record { side_kept = (P.0, (K.action, J.action)); example_room_in_bounds = c.requires.example_room_in_bounds.0 }

pub show-requires-2 : goal.show-requires-2
show-requires-2 c = let P = c.requires.sides in let K = P.1.1.0 in let e = P.1.1.1.0 in let f = P.1.1.1.1 in let J = c.judge-judged.ensures P.0 P.1.0 K (side_ordered _ _ _ _ _ _ K.action _ e _ c.sort_side.ensures c.if-action_count-eq0.false) (side_ordered _ _ _ _ _ _ K.reduce _ f _ c.sort_side-2.ensures c.if-reduce_count-eq0.false) in rw (c.reduced.ensures.table, c.reduced.ensures.conflict) (record { side_kept = (P.1.0, (reduced-kept _ c.args.case.conflict P.1.0 _ _ K.reduce, J.reduce)); example_room_in_bounds = c.requires.example_room_in_bounds.1 })

pub returns : goal.returns
returns c = λ xs ys K e f. let J = c.judge-judged.ensures xs ys K (side_ordered _ _ _ _ _ _ K.action _ e _ c.sort_side.ensures c.if-action_count-eq0.false) (side_ordered _ _ _ _ _ _ K.reduce _ f _ c.sort_side-2.ensures c.if-reduce_count-eq0.false) in kept-judged _ c.args.case.conflict xs ys _ _ _ _ _ _ _ J (side_picked _ _ _ _ _ _ K.action _ e _ c.sort_side.ensures) (side_picked _ _ _ _ _ _ K.reduce _ f _ c.sort_side-2.ensures) (c.show.ensures xs K.action J.action) ((rw (c.reduced.ensures.table, c.reduced.ensures.conflict) at c.show-2.ensures) ys (reduced-kept _ c.args.case.conflict ys _ _ K.reduce) J.reduce)
