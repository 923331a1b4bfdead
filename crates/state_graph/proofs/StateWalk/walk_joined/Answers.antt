use mathlib.Core.Path.{sym, ◌∙◌}
use lib.Seq.{length-take-le}
use Rattle.lr1_base.proofs.repr.Joined.{even_parts, odd_more, odd_parts}
use Rattle.table.specs.Decoded.{meaning}
use Rattle.state_graph.proofs.Joined.{joined_even, joined_odd}
use native.Mathlib.Omega.{arith}
use Rattle.state_graph.proofs.StateWalk.walk_joined.Goals as goal

pub walk_back-found-requires : goal.walk_back-found-requires
walk_back-found-requires c = (even_parts _ _ c.args.xs.now c.args.ys.now c.requires c.if-xs-eq0.true).1

pub walk_back-requires : goal.walk_back-requires
walk_back-requires c = rw c.walk_back-found.ensures.table ((even_parts _ _ c.args.xs.now c.args.ys.now c.requires c.if-xs-eq0.true).0)

pub returns-then-xs-eq0 : goal.returns-then-xs-eq0
returns-then-xs-eq0 c = joined_even (meaning c.args.self.now.table.words.now) _ c.args.xs.now c.args.ys.now c.if-xs-eq0.true _ _ c.walk_back-found.ensures.found (rw c.walk_back-found.ensures.table at c.walk_back.ensures.found)

pub bounds-ys-0 : goal.bounds-ys-0
bounds-ys-0 c = odd_more _ _ c.args.xs.now c.args.ys.now c.requires c.if-xs-eq0.false

pub slice_bounds-walk_back-count : goal.slice_bounds-walk_back-count
slice_bounds-walk_back-count c = let h = odd_more _ _ c.args.xs.now c.args.ys.now c.requires c.if-xs-eq0.false in omega arith

pub slice_bounds-walk_back-start : goal.slice_bounds-walk_back-start
slice_bounds-walk_back-start c = let h = odd_more _ _ c.args.xs.now c.args.ys.now c.requires c.if-xs-eq0.false in omega arith

pub walk_back-behind-requires : goal.walk_back-behind-requires
walk_back-behind-requires c = (odd_parts _ _ c.args.xs.now c.args.ys.now c.requires c.if-xs-eq0.false).2

pub walk_back-found-requires-2 : goal.walk_back-found-requires-2
walk_back-found-requires-2 c = rw c.walk_back-behind.ensures.table ((odd_parts _ _ c.args.xs.now c.args.ys.now c.requires c.if-xs-eq0.false).1)

pub slice_bounds-walk_back-end-3 : goal.slice_bounds-walk_back-end-3
slice_bounds-walk_back-end-3 c = sym (length-take-le _ _ (omega arith))

pub walk_back-requires-2 : goal.walk_back-requires-2
walk_back-requires-2 c = rw (c.walk_back-found-2.ensures.table ∙ c.walk_back-behind.ensures.table) ((odd_parts _ _ c.args.xs.now c.args.ys.now c.requires c.if-xs-eq0.false).0)

pub returns : goal.returns
returns c = joined_odd (meaning c.args.self.now.table.words.now) _ c.args.xs.now c.args.ys.now c.if-xs-eq0.false (odd_more _ _ c.args.xs.now c.args.ys.now c.requires c.if-xs-eq0.false) _ _ _ c.walk_back-behind.ensures.found (rw c.walk_back-behind.ensures.table at c.walk_back-found-2.ensures.found) (rw (c.walk_back-found-2.ensures.table ∙ c.walk_back-behind.ensures.table) at c.walk_back-2.ensures.found)
