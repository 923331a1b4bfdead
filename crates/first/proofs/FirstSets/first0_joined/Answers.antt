use mathlib.Core.Path.{sym}
use lib.Seq.{length-take-le}
use Rattle.lr1_base.specs.repr.Sizes.{nonterminal_limit, terminal_limit}
use Rattle.lr1_base.proofs.repr.Joined.{even_parts, odd_more, odd_parts}
use Rattle.first.proofs.Joined.{joined_even, joined_odd}
use native.Mathlib.Omega.{arith}
use Rattle.first.proofs.FirstSets.first0_joined.Goals as goal

pub first0-answer-requires : goal.first0-answer-requires
first0-answer-requires c = (even_parts nonterminal_limit terminal_limit c.args.xs.now c.args.ys.now c.requires c.if-xs-eq0.true).0

pub followed_by-requires : goal.followed_by-requires
followed_by-requires c = (even_parts nonterminal_limit terminal_limit c.args.xs.now c.args.ys.now c.requires c.if-xs-eq0.true).1

pub returns-then-xs-eq0 : goal.returns-then-xs-eq0
returns-then-xs-eq0 c = joined_even _ _ _ _ c.if-xs-eq0.true _ _ c.first0-answer.ensures c.followed_by.ensures

pub bounds-ys-0 : goal.bounds-ys-0
bounds-ys-0 c = odd_more nonterminal_limit terminal_limit c.args.xs.now c.args.ys.now c.requires c.if-xs-eq0.false

pub slice_bounds-first0-end : goal.slice_bounds-first0-end
slice_bounds-first0-end c = sym (length-take-le _ _ (omega arith))

pub first0-front-requires : goal.first0-front-requires
first0-front-requires c = (odd_parts nonterminal_limit terminal_limit c.args.xs.now c.args.ys.now c.requires c.if-xs-eq0.false).0

pub followed_by-answer-requires : goal.followed_by-answer-requires
followed_by-answer-requires c = (odd_parts nonterminal_limit terminal_limit c.args.xs.now c.args.ys.now c.requires c.if-xs-eq0.false).1

pub slice_bounds-followed_by-count : goal.slice_bounds-followed_by-count
slice_bounds-followed_by-count c = let h = odd_more nonterminal_limit terminal_limit c.args.xs.now c.args.ys.now c.requires c.if-xs-eq0.false in omega arith

pub slice_bounds-followed_by-start : goal.slice_bounds-followed_by-start
slice_bounds-followed_by-start c = let h = odd_more nonterminal_limit terminal_limit c.args.xs.now c.args.ys.now c.requires c.if-xs-eq0.false in omega arith

pub followed_by-requires-2 : goal.followed_by-requires-2
followed_by-requires-2 c = (odd_parts nonterminal_limit terminal_limit c.args.xs.now c.args.ys.now c.requires c.if-xs-eq0.false).2

pub returns : goal.returns
returns c = joined_odd _ _ c.args.xs.now c.args.ys.now c.if-xs-eq0.false (odd_more nonterminal_limit terminal_limit c.args.xs.now c.args.ys.now c.requires c.if-xs-eq0.false) _ _ _ c.first0-front.ensures c.followed_by-answer.ensures c.followed_by-2.ensures
