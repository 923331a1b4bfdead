use Rattle.lr1_base.specs.repr.Packed.{productions_in}
use Rattle.conflicts.proofs.pairs.Product.{found-stop}
use Rattle.conflicts.proofs.judgement.Sides.{table_fits, kept-place, inline_asks, inline_none, inline_inside, inline_first, inline_found}
use native.Mathlib.Omega.{arith}
use Rattle.conflicts.proofs.judgement.Judging.try_classify_inline.Goals as goal

pub first_pair-requires : goal.first_pair-requires
first_pair-requires c = let R = c.args.self.case.given.reads in let P = c.requires.sides in
    let whole = inline_asks _ c.args.self.case.conflict P.0 P.1.0 _ _ _ _ P.1.1.0 c.args.self.actions.order.now c.args.self.reduces.order.now P.1.1.1.0 P.1.1.1.1 (table_fits _ _ _ _ _ _ _ R) c.requires.action_value (productions_in c.args.self.case.given.grammar.words.now c.args.self.case.given.grammar.productions) R.same in
    record { all = whole.1.0; all_2 = whole.1.1 }

pub word-x-requires : goal.word-x-requires
word-x-requires c = (found-stop _ _ _ _ _ _ c.first_pair.ensures _ c.in-Some.is).row

pub word-y-requires : goal.word-y-requires
word-y-requires c = (found-stop _ _ _ _ _ _ c.first_pair.ensures _ c.in-Some.is).column

pub outline-reduce-requires : goal.outline-reduce-requires
outline-reduce-requires c = let R = c.args.self.case.given.reads in let P = c.requires.sides in (kept-place _ _ _ P.1.0 _ _ P.1.1.0.reduce _ (inline_inside _ c.args.self.case.conflict P.0 P.1.0 _ _ _ _ P.1.1.0 c.args.self.actions.order.now c.args.self.reduces.order.now P.1.1.1.0 P.1.1.1.1 (table_fits _ _ _ _ _ _ _ R) c.requires.action_value _ _ _ R.tokens R.firsts R.same _ c.first_pair.ensures _ _ c.in-Some.is _ _ c.word-x.ensures.0 c.word-y.ensures.0).1).0

pub overflow_cast-reduce : goal.overflow_cast-reduce
overflow_cast-reduce c = let R = c.args.self.case.given.reads in let P = c.requires.sides in let l = (inline_first _ c.args.self.case.conflict P.0 P.1.0 _ _ _ _ P.1.1.0 c.args.self.actions.order.now c.args.self.reduces.order.now P.1.1.1.0 P.1.1.1.1 (table_fits _ _ _ _ _ _ _ R) c.requires.action_value _ _ _ R.tokens R.firsts R.same _ c.first_pair.ensures _ _ c.in-Some.is _ _ c.word-x.ensures.0 c.word-y.ensures.0 _ c.outline-reduce.ensures).1 in omega (arith, l)

pub with_heads-requires : goal.with_heads-requires
with_heads-requires c = let P = c.requires.sides in (P.1.1.1.0.any, P.1.1.1.1.any)

pub returns-in-Some : goal.returns-in-Some
returns-in-Some c = λ xs ys K A B. let R = c.args.self.case.given.reads in inline_found _ c.args.self.case.conflict xs ys _ _ _ _ K c.args.self.actions.order.now c.args.self.reduces.order.now A B (table_fits _ _ _ _ _ _ _ R) c.requires.action_value _ _ _ R.tokens R.firsts R.same _ c.first_pair.ensures _ _ c.in-Some.is _ _ c.word-x.ensures.0 c.word-y.ensures.0 _ c.outline-reduce.ensures _ c.with_both.ensures

pub returns-in-None : goal.returns-in-None
returns-in-None c = λ xs ys K A B. let R = c.args.self.case.given.reads in inline_none _ c.args.self.case.conflict xs ys _ _ _ _ K c.args.self.actions.order.now c.args.self.reduces.order.now A B (table_fits _ _ _ _ _ _ _ R) c.requires.action_value _ _ _ R.tokens R.firsts R.same _ c.first_pair.ensures c.in-None.is _ c.with_heads.ensures
