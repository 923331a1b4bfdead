use mathlib.Core.Path.{sym, ◌∙◌}
use Rattle.lr1_base.specs.repr.Packed.{productions_in}
use Rattle.conflicts.proofs.pairs.Product.{found-stop, found_fewer}
use Rattle.conflicts.proofs.judgement.Sides.{alike_asks, alike-start, alike-none, alike-inside, alike-yes, alike_no}
use native.Mathlib.Omega.{arith}
use Rattle.conflicts.proofs.judgement.Judging.try_classify_ambiguity.Goals as goal

pub loop-i-init : goal.loop-i-init
loop-i-init c = λ xs ys K A B. alike-start _ c.args.self.case.conflict xs ys _ _ _ _ K c.args.self.actions.order.now c.args.self.reduces.order.now A B

pub first_pair-requires : goal.first_pair-requires
first_pair-requires c = let P = c.requires in
    let whole = alike_asks _ c.args.self.case.conflict P.0 P.1.0 _ _ _ _ P.1.1.0 c.args.self.actions.order.now c.args.self.reduces.order.now P.1.1.1.0 P.1.1.1.1 (productions_in c.args.self.case.given.grammar.words.now c.args.self.case.given.grammar.productions) in
    record { all = whole.1.0; all_2 = whole.1.1 }

pub word-x-requires : goal.word-x-requires
word-x-requires c = (found-stop _ _ _ _ _ _ c.first_pair.ensures _ c.in-Some.is).row

pub word-y-requires : goal.word-y-requires
word-y-requires c = (found-stop _ _ _ _ _ _ c.first_pair.ensures _ c.in-Some.is).column

pub same_again-requires : goal.same_again-requires
same_again-requires c = let P = c.requires in let R = c.args.self.case.given.reads in (P.0, (P.1.0, (P.1.1.0, alike-inside _ c.args.self.case.conflict P.0 P.1.0 _ _ _ _ P.1.1.0 c.args.self.actions.order.now c.args.self.reduces.order.now P.1.1.1.0 P.1.1.1.1 _ _ _ R.same _ _ (c.loop-i.invariant P.0 P.1.0 P.1.1.0 P.1.1.1.0 P.1.1.1.1) _ c.first_pair.ensures _ _ c.in-Some.is _ _ c.word-x.ensures.0 c.word-y.ensures.0)))

pub returns-then-same_again : goal.returns-then-same_again
returns-then-same_again c = λ xs ys K A B. let R = c.args.self.case.given.reads in let I = alike-inside _ c.args.self.case.conflict xs ys _ _ _ _ K c.args.self.actions.order.now c.args.self.reduces.order.now A B _ _ _ R.same _ _ (c.loop-i.invariant xs ys K A B) _ c.first_pair.ensures _ _ c.in-Some.is _ _ c.word-x.ensures.0 c.word-y.ensures.0 in let E = c.same_again.ensures xs ys K I.0 I.1 in alike-yes _ c.args.self.case.conflict xs ys _ _ _ _ K c.args.self.actions.order.now c.args.self.reduces.order.now A B _ _ _ R.same _ _ (c.loop-i.invariant xs ys K A B) _ c.first_pair.ensures _ _ c.in-Some.is _ _ c.word-x.ensures.0 c.word-y.ensures.0 (sym c.if-same_again.true ∙ E)

pub overflow_add-begin : goal.overflow_add-begin
overflow_add-begin c = let s = (found-stop _ c.args.self.actions.order.now c.args.self.reduces.order.now _ _ _ c.first_pair.ensures _ c.in-Some.is).column in omega (arith, s, c.well_formed)

pub loop-i-smaller : goal.loop-i-smaller
loop-i-smaller c = found_fewer _ _ _ _ _ _ _ (found-stop _ _ _ _ _ _ c.first_pair.ensures _ c.in-Some.is)

pub loop-i-preserved : goal.loop-i-preserved
loop-i-preserved c = let R = c.args.self.case.given.reads in λ xs ys K A B. let I = alike-inside _ c.args.self.case.conflict xs ys _ _ _ _ K c.args.self.actions.order.now c.args.self.reduces.order.now A B _ _ _ R.same _ _ (c.loop-i.invariant xs ys K A B) _ c.first_pair.ensures _ _ c.in-Some.is _ _ c.word-x.ensures.0 c.word-y.ensures.0 in alike_no _ c.args.self.case.conflict xs ys _ _ _ _ K c.args.self.actions.order.now c.args.self.reduces.order.now A B _ _ _ R.same _ _ (c.loop-i.invariant xs ys K A B) _ c.first_pair.ensures _ _ c.in-Some.is _ _ c.word-x.ensures.0 c.word-y.ensures.0 (sym c.if-same_again.false ∙ c.same_again.ensures xs ys K I.0 I.1)

pub returns : goal.returns
returns c = λ xs ys K A B. let R = c.args.self.case.given.reads in alike-none _ c.args.self.case.conflict xs ys _ _ _ _ K c.args.self.actions.order.now c.args.self.reduces.order.now A B _ _ _ R.same _ _ (c.loop-i.invariant xs ys K A B) _ c.first_pair.ensures c.in_default.is
