use Rattle.std.proofs.Common.{refl, ◌∙◌, arith, rules, tests}
use Rattle.std.proofs.lemmas.Iterator.{YieldsList-from_range}
use Rattle.std.proofs.lemmas.Iterator.Search.{any_from_yields_List}
use Rattle.table_rewrite.proofs.start_production.Uses.{used, stands_is}
use Rattle.table_rewrite.proofs.start_production.stands_in.Goals as goal

pub returns : goal.returns
returns c =
    let g = c.args.grammar.words.now in
    let m = c.args.grammar.productions in
    any_from_yields_List (used g c.args.n.0) _ _ _ c.any.ensures.ran (YieldsList-from_range 0 m m refl (omega arith)) (λ x b q k. search (rules, tests)) ∙ stands_is g c.args.n.0 m
