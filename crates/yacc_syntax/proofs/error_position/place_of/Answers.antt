use Prim.Native.Nat.{ℕ, ◌+◌}
use native.Mathlib.Omega.{arith}
use mathlib.Core.Bool.{not}
use mathlib.Core.List.{List}
use mathlib.Core.Path.{◌≡◌, ap, ◌∙◌}
use borrow.Author.Tests.{tests}
use lib.Dec.{eqb}
use lib.ListN.{length, take}
use Rattle.std.proofs.Common.{rules, filter}
use Rattle.std.specs.Slice.Iter.{iter_rest}
use Rattle.std.specs.Iterator.Adapters.{rev_source}
use Rattle.std.proofs.lemmas.Iterator.{YieldsList-from_slice}
use Rattle.std.proofs.lemmas.Iterator.Adapters.{YieldsList-from_rev_slice}
use Rattle.std.proofs.lemmas.Iterator.Search.{YieldsList-from_take_while}
use Rattle.std.proofs.lemmas.Iterator.Consumers.{YieldsList-from_filter, count_from_yields_List}
use Rattle.yacc_syntax.specs.error_position.Stray.{line_of, column_of}
use Rattle.yacc_syntax.proofs.error_position.Places.{line_ends, column_is}
use Rattle.yacc_syntax.proofs.error_position.place_of.Goals as goal

pub returns : goal.returns
unfolding line_of column_of
returns c =
    let front : List ℕ = take c.args.at c.args.text.now in
    let f = c.filter.ensures in
    let w = c.take_while.ensures in
    let n : c.count.result ≡ length (filter (λ b. eqb b 10) front) = count_from_yields_List _ _ c.count.ensures.ran (YieldsList-from_filter _ (λ b. eqb b 10) (YieldsList-from_slice front (ap iter_rest f.source ∙ c.iter.ensures.rest)) f.closure (λ x b q k. search (rules, tests))) in
    let m = count_from_yields_List _ _ c.count-2.ensures.ran (YieldsList-from_take_while _ (λ b. not (eqb b 10)) (YieldsList-from_rev_slice front (ap (λ s. iter_rest (rev_source s)) w.source ∙ ap iter_rest c.rev.ensures.source ∙ c.iter-2.ensures.rest)) w.closure w.done (λ x b q k. search (rules, tests))) in
    (omega (arith, n, line_ends front), ap (λ (k : ℕ). 1 + k) m ∙ column_is front)
