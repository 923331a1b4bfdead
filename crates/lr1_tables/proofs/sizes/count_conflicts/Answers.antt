use Rattle.std.proofs.Common.{◌≡◌, ℕ, List, length, get_or, [], refl, ◌∙◌, arith, rules, tests}
use Rattle.std.specs.List.{range_with_len}
use Rattle.std.proofs.lemmas.Iterator.{YieldsList-from_range, YieldsList-from_map}
use Rattle.std.proofs.lemmas.Iterator.Consumers.{YieldsList-at, sum_by_from_yields_List, fits_by_from_yields_list}
use Rattle.lr1_states.specs.canonical.States.{clashes}
use Rattle.lr1_states.specs.canonical.Outcome.{sum}
use Rattle.lr1_tables.specs.sizes.Complete.{Collection}
use Rattle.lr1_tables.proofs.sizes.Laws.{sum_clashes, sum_states}
use Rattle.lr1_tables.proofs.sizes.count_conflicts.Goals as goal

pub sum-requires-clause-fits : goal.sum-requires-clause-fits
sum-requires-clause-fits c =
    let s = c.requires in
    let n = c.args.kept.begins.now.states in
    fits_by_from_yields_list (λ k. length (clashes s.T (get_or s.Rs k []))) (range_with_len 0 n) c.map.result _
    (YieldsList-from_map _ (λ k. length (clashes s.T (get_or s.Rs k []))) (YieldsList-at c.map.ensures.source (YieldsList-from_range 0 n n refl (omega arith))) c.map.ensures.closure (λ x a q k. search (rules, tests)))
    (omega (arith, sum_states s.T s.Rs n s.many, sum_clashes s.T s.grammar.fits s.Rs, s.many, s.holds.begun.few))

pub returns : goal.returns
returns c =
    let n = c.args.kept.begins.now.states in
    let sum_is : (s : Collection c.args.kept) → c.sum.result ≡ sum (λ (S : List ℕ). length (clashes s.T S)) s.Rs =
    λ s. sum_by_from_yields_List (λ k. length (clashes s.T (get_or s.Rs k []))) (range_with_len 0 n) c.map.result _ c.sum.ensures.ran
    (YieldsList-from_map _ (λ k. length (clashes s.T (get_or s.Rs k []))) (YieldsList-at c.map.ensures.source (YieldsList-from_range 0 n n refl (omega arith))) c.map.ensures.closure (λ x a q k. search (rules, tests)))
    ∙ sum_states s.T s.Rs n s.many in
    let s = c.requires in
    (omega (arith, sum_is s, sum_clashes s.T s.grammar.fits s.Rs, s.many, s.holds.begun.few), sum_is)
