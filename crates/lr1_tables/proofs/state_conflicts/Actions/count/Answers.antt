use Rattle.std.proofs.Common.{length, refl, ◌∙◌, arith, rules, tests}
use Rattle.std.specs.List.{range_with_len}
use Rattle.std.proofs.lemmas.Iterator.{YieldsList-from_range, YieldsList-from_map}
use Rattle.std.proofs.lemmas.Iterator.Consumers.{YieldsList-at, sum_by_from_yields_List, fits_by_from_yields_list}
use Rattle.lr1_base.specs.repr.Lists.{up_from, below}
use Rattle.lr1_base.proofs.repr.Lists.{length-up_from}
use Rattle.lr1_tables.specs.state_conflicts.Clashed.{clashes_in}
use Rattle.lr1_tables.proofs.state_conflicts.Counts.{joined_sum, joined_few, clashes_few}
use Rattle.lr1_tables.proofs.state_conflicts.Actions.count.Goals as goal

pub sum-requires-clause-fits : goal.sum-requires-clause-fits
sum-requires-clause-fits c =
    let f = clashes_in c.args.self.now.reductions c.args.self.now.shifts.0 c.args.self.now.productions in
    let n = c.args.self.now.productions in
    fits_by_from_yields_list (λ p. length (f p)) (range_with_len 0 n) c.map.result _
    (YieldsList-from_map _ (λ p. length (f p)) (YieldsList-at c.map.ensures.source (YieldsList-from_range 0 n n refl (omega arith))) c.map.ensures.closure (λ x a q k. search (rules, tests)))
    (omega (arith, joined_sum f 0 n, joined_few f 8256 (up_from 0 n) (λ p. clashes_few _ _ _ p c.args.self.now.few), length-up_from 0 n, c.args.self.now.few))

pub returns : goal.returns
unfolding below
returns c =
    let f = clashes_in c.args.self.now.reductions c.args.self.now.shifts.0 c.args.self.now.productions in
    let n = c.args.self.now.productions in
    let s = sum_by_from_yields_List (λ p. length (f p)) (range_with_len 0 n) c.map.result _ c.sum.ensures.ran
    (YieldsList-from_map _ (λ p. length (f p)) (YieldsList-at c.map.ensures.source (YieldsList-from_range 0 n n refl (omega arith))) c.map.ensures.closure (λ x a q k. search (rules, tests))) in
    (s ∙ joined_sum f 0 n, omega (arith, s, joined_sum f 0 n, joined_few f 8256 (up_from 0 n) (λ p. clashes_few _ _ _ p c.args.self.now.few), length-up_from 0 n, c.args.self.now.few))
