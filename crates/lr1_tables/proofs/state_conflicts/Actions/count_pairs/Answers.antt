use Rattle.std.proofs.Common.{ℕ, ◌+◌, ◌-◌, length, get_or, refl, ◌∙◌, arith, rules, tests}
use Rattle.std.specs.List.{range_with_len}
use Rattle.std.proofs.lemmas.Iterator.{YieldsList-from_range, YieldsList-from_map}
use Rattle.std.proofs.lemmas.Iterator.Consumers.{YieldsList-at, sum_by_from_yields_List, fits_by_from_yields_list}
use Rattle.lr1_base.specs.lookahead.Tokens.{meet, members}
use Rattle.lr1_tables.proofs.state_conflicts.Counts.{pair_sum, pairs_few}
use Rattle.lr1_tables.proofs.state_conflicts.Actions.count_pairs.Goals as goal

pub sum-requires-clause-fits : goal.sum-requires-clause-fits
sum-requires-clause-fits c =
    let r = c.args.self.now.reductions in
    let p = c.args.production in
    let n : ℕ = c.args.self.now.productions - (c.args.production + 1) in
    fits_by_from_yields_list (λ q. length (members (meet (get_or r p 0) (get_or r q 0)))) (range_with_len (p + 1) n) c.map.result _
    (YieldsList-from_map _ (λ q. length (members (meet (get_or r p 0) (get_or r q 0)))) (YieldsList-at c.map.ensures.source (YieldsList-from_range _ _ _ refl refl)) c.map.ensures.closure (λ x a q k. search (rules, tests)))
    (omega (arith, pair_sum r p (p + 1) n, pairs_few r p (p + 1) n, c.args.self.now.few))

pub returns : goal.returns
returns c =
    let r = c.args.self.now.reductions in
    let p = c.args.production in
    let n : ℕ = c.args.self.now.productions - (c.args.production + 1) in
    let s = sum_by_from_yields_List (λ q. length (members (meet (get_or r p 0) (get_or r q 0)))) (range_with_len (p + 1) n) c.map.result _ c.sum.ensures.ran
    (YieldsList-from_map _ (λ q. length (members (meet (get_or r p 0) (get_or r q 0)))) (YieldsList-at c.map.ensures.source (YieldsList-from_range _ _ _ refl refl)) c.map.ensures.closure (λ x a q k. search (rules, tests))) in
    (s ∙ pair_sum r p (p + 1) n, omega (arith, s, pair_sum r p (p + 1) n, pairs_few r p (p + 1) n, c.args.self.now.few))
