use Rattle.std.proofs.Common.{◌≡◌, ◌+◌, ◌-◌, take, drop, ◌∙◌, arith, rules, tests}
use Rattle.std.proofs.lemmas.Iterator.{YieldsList-from_slice}
use Rattle.std.proofs.lemmas.Iterator.Adapters.{serves_from_places}
use Rattle.std.proofs.lemmas.Iterator.Search.{any_from_yields_List}
use Rattle.enumerator.proofs.trials.Stepping.{ends, comes, uses_any}
use Rattle.enumerator.proofs.trials.Holding.{uses_edge}
use Rattle.enumerator.proofs.trials.machine.Graph.uses.Goals as goal

pub any-requires-clause-callable : goal.any-requires-clause-callable
any-requires-clause-callable c =
    let n : c.args.depth + 1 - 1 ≡ c.args.depth = omega arith in
    serves_from_places (YieldsList-from_slice (take c.args.depth (drop 1 c.args.words.now)) (rw n at c.iter.ensures.rest)) (λ x q k. search rules) (λ x k h e. let b = uses_edge c.args.words.now c.args.depth c.requires.within k x.now h e in search rules)

pub returns : goal.returns
returns c =
    let n : c.args.depth + 1 - 1 ≡ c.args.depth = omega arith in
    any_from_yields_List (comes (ends c.args.self.words.now) c.args.nonterminal) _ _ _ c.any.ensures.ran (YieldsList-from_slice (take c.args.depth (drop 1 c.args.words.now)) (rw n at c.iter.ensures.rest)) (λ x b q k. search (rules, tests))
    ∙ uses_any (ends c.args.self.words.now) c.args.nonterminal c.args.words.now c.args.depth
