use Rattle.std.proofs.Common.{◌<◌, ◌≤◌, inl, inr, arith, length}
use Rattle.std.proofs.lemmas.List.{take_all}
use Rattle.std.proofs.lemmas.List.Elements.{All-get_or}
use Rattle.automaton.proofs.Listed.{contains_cases}
use Rattle.automaton.proofs.closure.list_rules.Goals as goal

pub loop-n-preserved : goal.loop-n-preserved
loop-n-preserved c =
    let inv = c.loop-n.invariant in
    let i = c.loop-n.n-index in
    let ns = c.args.reached.now in
    let s = c.args.alternatives.now in
    let added = c.in_ok-list_alternatives.ensures in
    record {
      keeps = λ e h. added.keeps e (inv.keeps e h);
      adds = λ n q met rule. elim (contains_cases ns i 0 n (omega arith) met) [
        | inl k ↦ added.keeps _ (inv.adds n q k rule)
        | inr e ↦ rw (← e) (added.adds q (rw c.of.ensures (rw e rule)))
      ];
      in_range = λ rows enough all. added.in_range rows (All-get_or (λ n. n < rows) ns i 0 (omega arith) enough) (inv.in_range rows enough all);
    }

pub returns-clause-adds : goal.returns-clause-adds
returns-clause-adds c = let enough : length c.args.reached.now ≤ c.loop-n.n-index = omega arith in rw take_all at c.loop-n.invariant.adds
