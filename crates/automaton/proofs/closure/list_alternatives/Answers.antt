use Rattle.std.proofs.Common.{◌<◌, ◌≤◌, arith, length}
use Rattle.std.proofs.lemmas.List.{take_all}
use Rattle.std.proofs.lemmas.List.Elements.{All-push, Contains-append_left}
use Rattle.automaton.specs.declared.automaton.Entry.{Entry}
use Rattle.automaton.proofs.Listed.{rules_push}
use Rattle.automaton.proofs.closure.list_alternatives.Goals as goal

pub loop-q-preserved : goal.loop-q-preserved
loop-q-preserved c =
    let inv = c.loop-q.invariant in
    let entries = c.loop-q.entries.items in
    rw c.in_ok-push.ensures.items
    (record {
      keeps = λ e h. Contains-append_left entries _ e (inv.keeps e h);
      adds = rules_push entries c.args.productions.now c.loop-q.q-index c.args.left (omega arith) inv.adds;
      in_range = λ rows enough all. All-push (λ (e : Entry). e.tokens < rows) entries _ (inv.in_range rows enough all) enough;
    })

pub returns-clause-adds : goal.returns-clause-adds
returns-clause-adds c = let enough : length c.args.productions.now ≤ c.loop-q.q-index = omega arith in rw take_all at c.loop-q.invariant.adds
