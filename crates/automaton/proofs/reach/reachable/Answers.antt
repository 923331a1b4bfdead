use Rattle.std.proofs.Common.{◌≡◌, ◌<◌, ◌≤◌, Some, length, refl, ◌∙◌, ap, arith, vec_len}
use Rattle.std.proofs.lemmas.List.{take_all}
use Rattle.std.proofs.lemmas.List.Elements.{All-push, All-pop}
use Rattle.automaton.proofs.Reached.{exploring_none, exploring_start, exploring_more, explored}
use Rattle.automaton.proofs.reach.reachable.Goals as goal

pub loop-n-init : goal.loop-n-init
loop-n-init c =
    let v = c.in_ok-frontier.ensures in
    record {
      len = v.len ∙ c.len.ensures;
      none = c.new-reached.ensures.items;
      exploring = rw v.waiting (exploring_none c.args.grammar.now c.in_ok-frontier.frontier.met.items v.none);
      in_range = λ k d l. absurd (omega (arith, ap length v.waiting, l));
    }

pub loop-n-preserved : goal.loop-n-preserved
loop-n-preserved c =
    let v = c.in_ok-meet.ensures in
    let inv = c.loop-n.invariant in
    record {
      len = v.len ∙ inv.len;
      none = inv.none;
      exploring = exploring_start c.args.grammar.now c.args.starts.now c.loop-n.n-index _ (omega arith) refl v.marked v.keeps v.waits v.stays v.only inv.exploring;
      in_range = v.waiting;
    }

pub visiting-init : goal.visiting-init
visiting-init c =
    let inv = c.loop-n.invariant in
    let enough : length c.args.starts.now ≤ c.loop-n.n-index = omega arith in
    record {
      len = inv.len;
      exploring = rw inv.none (rw take_all at inv.exploring);
      in_range = inv.in_range;
      reached_in_range = λ k d l. absurd (omega (arith, ap length inv.none, l));
    }

pub visiting-preserved : goal.visiting-preserved
visiting-preserved c =
    let v = c.in_ok-meet_leading.ensures in
    let inv = c.visiting.invariant in
    let g = c.args.grammar.now in
    let n = c.in-Some.n in
    let popped = c.in-Some.ensures.items in
    let fits = (All-pop (λ m. m < vec_len c.visiting.frontier.met) c.visiting.frontier.waiting.items c.pop.new.self.items (Some n) popped inv.in_range).1 in
    record {
      len = v.len ∙ inv.len;
      exploring = rw c.in_ok-push.ensures.items
          (exploring_more g c.args.starts.now c.of.result.now n c.pop.new.self.items popped (λ q. rw c.of.ensures (c.requires.alternatives.exact n q)) v.marked v.keeps v.waits v.stays v.only
          inv.exploring);
      in_range = v.waiting;
      reached_in_range = rw c.in_ok-push.ensures.items
          (All-push (λ m. m < vec_len g.nonterminals) c.visiting.reached.items n inv.reached_in_range (omega (arith, fits, inv.len)));
    }

pub returns-clause-exact : goal.returns-clause-exact
returns-clause-exact c =
    let none : vec_len c.visiting.frontier.waiting ≡ 0 = c.in_default.ensures.cases.0 in
    explored c.args.grammar.now c.args.starts.now c.visiting.frontier.met.items c.visiting.frontier.waiting.items c.visiting.reached.items (λ m h. omega (arith, h.1)) c.visiting.invariant.exploring
