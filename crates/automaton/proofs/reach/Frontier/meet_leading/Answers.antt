use Rattle.std.proofs.Common.{◌≤◌, length, sym, ◌∙◌, arith, vec_len}
use Rattle.std.proofs.lemmas.List.{take_all}
use Rattle.automaton.proofs.Reached.{leading_fits, meeting_more, meeting_none}
use Rattle.automaton.proofs.reach.Frontier.meet_leading.Goals as goal
use Rattle.automaton.proofs.reach.Frontier.meet_leading.Goals.{in-Some+in_ok-meet, in_default}

pub meet-requires-clause-n : goal.meet-requires-clause-n
meet-requires-clause-n c =
    let g = c.args.grammar.now in
    let fits = leading_fits (vec_len g.terminals) (vec_len g.nonterminals) c.rest.result.now c.in-Some.m c.rest.ensures.fits (sym c.leading.ensures ∙ c.in-Some.is) in
    omega (arith, fits, c.loop-q.invariant.len, c.requires.met)

pub loop-q-preserved : goal.loop-q-preserved
loop-q-preserved c =
    let i = c.loop-q.q-index in
    let inv = c.loop-q.invariant in
    let g = c.args.grammar.now in
    let qs = c.args.productions.now in
    elim c.match-leading.branch [
      | in-Some+in_ok-meet w ↦
          let v = w.in_ok-meet.ensures in
          let leads = rw c.rest.ensures.rest at (sym c.leading.ensures ∙ w.in-Some.is) in
          rw w.self-is
          (record {
            len = v.len ∙ inv.len;
            meeting = meeting_more g qs i w.in-Some.m (omega arith) leads v.marked v.keeps v.waits v.stays v.only inv.meeting;
            in_range = v.waiting;
            size = v.size ∙ inv.size;
          })
      | in_default w ↦
          rw w.self-is
          (record {
            len = inv.len;
            meeting = meeting_none g qs i (omega arith) (λ m lead. w.in_default.not-Some m (c.leading.ensures ∙ rw c.rest.ensures.rest lead)) inv.meeting;
            in_range = inv.in_range;
            size = inv.size;
          })
    ]

pub returns-clause-marked : goal.returns-clause-marked
returns-clause-marked c =
    let enough : length c.args.productions.now ≤ c.loop-q.q-index = omega arith in (rw take_all at c.loop-q.invariant.meeting).marked

pub returns-clause-keeps : goal.returns-clause-keeps
returns-clause-keeps c = c.loop-q.invariant.meeting.keeps

pub returns-clause-waits : goal.returns-clause-waits
returns-clause-waits c = c.loop-q.invariant.meeting.waits

pub returns-clause-stays : goal.returns-clause-stays
returns-clause-stays c = c.loop-q.invariant.meeting.stays

pub returns-clause-only : goal.returns-clause-only
returns-clause-only c =
    let enough : length c.args.productions.now ≤ c.loop-q.q-index = omega arith in (rw take_all at c.loop-q.invariant.meeting).only
