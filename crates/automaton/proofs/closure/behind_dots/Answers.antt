use Rattle.std.proofs.Common.{◌<◌, ◌≤◌, arith, length, sym, ◌∙◌, vec_len}
use Rattle.std.proofs.lemmas.List.{take_all}
use Rattle.std.proofs.lemmas.List.Elements.{All-push}
use Rattle.automaton.proofs.Reached.{leading_fits, behind_push, behind_skip}
use Rattle.automaton.proofs.closure.behind_dots.Goals as goal
use Rattle.automaton.proofs.closure.behind_dots.Goals.{in-Some+in_ok-push, in_default}

pub loop-entry-preserved : goal.loop-entry-preserved
loop-entry-preserved c =
    let i = c.loop-entry.entry-index in
    let inv = c.loop-entry.invariant in
    let g = c.args.grammar.now in
    let kernel = c.args.kernel.now in
    let starts = c.loop-entry.starts.items in
    elim c.match-leading.branch [
      | in-Some+in_ok-push w ↦
          let leads = sym c.leading.ensures ∙ w.in-Some.is in
          rw (w.starts-is, w.in_ok-push.ensures.items)
          (record {
            in_range = All-push (λ n. n < vec_len g.nonterminals) starts _ inv.in_range (leading_fits (vec_len g.terminals) (vec_len g.nonterminals) c.rest.result.now _ c.rest.ensures.fits leads);
            exact = behind_push g kernel starts i _ _ (omega arith) (rw c.rest.ensures.rest at leads) inv.exact;
          })
      | in_default w ↦
          rw w.starts-is
          (record {
            in_range = inv.in_range;
            exact = behind_skip g kernel starts i _ (omega arith) (λ n lead. w.in_default.not-Some n (c.leading.ensures ∙ rw c.rest.ensures.rest lead)) inv.exact;
          })
    ]

pub returns-clause-exact : goal.returns-clause-exact
returns-clause-exact c = let enough : length c.args.kernel.now ≤ c.loop-entry.entry-index = omega arith in rw take_all at c.loop-entry.invariant.exact
