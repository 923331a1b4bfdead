use Rattle.std.proofs.Common.{◌≡◌, ◌+◌, ◌≤◌, false, true, drop, length, refl, sym, ◌∙◌, ◌∷◌, [], arith}
use Rattle.std.proofs.lemmas.Option.{slice_get_read}
use Rattle.grammar.specs.declared.symbol.Symbol.TheVariants.{Terminal}
use Rattle.certificate.specs.declared.reading.Action.TheVariants.{Shift, Reduce}
use Rattle.certificate.proofs.Steps.{Goes, at_action, next_symbol, goes_shift, goes_reduce, stuck_past, stuck_other}
use Rattle.certificate.proofs.reading.is_reading.Goals as goal
use Rattle.certificate.proofs.reading.is_reading.Goals.{in-Shift+else-read-form+in_ok-push-in-Shift, in-Reduce+else-k-len+in_ok-reduce-in-Reduce+else-not-branch}

pub returns-then-k-len : goal.returns-then-k-len
returns-then-k-len c =
    let ps = c.args.grammar.now.productions.items in
    let all = c.args.actions.now in
    let i = c.loop-action.action-index in
    let stack = c.loop-action.stack.items in
    let rest = drop c.loop-action.read c.args.form.now in
    let past : length ps ≤ c.in-Reduce.k = omega (arith, c.if-k-len.true) in
    let goes = at_action ps all c.args.form.now i Shift (Reduce c.in-Reduce.k) stack rest c.loop-action.invariant.goes c.loop-action-test.true c.in-Reduce.is in
    (λ (h : false ≡ true). cc, λ r. absurd (stuck_past ps all c.args.form.now (drop (i + 1) all) c.in-Reduce.k stack rest past goes _ r))

pub returns-then-not-branch : goal.returns-then-not-branch
returns-then-not-branch c =
    let ps = c.args.grammar.now.productions.items in
    let all = c.args.actions.now in
    let i = c.loop-action.action-index in
    let stack = c.loop-action.stack.items in
    let rest = drop c.loop-action.read c.args.form.now in
    let p = c.index.result.now in
    let goes = at_action ps all c.args.form.now i Shift (Reduce c.in-Reduce.k) stack rest c.loop-action.invariant.goes c.loop-action-test.true c.in-Reduce.is in
    let listed = slice_get_read ps _ c.in-Reduce.k p refl (omega (arith, c.if-k-len.false)) c.index.ensures in (
      λ (h : false ≡ true). cc,
      λ r. absurd (stuck_other ps all c.args.form.now (drop (i + 1) all) c.in-Reduce.k p stack rest listed
          (λ below e. let yes = c.in_ok-reduce-in-Reduce.ensures.on_top below e in let no = c.if-not-branch.true in cc) goes _ r),
    )

pub loop-action-preserved : goal.loop-action-preserved
loop-action-preserved c =
    let ps = c.args.grammar.now.productions.items in
    let all = c.args.actions.now in
    let form = c.args.form.now in
    let i = c.loop-action.action-index in
    let stack = c.loop-action.stack.items in
    let read = c.loop-action.read in
    let rest = drop read form in
    elim c.match-action.branch [
      | in-Shift+else-read-form+in_ok-push-in-Shift w ↦
          let goes = at_action ps all form i Shift Shift stack rest c.loop-action.invariant.goes c.loop-action-test.true w.in-Shift.is in
          record {
            within = rw w.read-is (omega (arith, w.if-read-form.false));
            goes = rw (w.stack-is, w.read-is, w.in_ok-push-in-Shift.ensures.items)
                (goes_shift ps all form (drop (i + 1) all) stack _ (drop (read + 1) form) (rw (next_symbol form read (Terminal 0) w.if-read-form.false) at goes));
          }
      | in-Reduce+else-k-len+in_ok-reduce-in-Reduce+else-not-branch w ↦
          let k = w.in-Reduce.k in
          let p = w.index.result.now in
          let goes = at_action ps all form i Shift (Reduce k) stack rest c.loop-action.invariant.goes c.loop-action-test.true w.in-Reduce.is in
          let listed = slice_get_read ps _ k p refl (omega (arith, w.if-k-len.false)) w.index.ensures in
          let reduced = w.in_ok-reduce-in-Reduce.ensures.reduced w.if-not-branch.false in
          record {
            within = rw w.read-is c.loop-action.invariant.within;
            goes = rw (w.stack-is, w.read-is, reduced.2) (goes_reduce ps all form (drop (i + 1) all) k p stack reduced.0 rest listed reduced.1 goes);
          }
    ]
