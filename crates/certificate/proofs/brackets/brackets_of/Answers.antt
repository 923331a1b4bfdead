use Rattle.std.proofs.Common.{◌≡◌, ℕ, ◌+◌, ◌-◌, ◌≤◌, take, drop, length, get_or, refl, sym, ◌∙◌, ap, arith, ◌∷◌, [], ◌++◌}
use Rattle.std.proofs.lemmas.List.{take_more, take_all}
use Rattle.std.proofs.lemmas.List.Sums.{count_by_more_yes, count_by_more_no}
use Rattle.certificate.specs.declared.reading.Action.{Action}
use Rattle.certificate.specs.declared.reading.Action.TheVariants.{Shift, Reduce}
use Rattle.certificate.specs.Readings.{is_shift, shifts_of}
use Rattle.certificate.specs.Brackets.{actions_of}
use Rattle.certificate.proofs.Runs.{shifts-reads}
use Rattle.certificate.proofs.Rows.{told_start, told_shift, told_reduce, told_all, shows_start, shows_shift, shows_reduce}
use Rattle.certificate.proofs.Steps.{next_action}
use Rattle.certificate.proofs.brackets.brackets_of.Goals as goal
use Rattle.certificate.proofs.brackets.brackets_of.Goals.{in-Shift+in_ok-push-in-Shift, in-Reduce+in_ok-push-in-Reduce+in_ok-push-in-Reduce-2}

pub loop-action-init : goal.loop-action-init
loop-action-init c = record {
  read = refl;
  told = rw c.new-brackets.ensures.items told_start;
  shows = λ form x h. rw (c.new-brackets.ensures.items, c.new-starts.ensures.items) (shows_start c.args.grammar.now.productions.items c.args.actions.now form x h);
}

pub loop-action-preserved : goal.loop-action-preserved
loop-action-preserved c =
    let ps = c.args.grammar.now.productions.items in
    let actions = c.args.actions.now in
    let i = c.loop-action.action-index in
    let within = c.loop-action-test.true in
    let inv = c.loop-action.invariant in
    let read = c.loop-action.read in
    let starts = c.loop-action.starts.items in
    let brackets = c.loop-action.brackets.items in
    elim c.match-action.branch [
      | in-Shift+in_ok-push-in-Shift w ↦
          let next = next_action actions i Shift Shift within w.in-Shift.is in
          let upto = take_more actions i Shift within ∙ ap (λ (y : Action). take i actions ++ y ∷ []) w.in-Shift.is in
          record {
            read = rw w.read-is (ap (λ (n : ℕ). n + 1) inv.read ∙ sym (count_by_more_yes is_shift actions i Shift within (ap is_shift w.in-Shift.is)));
            told = rw (w.read-is, w.brackets-is, upto) (told_shift (take i actions) read brackets inv.told);
            shows = λ form x h. rw (w.starts-is, w.brackets-is, w.in_ok-push-in-Shift.ensures.items) (shows_shift ps actions form x i read starts brackets next upto inv.read (inv.shows form x h));
          }
      | in-Reduce+in_ok-push-in-Reduce+in_ok-push-in-Reduce-2 w ↦
          let k = w.in-Reduce.production in
          let below = w.saturating_sub-below.result in
          let from = w.number_at-from.result in
          let next = next_action actions i Shift (Reduce k) within w.in-Reduce.is in
          let upto = take_more actions i Shift within ∙ ap (λ (y : Action). take i actions ++ y ∷ []) w.in-Reduce.is in
          record {
            read = rw w.read-is (inv.read ∙ sym (count_by_more_no is_shift actions i Shift within (ap is_shift w.in-Reduce.is)));
            told = rw (w.read-is, w.brackets-is, upto, w.in_ok-push-in-Reduce-2.ensures.items) (told_reduce (take i actions) k from read brackets inv.told);
            shows = λ form x h.
                rw (w.starts-is, w.brackets-is, w.in_ok-push-in-Reduce-2.ensures.items, w.in_ok-push-in-Reduce.ensures.items, w.truncate.ensures.items)
                (shows_reduce ps actions form x i k below from read starts brackets next upto
                (λ p listed. omega (arith, w.saturating_sub-below.ensures, w.len.ensures, w.width_of.ensures p listed, c.loop-action.starts.ok.0)) inv.read
                (rw w.as_slice.ensures.value at w.number_at-from.ensures) (inv.shows form x h));
          }
    ]

pub returns : goal.returns
returns c form x h =
    let ps = c.args.grammar.now.productions.items in
    let actions = c.args.actions.now in
    let brackets = c.loop-action.brackets.items in
    let i = c.loop-action.action-index in
    let enough : length actions ≤ i = c.loop-action-test.false in
    let all : take i actions ≡ actions = take_all i actions enough in
    let inv = c.loop-action.invariant in
    let count : length form ≡ c.loop-action.read = sym (shifts-reads ps actions [] form (x ∷ []) h) ∙ ap shifts_of (sym all) ∙ sym inv.read in
    record {
      said = ap (actions_of brackets 0) count ∙ told_all (take i actions) c.loop-action.read brackets inv.told ∙ all;
      over = (inv.shows form x h).over;
    }
