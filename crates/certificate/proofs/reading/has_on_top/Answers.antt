use Rattle.std.proofs.Common.{◌≡◌, ◌-◌, length, take, drop, sym, ◌∙◌, arith}
use Rattle.std.proofs.lemmas.Slice.{between_to_end}
use Rattle.certificate.proofs.Steps.{on_top, top_of}
use Rattle.certificate.proofs.reading.has_on_top.Goals as goal

pub returns : goal.returns
returns c =
    let stack = c.args.stack.now in
    let right = c.args.right.now in
    let whole = between_to_end stack (length stack - length right) (length stack) (omega arith) in
    let h = c.is_same_form.ensures in
    (λ t. on_top stack right c.if-right-stack.false (sym whole ∙ h.0 t), λ w. h.1 (whole ∙ top_of stack right w.0 w.1))
