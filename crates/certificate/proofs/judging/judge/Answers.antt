use Rattle.std.proofs.Common.{◌≡◌, sym, ◌∙◌}
use Rattle.certificate.proofs.Inputs.{two_parses, two_inputs}
use Rattle.certificate.proofs.judging.judge.Goals as goal

pub returns-then-is_same_form-clause-ambiguous : goal.returns-then-is_same_form-clause-ambiguous
returns-then-is_same_form-clause-ambiguous c e =
    let same = sym c.as_slice-tail.ensures.value ∙ c.is_same_form.ensures.0 c.if-is_same_form.true ∙ c.as_slice.ensures.value in
    two_parses c.args.grammar.now.productions.items c.args.fork c.args.certificate.now (c.in_ok-is_shown.ensures.0 c.if-not-branch.false) same

pub returns-else-is_same_form-clause-two_inputs : goal.returns-else-is_same_form-clause-two_inputs
returns-else-is_same_form-clause-two_inputs c e =
    two_inputs c.args.grammar.now.productions.items c.args.fork c.args.certificate.now (c.in_ok-is_shown.ensures.0 c.if-not-branch.false)
