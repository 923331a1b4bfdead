use Rattle.std.proofs.Common.{ap, ◌∙◌}
use Rattle.table.specs.Decoded.{productions_from}
use Rattle.table.specs.Index.{ProductionRead}
use Rattle.table.proofs.Written.{productions_end}
use Rattle.conflicts.proofs.judgement.Ways.{cons_same, first_two, two_all, question_left, question_many, question_none, question_one, question_right}
use Rattle.conflicts.proofs.judgement.Sides.{reads_grammar}
use Rattle.conflicts.proofs.judgement.try_classify_question.Goals as goal

pub optional-requires : goal.optional-requires
optional-requires c =
    let two = first_two c.productions-productions.ensures.0 c.in_ok-p.ensures.steps.0 c.in_ok-p.ensures.steps.1.1 c.in_ok-q.ensures.steps.1.1 in
    rw c.args.given.reads.many two.fits

pub returns-in_err-p : goal.returns-in_err-p
returns-in_err-p c =
    let t = c.args.given.table.words.now in
    rw c.from_residual.ensures (question_none t _ _ c.args.given.table.accepted (reads_grammar _ _ _ _ _ _ _ c.args.given.reads) c.args.nonterminal _ c.productions-productions.ensures.1 (ap (productions_from t) c.in_err-p.ensures.steps.1 ∙ productions_end t))

pub returns-in_err-q : goal.returns-in_err-q
returns-in_err-q c =
    let t = c.args.given.table.words.now in
    let P : ProductionRead t _ _ _ = rw c.productions-productions.ensures.0 at c.in_ok-p.ensures.steps.1.1 in
    rw c.from_residual-in_err-q.ensures (question_one t _ _ c.args.given.table.accepted (reads_grammar _ _ _ _ _ _ _ c.args.given.reads) c.args.nonterminal _ c.productions-productions.ensures.1 _ (P.list ∙ cons_same (ap (productions_from t) c.in_err-q.ensures.steps.1 ∙ productions_end t)))

pub returns-in-Some : goal.returns-in-Some
returns-in-Some c =
    let t = c.args.given.table.words.now in
    let two = first_two c.productions-productions.ensures.0 c.in_ok-p.ensures.steps.0 c.in_ok-p.ensures.steps.1.1 c.in_ok-q.ensures.steps.1.1 in
    let R : ProductionRead t _ _ _ = rw (c.in_ok-q.ensures.steps.0 ∙ c.in_ok-p.ensures.steps.0 ∙ c.productions-productions.ensures.0) at c.in-Some.ensures.steps.1.1 in
    question_many t _ _ c.args.given.table.accepted (reads_grammar _ _ _ _ _ _ _ c.args.given.reads) c.args.nonterminal _ c.productions-productions.ensures.1 _ _ _ _ (two.list ∙ cons_same (cons_same R.list))

pub returns-in-None : goal.returns-in-None
returns-in-None c =
    let two = first_two c.productions-productions.ensures.0 c.in_ok-p.ensures.steps.0 c.in_ok-p.ensures.steps.1.1 c.in_ok-q.ensures.steps.1.1 in
    question_right _ _ _ c.args.given.table.accepted (reads_grammar _ _ _ _ _ _ _ c.args.given.reads) c.args.nonterminal _ c.productions-productions.ensures.1 _ _ (two_all two c.in_default.ensures.steps.1) _ _ c.in-None.is c.optional.ensures c.optional-in-None.ensures

pub returns-in_default-optional : goal.returns-in_default-optional
returns-in_default-optional c =
    let two = first_two c.productions-productions.ensures.0 c.in_ok-p.ensures.steps.0 c.in_ok-p.ensures.steps.1.1 c.in_ok-q.ensures.steps.1.1 in
    question_left _ _ _ c.args.given.table.accepted (reads_grammar _ _ _ _ _ _ _ c.args.given.reads) c.args.nonterminal _ c.productions-productions.ensures.1 _ _ (two_all two c.in_default.ensures.steps.1) _ c.in_default-optional.not-None c.optional.ensures
