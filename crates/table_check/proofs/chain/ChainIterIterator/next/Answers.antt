use Rattle.std.proofs.Common.{sym, ap, ◌∙◌, arith, length}
use Rattle.table_check.specs.Known.{area}
use Rattle.table.proofs.Chains.{named, chain-none}
use Rattle.table_check.proofs.Steps.{step}
use Rattle.table_check.proofs.chain.ChainIterIterator.next.Goals as goal

pub returns-then-not-names-clause-steps : goal.returns-then-not-names-clause-steps
returns-then-not-names-clause-steps c =
    let s = c.args.self.now in
    let e = chain-none s.surveyed.words.now (area s.area.from s.area.past) _ _ (sym c.names.ensures ∙ c.if-not-names.true) in
    (e, e)

pub word-self-requires : goal.word-self-requires
word-self-requires c =
    let s = c.args.self.now in
    let n = named _ _ _ (sym c.names.ensures ∙ c.if-not-names.false) in
    let A = s.surveyed.of in
    omega (arith, n.early, s.inside, A.words, A.few)

pub returns-clause-steps : goal.returns-clause-steps
returns-clause-steps c =
    let s = c.args.self.now in
    step _ _ _ _ _ (let A = s.surveyed.of in omega (arith, s.inside, A.records)) (sym c.names.ensures ∙ c.if-not-names.false) _ c.word-self.ensures.0

pub returns-clause-goes : goal.returns-clause-goes
returns-clause-goes c =
    let s = c.args.self.now in
    let fewer = ap length (step _ _ _ _ _ (let A = s.surveyed.of in omega (arith, s.inside, A.records)) (sym c.names.ensures ∙ c.if-not-names.false) _ c.word-self.ensures.0) in
    record { on = λ f. (tt, tt, omega (arith, fewer)); keeps = tt; rests = λ f. tt }
