use Rattle.explainer.proofs.AllTold.{tells_all}
use Rattle.explainer.proofs.finding.find.Goals as goal

pub returns-clause-tells_all : goal.returns-clause-tells_all
returns-clause-tells_all c =
    let a = c.in_ok-analysis.analysis in
    tells_all c.args.grammar.now c.args.uses_precedence a.automaton a.clashes.items c.in_ok-report.report
    c.in_ok-report.ensures.shows c.in_ok-report.ensures.settles c.in_ok-analysis.ensures.nothing_missed
