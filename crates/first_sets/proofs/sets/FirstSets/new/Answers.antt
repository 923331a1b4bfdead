use Rattle.first_sets.proofs.Textbook.{textbook, closed_listed}
use Rattle.first_sets.proofs.sets.FirstSets.new.Goals as goal

pub returns-clause-exact : goal.returns-clause-exact
returns-clause-exact c =
    let list = c.as_slice-productions.ensures.value in
    let ps = c.args.grammar.now.productions.items in
    textbook ps c.round.new.self ((rw list at c.round.ensures.sound) c.loop-productions.invariant.sound)
    (closed_listed ps c.round.new.self (rw list at c.loop-productions-test.ensures.closed))
