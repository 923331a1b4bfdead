use Rattle.certificate.proofs.Growth.{productive_exact}
use Rattle.certificate.proofs.useful.productive_of.Goals as goal

pub returns : goal.returns
returns c n =
    let list = c.as_slice-productions.ensures.value in
    let ps = c.args.grammar.now.productions.items in
    productive_exact c.grow_all.new.set ps (rw list at c.loop-productions-test.ensures.closed) ((rw list at c.grow_all.ensures.sound) c.loop-productions.invariant.sound) n
