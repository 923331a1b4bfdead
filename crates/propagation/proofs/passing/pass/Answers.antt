use Rattle.std.proofs.Common.{arith}
use Rattle.std.proofs.lemmas.List.Elements.{Contains-get_or}
use Rattle.propagation.proofs.Passed.{passed_sound}
use Rattle.propagation.proofs.passing.pass.Goals as goal

pub returns-then-passed-clause-sound : goal.returns-then-passed-clause-sound
returns-then-passed-clause-sound c start sound =
    passed_sound start c.args.table.now c.add_row-passed.new.self c.args.edges.now _ (Contains-get_or c.args.edges.now c.args.number _ (omega arith)) sound c.add_row-passed.ensures.only
