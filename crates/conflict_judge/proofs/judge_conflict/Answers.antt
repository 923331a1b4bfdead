use Rattle.conflict_judge.specs.Real.{fork_of}
use Rattle.conflict_judge.proofs.Items.{real_of}
use Rattle.conflict_judge.proofs.judge_conflict.Goals as goal

pub returns-clause-real : goal.returns-clause-real
returns-clause-real c =
    real_of c.args.grammar.now (fork_of c.args.conflict) c.judge.result (rw c.fork_of.ensures at c.judge.ensures.ambiguous) (rw c.fork_of.ensures at c.judge.ensures.two_inputs)
