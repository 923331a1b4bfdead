use Rattle.std.proofs.Common.{length, ap, ◌∙◌, arith}
use Rattle.lr1_base.specs.lookahead.Tokens.{members}
use Rattle.lr1_base.proofs.lookahead.Members.{members_few}
use Rattle.lr1_tables.proofs.state_conflicts.Counts.{clashes_are, clashes_few}
use Rattle.lr1_tables.proofs.state_conflicts.Actions.count_of.Goals as goal

pub returns : goal.returns
returns c =
    let n = c.args.self.now.productions in
    let e = clashes_are c.args.self.now.reductions c.args.self.now.shifts.0 n c.args.production in
    let l = c.len.ensures ∙ ap (λ s. length (members s)) c.shifts_of.ensures in
    (omega (arith, e, l, c.count_pairs.ensures.0), omega (arith, e, l, c.count_pairs.ensures.0, clashes_few c.args.self.now.reductions c.args.self.now.shifts.0 n c.args.production c.args.self.now.few))

pub overflow_add-result : goal.overflow_add-result
overflow_add-result c = omega (arith, c.len.ensures, members_few c.shifts_of.result.0, c.count_pairs.ensures.1)
