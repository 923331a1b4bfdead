use Rattle.std.proofs.Common.{length, ap, ◌∙◌}
use Rattle.lr1_states.specs.canonical.States.{clashes}
use Rattle.lr1_tables.proofs.sizes.count_at.Goals as goal

pub returns : goal.returns
returns c = (c.count_state.ensures.0, λ s. c.count_state.ensures.1 s.T _ _ s.grammar ∙ ap (λ S. length (clashes s.T S)) (c.state.ensures.is s))
