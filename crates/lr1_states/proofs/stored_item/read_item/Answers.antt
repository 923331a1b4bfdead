use Rattle.std.proofs.Common.{◌∙◌}
use Rattle.lr1_states.proofs.stored_item.Stored.{entry_part}
use Rattle.lr1_states.proofs.stored_item.read_item.Goals as goal

pub returns : goal.returns
returns c = (c.of.ensures.0 ∙ entry_part _ _, c.of.ensures.1)
