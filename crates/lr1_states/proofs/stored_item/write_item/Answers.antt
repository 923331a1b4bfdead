use Rattle.std.proofs.Common.{◌∙◌}
use Rattle.lr1_states.proofs.stored_item.Stored.{put_part}
use Rattle.lr1_states.proofs.stored_item.write_item.Goals as goal

pub returns : goal.returns
returns c = put_part _ _ _ _ _ c.requires.1 (c.copy_from_slice.ensures.after ∙ c.words.ensures)
