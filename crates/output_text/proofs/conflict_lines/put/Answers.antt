use Rattle.output_text.proofs.conflict_lines.Laws.{put_one}
use Rattle.output_text.proofs.conflict_lines.put.Goals as goal

pub returns : goal.returns
returns c = put_one _ _ _ c.requires
