use Rattle.std.proofs.Common.{◌∙◌}
use Rattle.trace.proofs.Linking.{usable_none, none_collected, usable_put}
use Rattle.trace.proofs.tails.fill.Goals as goal

pub link-requires : goal.link-requires
link-requires c = (c.requires.on.0, (_, none_collected _ _ (c.collect-listed.auto.records ∙ c.requires.records_len.0) _ _ c.in-Some.ensures), c.requires.records_len.1)

pub returns-in-Some : goal.returns-in-Some
returns-in-Some c = usable_put _ _ (c.collect-listed.auto.records ∙ c.requires.records_len.0) _ _ c.in-Some.ensures _ c.link.ensures

pub returns-in_default : goal.returns-in_default
returns-in_default c = usable_none _ c.collect-listed.new.records (c.collect-listed.auto.records ∙ c.requires.records_len.0) _
