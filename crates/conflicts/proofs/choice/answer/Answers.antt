use Rattle.std.proofs.Common.{rules}
use Rattle.conflicts.proofs.choice.Answered.{answer_choice, answer-whole}
use Rattle.conflicts.proofs.choice.answer.Goals as goal

pub invariant_of-result : goal.invariant_of-result
invariant_of-result c = record { few = c.requires; whole = answer-whole _ _ (search rules) c.requires _ c.copy_entries.ensures }

pub returns : goal.returns
returns c = answer_choice _ _ (search rules) c.requires _ c.copy_entries.ensures
