-- Exit statuses.
use Rattle.std.specs.Prelude.{ℕ}
use Rattle.explainer.specs.declared.status.Status.{Status}
use Rattle.explainer.specs.declared.status.Status.TheVariants.{Expected, Conflicts, Unread, Limited, Failed}

abbrev pub number_of : Status → ℕ
number_of Expected = 0
number_of Conflicts = 1
number_of Unread = 2
number_of Limited = 3
number_of Failed = 4
