use Rattle.table_check.proofs.Sizes.{whole_of}
use native.Mathlib.Omega.{arith}
use Rattle.table_check.proofs.areas.bad_counts.Goals as goal

pub of-counts-requires : goal.of-counts-requires
of-counts-requires c = let w = whole_of _ c.requires in omega arith
