use Rattle.conflicts.proofs.class_words.Laws.{class_read}
use native.Mathlib.Omega.{arith}
use Rattle.conflicts.proofs.class_words.read_class.Goals as goal

pub returns : goal.returns
returns c = class_read _ _ c.args.k _ (omega (arith, c.requires)) c.value_count-own.ensures.0 c.value_count-own.ensures.1 c.copy_from_slice.ensures.after
