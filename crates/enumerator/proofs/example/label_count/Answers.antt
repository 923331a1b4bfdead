use native.Mathlib.Omega.{arith}
use Rattle.enumerator.proofs.example.LabelList.{label_count}
use Rattle.enumerator.proofs.example.label_count.Goals as goal

pub returns : goal.returns
returns c = (label_count _, omega arith)
