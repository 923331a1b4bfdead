use native.Mathlib.Omega.{arith}
use mathlib.Core.Path.{ap, ◌∙◌}
use Prim.Native.Nat.{◌+◌, ◌*◌, ◌%◌}
use Rattle.std.proofs.Common.{rules}
use Rattle.std.proofs.lemmas.Iterator.{YieldsList-from_slice}
use Rattle.std.proofs.lemmas.Iterator.Consumers.{fold_from_yields_List}
use Rattle.yacc_reader.specs.names.Names.{bucket_number}
use Rattle.yacc_reader.proofs.names.Laws.{mixed_fold, bucket_is}
use Rattle.yacc_reader.proofs.names.bucket_of.Goals as goal

pub returns : goal.returns
returns c =
    let name = c.bytes-name.result.now in
    let e = fold_from_yields_List _ (λ a b. (a * 211 + b) % 65536) _ _ c.fold-sum.ensures.ran (YieldsList-from_slice name c.iter.ensures.rest) (λ a x b q k. search rules) in
    (bucket_is _ _ (c.from.ensures ∙ e ∙ mixed_fold name 0) ∙ ap bucket_number c.bytes-name.ensures, omega arith)
