use Rattle.std.proofs.Common.{sym, arith, length-take-le}
use Rattle.item_sets.proofs.words.front.Goals as goal

pub slice_bounds-result-end : goal.slice_bounds-result-end
slice_bounds-result-end c = sym (length-take-le _ _ (omega arith))
