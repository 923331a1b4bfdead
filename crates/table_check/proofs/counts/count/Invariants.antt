use Rattle.std.proofs.Common.{◌≡◌, ℕ, ◌<◌, min, length, get_or}
use Rattle.lr1_base.specs.repr.Sizes.{index_limit}
use Rattle.table.specs.Decoded.{symbol_chain}
use Rattle.table_check.proofs.counts.count.Given as goal

abbrev pub invariant-loop-p : goal.invariant-loop-p
invariant-loop-p l = (q : ℕ) → q < l.p → get_or l.lengths q 0 ≡ min index_limit (length (symbol_chain l.s.words.now q))
