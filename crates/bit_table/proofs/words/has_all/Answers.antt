use Rattle.std.proofs.Common.{ℕ, ◌+◌, get_or, below_more}
use Rattle.bit_table.specs.Bits.{IsOn}
use Rattle.bit_table.proofs.Masks.{or_adds}
use Rattle.bit_table.proofs.words.has_all.Goals as goal

pub loop-k-preserved : goal.loop-k-preserved
loop-k-preserved c k b =
    let i = c.loop-k.k in
    let words = c.args.words.now in
    let other = c.args.other.now in
    below_more (λ (j : ℕ). IsOn other (c.args.from + j) b → IsOn words (c.args.at + j) b) i (λ j l. c.loop-k.invariant j b l)
    (λ on. rw c.if-mine-wanted.false at (or_adds (get_or words (c.args.at + i) 0) (get_or other (c.args.from + i) 0) b on)) k
