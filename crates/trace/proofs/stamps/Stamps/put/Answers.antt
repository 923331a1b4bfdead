use Rattle.std.proofs.Common.{◌≡◌, ℕ, ◌/◌, set, arith}
use Rattle.trace.specs.Stamps.{stamp_read_at}
use Rattle.trace.proofs.StampLaws.{put_even, put_odd}
use Rattle.trace.proofs.stamps.Stamps.put.Goals.{then-place-eq0, else-place-eq0}
use Rattle.trace.proofs.stamps.Stamps.put.Goals as goal

pub returns : goal.returns
returns c =
    let k = c.place-place.result in
    let ws = c.args.self.now.words in
    let us = set ws (k / 2) c.if-place-eq0.changed in
    let whole : (stamp_read_at us k ≡ c.args.stamp) × ((j : ℕ) → (j ≡ k → ⊥) → stamp_read_at us j ≡ stamp_read_at ws j) = elim c.if-place-eq0.branch [
      | then-place-eq0 w ↦ put_even ws _ _ (omega (arith, c.place-place.ensures.within)) _ _ c.word-both.ensures.0 c.requires.2 w.if-place-eq0.true w.changed-is
      | else-place-eq0 w ↦ put_odd ws _ _ (omega (arith, c.place-place.ensures.within)) _ _ c.word-both.ensures.0 c.requires.2 w.if-place-eq0.false w.changed-is
    ] in
    rw (← c.place-place.ensures.is) (record { index_after = whole.0; by_index = whole.1 })
