use Rattle.std.proofs.Common.{ℕ, ◌/◌, ◌%◌, sym, ap, ◌∙◌}
use Rattle.trace.specs.Stamps.{stamp_read_at}
use Rattle.trace.proofs.StampLaws.{stamp_even, stamp_odd}
use Rattle.trace.proofs.stamps.Stamps.at.Goals as goal

pub returns-then-place-eq0 : goal.returns-then-place-eq0
returns-then-place-eq0 c = ap (λ (x : ℕ). x % 256) c.word-both.ensures.0 ∙ sym (stamp_even _ _ c.if-place-eq0.true) ∙ ap (stamp_read_at c.args.self.now.words) c.place-place.ensures.is

pub returns-else-place-eq0 : goal.returns-else-place-eq0
returns-else-place-eq0 c = ap (λ (x : ℕ). x / 256) c.word-both.ensures.0 ∙ sym (stamp_odd _ _ c.if-place-eq0.false) ∙ ap (stamp_read_at c.args.self.now.words) c.place-place.ensures.is
