use Rattle.std.proofs.Common.{◌≡◌, ℕ, ◌+◌, List, length, get_or, set, refl, ap, ◌∙◌, arith, length-set}
use lib.Seq.{paste, paste-zero}
use Rattle.enumerator.proofs.example.Copied.{copied_more, copied_all}
use Rattle.enumerator.proofs.example.copy.Goals as goal

pub loop-i-init : goal.loop-i-init
loop-i-init c = (paste-zero c.args.buffer.now c.args.at c.args.from.now, refl)

pub loop-i-preserved : goal.loop-i-preserved
loop-i-preserved c = let i = c.loop-i.i in (
  ap (λ (b : List ℕ). set b (c.args.at + i) (get_or c.args.from.now i 0)) c.loop-i.invariant.0
      ∙ copied_more c.args.buffer.now c.args.at c.args.from.now i (omega (arith, c.loop-i-test.true, c.requires)) c.loop-i-test.true,
  (simp length-set c.loop-i.invariant.1),
)

pub returns : goal.returns
returns c = let e : c.loop-i.i ≡ length c.args.from.now = omega (arith, c.loop-i-test.false, c.loop-i.invariant) in
    c.loop-i.invariant.0 ∙ ap (λ (k : ℕ). paste c.args.buffer.now c.args.at c.args.from.now k) e ∙ copied_all c.args.buffer.now c.args.at c.args.from.now
