use Rattle.std.proofs.Common.{ℕ, drop, replicate, ap, ◌∙◌, arith, length-take-le}
use lib.ListN.{length-replicate}
use Rattle.std.proofs.lemmas.List.{get_or_append_left, get_or-replicate}
use Rattle.trace.proofs.tails.unlink.Goals as goal

pub slice_bounds-fill-end-2 : goal.slice_bounds-fill-end-2
slice_bounds-fill-end-2 c = omega (arith, length-take-le 32 c.args.links.now (omega (arith, c.requires)))

pub returns : goal.returns
returns c = let zeros = c.fill.ensures.after (λ y e. e) ∙ ap (λ (k : ℕ). replicate k 0) (length-take-le 32 c.args.links.now (omega (arith, c.requires))) in
    λ n h. rw zeros (get_or_append_left (replicate 32 0) (drop 32 c.args.links.now) 0 n (omega (arith, length-replicate {A = ℕ} 32 0)) ∙ get_or-replicate 32 n 0 0 h)
