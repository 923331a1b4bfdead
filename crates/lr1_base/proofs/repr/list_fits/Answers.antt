use Rattle.std.proofs.Common.{sym, ne_eqb, ◌∙◌, rules, refl, ap, length, arith}
use Rattle.lr1_base.specs.repr.Listed.{list_is_fit}
use Rattle.lr1_base.proofs.repr.Listed.{odd_unfit}
use Rattle.lr1_base.proofs.repr.Chunks.{all_fit}
use Rattle.lr1_base.proofs.repr.list_fits.Goals as goal

pub returns-then-list-eq0 : goal.returns-then-list-eq0
returns-then-list-eq0 c = let r = c.all.ensures.ran in
    all_fit _ _ c.args.n c.args.t (λ x b q k. (search rules, search rules)) r.0 c.chunks_exact.result r.3.0 c.all.new.self r.1 _ r.2 c.all.result refl c.chunks_exact.ensures.size (omega (arith, ap length c.chunks_exact.ensures.rest)) r.3.1 r.3.2 r.4 r.5 ∙ ap (list_is_fit c.args.n c.args.t) c.chunks_exact.ensures.rest

pub returns-else-list-eq0 : goal.returns-else-list-eq0
returns-else-list-eq0 c = ne_eqb _ _ c.if-list-eq0.false ∙ sym (odd_unfit _ _ _ c.if-list-eq0.false)
