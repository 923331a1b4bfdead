use Rattle.std.specs.Prelude.{ℕ, ◌*◌, List, take}
use mathlib.Core.Path.{sym, ap, ◌∙◌}
use lib.Seq.{length-take-le}
use Rattle.lr1_base.specs.repr.Listed.{listed}
use Rattle.lr1_base.proofs.repr.Packed.{words_long}
use Rattle.lr1_base.proofs.repr.Parts.{symbols_long}
use Rattle.lr1_base.proofs.item.Items.{prefix_is}
use native.Mathlib.Omega.{arith}
use Rattle.lr1_base.proofs.item.Item.prefix.Goals as goal

pub overflow_mul-result : goal.overflow_mul-result
overflow_mul-result c = let s = symbols_long _ _ _ c.args.grammar.packed c.requires.within in let q = c.args.grammar.packed.short _ c.requires.within in omega (arith, s, q, c.requires.index_in_bounds)

pub slice_bounds-result-end : goal.slice_bounds-result-end
slice_bounds-result-end c =
    let s = symbols_long _ _ _ c.args.grammar.packed c.requires.within in
    let w = words_long _ _ _ c.args.grammar.packed c.requires.within in
    sym (length-take-le (2 * c.args.self.index) _ (rw c.symbols-symbols.ensures (omega (arith, s, w, c.requires.index_in_bounds))))

pub returns : goal.returns
returns c = let e = ap (λ (ws : List ℕ). take (2 * c.args.self.index) ws) c.symbols-symbols.ensures in (e, ap listed e ∙ prefix_is _ _)
