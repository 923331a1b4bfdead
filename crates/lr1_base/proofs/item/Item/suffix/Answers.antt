use Rattle.std.specs.Prelude.{ℕ, ◌+◌, ◌*◌, List, drop}
use mathlib.Core.Path.{ap, ◌∙◌}
use Rattle.lr1_base.specs.repr.Listed.{listed}
use Rattle.lr1_base.proofs.repr.Parts.{symbols_long}
use Rattle.lr1_base.proofs.item.Items.{suffix_is, tail_from}
use native.Mathlib.Omega.{arith}
use Rattle.lr1_base.proofs.item.Item.suffix.Goals as goal

pub overflow_mul-from : goal.overflow_mul-from
overflow_mul-from c = let s = symbols_long _ _ _ c.args.grammar.packed c.requires.within in let q = c.args.grammar.packed.short _ c.requires.within in omega (arith, s, q, c.requires.index_in_bounds)

pub overflow_add-from : goal.overflow_add-from
overflow_add-from c = let s = symbols_long _ _ _ c.args.grammar.packed c.requires.within in let q = c.args.grammar.packed.short _ c.requires.within in omega (arith, s, q, c.requires.index_in_bounds)

pub returns : goal.returns
returns c = let e = tail_from c.symbols-symbols.result.now (2 * c.args.self.index + 2) _ c.min.ensures ∙ ap (λ (ws : List ℕ). drop (2 * c.args.self.index + 2) ws) c.symbols-symbols.ensures in (e, ap listed e ∙ suffix_is _ _)
