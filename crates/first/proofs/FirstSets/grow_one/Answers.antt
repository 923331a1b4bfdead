use mathlib.Core.Path.{refl, ap, ◌∙◌}
use Rattle.lr1_base.specs.repr.Sizes.{nonterminal_limit, terminal_limit}
use Rattle.lr1_base.specs.repr.Listed.{list_is_fit}
use Rattle.first.proofs.Rounds.{one_grown}
use native.Mathlib.Omega.{arith}
use Rattle.first.proofs.FirstSets.grow_one.Goals as goal

pub end_marked-lookahead-requires : goal.end_marked-lookahead-requires
end_marked-lookahead-requires c = ap (list_is_fit nonterminal_limit terminal_limit) c.symbols.ensures ∙ c.args.grammar.packed.fits _ c.requires

pub bounds-self-nonterminal : goal.bounds-self-nonterminal
bounds-self-nonterminal c = omega (arith, c.args.grammar.packed.owner _ c.requires, c.owner-nonterminal.ensures)

pub bounds-self-nonterminal-2 : goal.bounds-self-nonterminal-2
bounds-self-nonterminal-2 c = omega (arith, c.args.grammar.packed.owner _ c.requires, c.owner-nonterminal.ensures)

pub returns : goal.returns
returns c =
    let r = one_grown _ _ _ _ _ _ _ _ _ (omega (arith, c.args.grammar.packed.owner _ c.requires, c.owner-nonterminal.ensures)) c.owner-nonterminal.ensures c.symbols.ensures c.end_marked-lookahead.ensures c.union_with-changed.ensures.is c.union_with-changed.ensures.changed in
    (r.0, r.1, refl)
