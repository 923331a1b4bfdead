use Rattle.std.proofs.Common.{sym, ap, ◌∙◌, arith}
use Rattle.trace.specs.edge_codes.Kinds.{kind_number}
use Rattle.trace.proofs.edge_codes.Decoded.{code_small, packed_upto, cursor_inside, made-zero, made_one, made_two}
use Rattle.trace.proofs.edge_codes.edge_of.Goals.{in-IntoItem, in-Between, in-FromItem}
use Rattle.trace.proofs.edge_codes.edge_of.Goals as goal

pub of-coded-requires : goal.of-coded-requires
of-coded-requires c = code_small c.requires.1.1.1

pub overflow_add-grammar : goal.overflow_add-grammar
overflow_add-grammar c = let e = c.of-coded.ensures.item.0 in let s = code_small c.requires.1.1.1 in omega arith

pub invariant_of-grammar : goal.invariant_of-grammar
invariant_of-grammar c = record { packed = packed_upto _ c.args.code _ c.requires c.of-coded.ensures.item.0 }

pub cursor_node-requires : goal.cursor_node-requires
cursor_node-requires c =
    let k = sym c.of-coded.ensures.kind ∙ ap kind_number c.in-Between.is in
    record { within = omega arith; index_in_bounds = cursor_inside _ c.args.code _ _ _ c.requires c.of-coded.ensures.item.0 c.of-coded.ensures.item.1 c.owner.ensures (λ z. omega (arith, k, z)) }

pub cursor_node-requires-in-FromItem : goal.cursor_node-requires-in-FromItem
cursor_node-requires-in-FromItem c =
    let k = sym c.of-coded.ensures.kind ∙ ap kind_number c.in-FromItem.is in
    record { within = omega arith; index_in_bounds = cursor_inside _ c.args.code _ _ _ c.requires c.of-coded.ensures.item.0 c.of-coded.ensures.item.1 c.owner.ensures (λ z. omega (arith, k, z)) }

pub returns : goal.returns
returns c = elim c.match-coded.branch [
  | in-IntoItem w ↦
      let k = sym c.of-coded.ensures.kind ∙ ap kind_number w.in-IntoItem.is in
      rw (w.t-12-is, c.nonterminal-owner.ensures, w.item.ensures) (made-zero _ c.args.code _ _ _ c.requires c.of-coded.ensures.item.0 c.of-coded.ensures.item.1 c.owner.ensures k)
  | in-Between w ↦
      let k = sym c.of-coded.ensures.kind ∙ ap kind_number w.in-Between.is in
      rw (w.t-12-is, c.nonterminal-owner.ensures) (made_one _ c.args.code _ _ _ c.requires c.of-coded.ensures.item.0 c.of-coded.ensures.item.1 c.owner.ensures (λ z. omega (arith, k, z)) _ w.cursor_node.ensures k)
  | in-FromItem w ↦
      let k = sym c.of-coded.ensures.kind ∙ ap kind_number w.in-FromItem.is in
      rw (w.t-12-is, w.item-in-FromItem.ensures) (made_two _ c.args.code _ _ _ c.requires c.of-coded.ensures.item.0 c.of-coded.ensures.item.1 c.owner.ensures (λ z. omega (arith, k, z)) _ w.cursor_node-in-FromItem.ensures (λ z. omega (arith, k, z)))
]
