use Rattle.std.proofs.Common.{◌+◌, ◌≤◌, arith}
use Rattle.output_text.specs.conflict_lines.Lines.{Put}
use Rattle.output_text.specs.table_text.Typed.{symbol_part, item_part, edge_part}
use Rattle.output_text.proofs.table_text.Texts.{symbol-yes, symbol_no, item-yes, item_no, edge_yes, edge_no, loose-put}
use Rattle.output_text.proofs.table_text.put_loose.Goals as goal
use Rattle.output_text.proofs.table_text.put_loose.Goals.{then-roles, else-roles, then-roles-2, else-roles-2, then-roles-3, else-roles-3}

pub returns : goal.returns
returns c =
    let symbol : Put c.args.out.now c.args.at (symbol_part c.args.reached.roles.symbol c.word-one.result c.word-two.result) c.if-roles.out c.if-roles.place × (c.if-roles.place ≤ c.args.at + 50) =
    elim c.if-roles.branch [
      | then-roles w ↦ rw (w.out-is, w.place-is) (symbol-yes _ _ w.if-roles.true w.put_symbol_part-place.ensures.0, w.put_symbol_part-place.ensures.1)
      | else-roles w ↦ (symbol_no _ _ w.if-roles.false w.out-is w.place-is, omega arith)
    ] in
    let item : Put c.if-roles.out c.if-roles.place (item_part c.args.reached.roles.item c.args.reached.grammar.words.now c.word-one.result c.word-two.result) c.if-roles-2.out c.if-roles-2.place × (c.if-roles-2.place ≤ c.if-roles.place + 800) =
    elim c.if-roles-2.branch [
      | then-roles-2 w ↦ rw (w.out-is, w.place-is) (item-yes _ _ _ w.if-roles-2.true w.put_item_part-place.ensures.0, w.put_item_part-place.ensures.1)
      | else-roles-2 w ↦ (item_no _ _ _ w.if-roles-2.false w.out-is w.place-is, omega arith)
    ] in
    let edge : Put c.if-roles-2.out c.if-roles-2.place (edge_part c.args.reached.roles.edge c.word-one.result c.word-two.result c.word-three.result) c.if-roles-3.out c.if-roles-3.place × (c.if-roles-3.place ≤ c.if-roles-2.place + 170) =
    elim c.if-roles-3.branch [
      | then-roles-3 w ↦ rw (w.out-is, w.place-is) (edge_yes _ _ _ w.if-roles-3.true w.put_edge_part-place.ensures.0, w.put_edge_part-place.ensures.1)
      | else-roles-3 w ↦ (edge_no _ _ _ w.if-roles-3.false w.out-is w.place-is, omega arith)
    ] in
    (loose-put _ _ _ _ c.word-one.ensures c.word-two.ensures c.word-three.ensures symbol.0 item.0 edge.0 c.put_unused_part.ensures.0, omega (arith, symbol.1, item.1, edge.1, c.put_unused_part.ensures.1))
