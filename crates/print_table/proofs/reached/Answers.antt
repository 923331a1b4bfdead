use Rattle.std.proofs.Common.{ℕ, ◌≡◌, ◌∙◌, sym, true, List, arith}
use Rattle.lr1_base.specs.repr.Packed.{Packed, productions_in}
use Rattle.lr1_base.proofs.repr.Parts.{symbols_long}
use Rattle.trace_graph.specs.Fits.{item_is_fit}
use Rattle.trace_graph.proofs.Fits.{item-below, item-within}
use Rattle.output_text.specs.table_text.Typed.{IsItem}
use Rattle.print_table.proofs.reached.Goals as goal
use Rattle.print_table.proofs.reached.Goals.{then-marked, else-marked}

-- what fits is an item's
is_item : (g : List ℕ) (m p i : ℕ) → Packed g m → item_is_fit (productions_in g m) p i ≡ true → IsItem g m p i
is_item g m p i P f =
    let below = item-below g m P p i f in
    record { production = below; index = omega (arith, item-within g m P p i f, symbols_long g m p P below) }

pub invariant_of-result : goal.invariant_of-result
invariant_of-result c = record {
  inside = c.requires;
  item = elim c.if-marked.branch [
    | then-marked w ↦ λ e. is_item _ _ _ _ c.args.grammar.packed (rw (c.word.ensures.0, c.word-2.ensures.0) at (sym w.item_fits.ensures ∙ sym w.roles-is ∙ e))
    | else-marked w ↦ λ e. absurd (cc (w.roles-is, e))
  ];
}
