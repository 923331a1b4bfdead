use Rattle.std.proofs.Common.{ℕ, ap, ◌∙◌}
use Rattle.trace_graph.specs.declared.Node.{Node}
use Rattle.trace.proofs.edge_codes.Decoded.{shifted_number}
use Rattle.trace.proofs.edge_codes.cursor_node.Goals as goal

pub returns : goal.returns
returns c = λ n h. c.nonterminal.ensures ∙ ap (λ (m : ℕ). node m) (shifted_number _ _ _ _ _ n _ c.symbol.ensures.is c.words-number.ensures.0 h)
  where
    node : ℕ → Node
    node m = record { kind = 0; number = m; index = 0 }
