use Rattle.std.proofs.Common.{ap, ◌∙◌}
use Rattle.output_text.specs.conflict_lines.Lines.{total_of_symbols, printed_length}
use Rattle.output_text.proofs.conflict_lines.ShownExample.length.Goals as goal

pub returns : goal.returns
unfolding printed_length
returns c = c.symbol_total.ensures ∙ ap total_of_symbols c.symbols.ensures
