-- That a trace's edges which were lent for writing are over the words that they were over: what is said of those then is said of the words lent.
use Rattle.std.specs.Prelude.{◌≡◌}
use Rattle.trace.specs.declared.edge_codes.EdgeCodes.{EdgeCodes}

abbrev pub SameWords : EdgeCodes → EdgeCodes → Type 0
SameWords c d = (d.words.ghost_name ≡ c.words.ghost_name) × (d.flags.ghost_name ≡ c.flags.ghost_name)
