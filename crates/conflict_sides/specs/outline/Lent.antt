-- That a side which was lent for writing is over the words that it was over: what is said of it then is said of those. Assumes nothing: these are definitions.
use Rattle.std.specs.Prelude.{◌≡◌}
use Rattle.conflict_sides.specs.declared.outline.Side.{Side}

abbrev pub SameWords : Side → Side → Type 0
SameWords s u = (u.kept.ghost_name ≡ s.kept.ghost_name) × (u.prints.ghost_name ≡ s.prints.ghost_name)
