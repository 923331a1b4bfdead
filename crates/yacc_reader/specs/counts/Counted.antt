-- The counts of a text's alternatives, and as the loop makes them.
use Rattle.std.specs.Prelude.{ℕ, ◌+◌, ◌≤◌, ◌<◌, true, false, List, [], map, Option as Answered, Some, None, IfSome, ltb, length}
use Rattle.std.proofs.Math.Option.{none, some}
use Rattle.lr1_base.specs.repr.Sizes.{symbol_limit}
use Rattle.table_rewrite.specs.spelling.Spelled.{size_of}
use Rattle.yacc_syntax.specs.text.Grammar.{text_limit}
use Rattle.yacc_syntax.specs.text.Places.{placed_from}
use Rattle.yacc_syntax.specs.text.Forward.{top}
use Rattle.yacc_reader.specs.parsed_file.Source.{no_id, Alternative, alternatives_from}
use Rattle.yacc_reader.specs.parsed_file.Outcome.{too_long}
use Rattle.yacc_reader.specs.events.Said.{of_said}
use Rattle.yacc_reader.specs.declared.events.Saying.{Saying}
use Rattle.yacc_reader.specs.declared.events.Saying.TheVariants.{Lists, Opens, Defines, Uses, Shuts, Nothing}
use Rattle.yacc_reader.specs.declared.counts.Counts.{Counts}
use Rattle.yacc_reader.specs.declared.counts.Tally.{Tally}

-- the first that is too long (5)
unfoldable pub long_of : List Alternative → Answered ℕ
long_of xs = elim (too_long 0 xs) [ none ↦ None | some p ↦ Some p ]

unfoldable pub counts_of : List Alternative → Counts
counts_of xs = record { alternatives = length xs; symbols = size_of (map (λ a. a.ids) xs); long = long_of xs }

abbrev pub no_counts : Counts
no_counts = record { alternatives = 0; symbols = 0; long = None }

-- of a text; zeros where something is no token
unfoldable pub counts_in : List ℕ → Counts
counts_in t = of_said no_counts (λ es. counts_of (alternatives_from no_id [] es)) (top false) (placed_from t 0)

-- as the loop makes them

unfoldable pub longer : Answered ℕ → ℕ → ℕ → Answered ℕ
longer (Some p) all body = Some p
longer None all body = elim (ltb symbol_limit body) [ true ↦ Some all | false ↦ None ]

unfoldable pub closed : Tally → Tally
closed y = record { counts = record { alternatives = y.counts.alternatives + 1; symbols = y.counts.symbols + y.body; long = longer y.counts.long y.counts.alternatives y.body }; body = 0 }

unfoldable pub tallied : Tally → Saying → Tally
tallied y Lists = y
tallied y Opens = y
tallied y Defines = record { counts = y.counts; body = 0 }
tallied y Uses = record { counts = y.counts; body = y.body + 1 }
tallied y Shuts = closed y
tallied y Nothing = y

-- nothing in it is above the bytes that were read, and the first that is too long is one of the closed
pub record Within (y : Tally) (at : ℕ) : Type 0 where
  pub alternatives : y.counts.alternatives ≤ at
  pub symbols : y.counts.symbols + y.body ≤ at
  pub long : IfSome y.counts.long (λ p. p < y.counts.alternatives)

abbrev pub Roomy : Tally → Type 0
Roomy y = Within y text_limit
