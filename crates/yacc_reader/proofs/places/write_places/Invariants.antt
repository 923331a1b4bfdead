use mathlib.Core.Path.{◌≡◌}
use mathlib.Core.Option.{some}
use Rattle.yacc_syntax.specs.text.Grammar.{Layout}
use Rattle.yacc_syntax.specs.text.Parse.{parse}
use Rattle.yacc_syntax.specs.recognizer.Accepted.{mode_of}
use Rattle.yacc_reader.specs.parsed_file.Outcome.{source_in}
use Rattle.yacc_reader.proofs.places.Laws.{Placing}
use Rattle.yacc_reader.proofs.places.write_places.Given as goal

abbrev pub invariant-loop-token : goal.invariant-loop-token
invariant-loop-token live = (live.token-iterator.text.now ≡ live.symbols.ids.text.now) × ((l : Layout) → parse live.symbols.ids.text.now ≡ some l → Placing live.symbols.ids.text.now (source_in l.pieces) live.initial.tokens live.lefts live.tokens live.n live.m (mode_of live.token-iterator.mode) live.token-iterator.at)
