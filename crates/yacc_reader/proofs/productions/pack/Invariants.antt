use Rattle.std.proofs.Common.{◌≡◌}
use mathlib.Core.Option.{some}
use lib.ListN.{length}
use Rattle.lr1_base.specs.repr.Sizes.{grammar_room}
use Rattle.yacc_syntax.specs.text.Grammar.{Layout}
use Rattle.yacc_syntax.specs.text.Parse.{parse}
use Rattle.yacc_syntax.specs.recognizer.Accepted.{mode_of}
use Rattle.yacc_reader.specs.parsed_file.Outcome.{source_in}
use Rattle.yacc_reader.specs.productions.Turn.{Small, Turn}
use Rattle.yacc_reader.proofs.productions.pack.Given as goal

abbrev pub invariant-loop-token : goal.invariant-loop-token
invariant-loop-token live = (live.token-iterator.text.now ≡ live.symbols.ids.text.now) × (length live.grammar ≡ grammar_room) × Small live.body × ((l : Layout) → parse live.symbols.ids.text.now ≡ some l → Turn (source_in l.pieces) live.symbols.ids.text.now live.grammar live.body (mode_of live.token-iterator.mode) live.token-iterator.at)
