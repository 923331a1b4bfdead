-- The code's modes as those of module text, and the texts of the grammar, but for their length.
use Rattle.std.specs.Prelude.{ℕ, Bool, true, false, List, map}
use Rattle.std.proofs.Math.Option.{Option, none, some}
use Rattle.yacc_syntax.specs.text.Parse.{parse}
use Rattle.yacc_syntax.specs.text.Forward.{Mode, top, wanted, listed, starting, ruled, sided, bodied, done, dead, accepts}
use Rattle.yacc_syntax.specs.text.Places.{Placed}
use Rattle.yacc_syntax.specs.declared.recognizer.Mode.{Mode as Mode'}
use Rattle.yacc_syntax.specs.declared.recognizer.Mode.TheVariants.{Top, Wanted, Listed, Starting, Ruled, Sided, Bodied, Done, Dead}

abbrev pub mode_of : Mode' → Mode
mode_of (Top s) = top s
mode_of (Wanted s) = wanted s
mode_of (Listed s) = listed s
mode_of Starting = starting
mode_of Ruled = ruled
mode_of Sided = sided
mode_of Bodied = bodied
mode_of Done = done
mode_of Dead = dead

-- the tokens from a place on, read from a mode on
unfoldable pub judged : Mode → Option (List Placed) → Bool
judged m none = false
judged m (some ps) = accepts m (map (λ p. p.token) ps)

unfoldable pub is_grammar_text : List ℕ → Bool
is_grammar_text t = elim (parse t) [ none ↦ false | some l ↦ true ]
