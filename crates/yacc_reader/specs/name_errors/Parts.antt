-- The parts of 21 by themselves, as its laws have them (proofs/name_errors/Parts): the ids of bodies and the START ids from all that is said, and the names by the words of their numbers.
use Rattle.std.specs.Prelude.{ℕ, ◌+◌, Bool, true, false, ◌&&◌, ◌||◌, not, List, [], ◌∷◌, get_or, eqb}
use Rattle.lr1_base.specs.repr.Lists.{some?, joined, below}
use Rattle.yacc_syntax.specs.text.Grammar.{Id, byte_limit}
use Rattle.yacc_syntax.specs.text.Places.{placed_from}
use Rattle.yacc_syntax.specs.text.Forward.{top}
use Rattle.yacc_reader.specs.parsed_file.Events.{Event, lists, opens, defines, uses, shuts}
use Rattle.yacc_reader.specs.parsed_file.Source.{Known, is_known, start_use, Source}
use Rattle.yacc_reader.specs.parsed_file.Outcome.{nowhere}
use Rattle.yacc_reader.specs.events.Said.{of_said}
use Rattle.yacc_reader.specs.declared.events.Saying.{Saying}
use Rattle.yacc_reader.specs.declared.events.Saying.TheVariants.{Lists, Opens, Defines, Uses, Shuts, Nothing}

-- whether an id passed a test in an alternative that is closed, and in the open one
pub record Verdict : Type 0 where
  pub bad : Bool
  pub body : Bool

-- behind what a word says; w: its id passes
unfoldable pub judged : Verdict → Saying → Bool → Verdict
judged v Lists w = v
judged v Opens w = v
judged v Defines w = record { bad = v.bad; body = false }
judged v Uses w = elim w [ true ↦ record { bad = v.bad; body = true } | false ↦ v ]
judged v Shuts w = elim v.body [ true ↦ record { bad = true; body = false } | false ↦ v ]
judged v Nothing w = v

-- whether one passed in a closed alternative, at the end of all that is said
unfoldable pub verdict_of : (Id → Bool) → Verdict → List Event → Bool
verdict_of t v [] = v.bad
verdict_of t v (lists x at ∷ es) = verdict_of t v es
verdict_of t v (opens x ∷ es) = verdict_of t v es
verdict_of t v (defines x at ∷ es) = verdict_of t (judged v Defines false) es
verdict_of t v (uses x from past ∷ es) = verdict_of t (judged v Uses (t x)) es
verdict_of t v (shuts at ∷ es) = verdict_of t (judged v Shuts false) es

-- some START id is no nonterminal
unfoldable pub lost_of : List Known → List Event → Bool
lost_of ns es = some? (λ x. not (is_known ns x)) (joined start_use es)

-- name j has a number as a left side and one as a token; some name has
unfoldable pub twice : List ℕ → List ℕ → ℕ → Bool
twice lefts tokens j = not (eqb (get_or lefts j 0) 0) && not (eqb (get_or tokens (byte_limit + j) 0) 0)

unfoldable pub twice_of : List ℕ → List ℕ → ℕ → Bool
twice_of lefts tokens k = some? (twice lefts tokens) (below k)

-- 21 by its parts, of a text with the words of its names: from all that it says, and by the numbers of the first k names
unfoldable pub misnamed_by : Source → List ℕ → List ℕ → List ℕ → ℕ → Bool
misnamed_by S t lefts tokens k = of_said false (verdict_of (nowhere S) (record { bad = false; body = false })) (top false) (placed_from t 0) || (twice_of lefts tokens k || of_said true (lost_of S.nonterminals) (top false) (placed_from t 0))
