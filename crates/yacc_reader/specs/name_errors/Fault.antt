-- Where 21 is: the first token at fault.
use Rattle.std.specs.Prelude.{ℕ, Bool, true, false, not, List, [], ◌∷◌}
use Rattle.std.proofs.Math.Option.{Option, none, some}
use Rattle.lr1_base.specs.repr.Lists.{some?}
use Rattle.yacc_syntax.specs.text.Places.{Placed}
use Rattle.yacc_syntax.specs.text.Forward.{Mode, move}
use Rattle.yacc_reader.specs.parsed_file.Events.{Event, lists, opens, defines, uses, shuts, event_of}
use Rattle.yacc_reader.specs.parsed_file.Source.{is_known, Source}
use Rattle.yacc_reader.specs.parsed_file.Outcome.{nowhere}

-- what a token says is at fault (21): a START id on no left side, a left side that is a token, an id of a body that is nowhere
unfoldable pub faulty : Source → Event → Bool
faulty S (lists x at) = false
faulty S (opens x) = not (is_known S.nonterminals x)
faulty S (defines x at) = is_known S.terminals x
faulty S (uses x from past) = nowhere S x
faulty S (shuts at) = false

-- the first byte of the first token at fault, from a mode on
unfoldable pub fault_from : Source → Mode → List Placed → Option ℕ
fault_from S m [] = none
fault_from S m (p ∷ ps) = elim (some? (faulty S) (event_of m p.token p.from p.past)) [ true ↦ some p.from | false ↦ fault_from S (move m p.token) ps ]
