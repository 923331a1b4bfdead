use Prim.Native.Nat.{◌-◌, ◌≤◌}
use mathlib.Core.Path.{◌≡◌}
use lib.ListN.{length}
use Rattle.yacc_syntax.specs.text.Places.{placed_from}
use Rattle.yacc_syntax.proofs.lexer.next_token.Given as goal

abbrev pub invariant-loop-past : goal.invariant-loop-past
invariant-loop-past l = (l.at ≤ l.i) × (l.i ≤ length l.text) × (placed_from l.text l.at ≡ placed_from l.text l.i)

abbrev pub decreases-loop-past : goal.decreases-loop-past
decreases-loop-past l = length l.text - l.i
