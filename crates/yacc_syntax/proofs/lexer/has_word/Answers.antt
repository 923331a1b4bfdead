use mathlib.Core.Path.{ap, ◌∙◌}
use mathlib.Core.List.{List}
use Prim.Native.Nat.{ℕ}
use lib.Dec.{eqb}
use Rattle.std.specs.List.{starts_with}
use Rattle.yacc_syntax.proofs.lexer.Runs.{rest_of, begins_is}
use Rattle.yacc_syntax.proofs.lexer.has_word.Goals as goal

pub returns : goal.returns
returns c = c.starts_with.ensures.value ∙ ap (λ (k : List ℕ). starts_with eqb k c.args.word.now) (rest_of c.args.at c.args.text.now) ∙ begins_is c.args.word.now _
