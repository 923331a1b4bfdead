-- What going through the words of a text gives.
use Rattle.std.specs.Prelude.{ℕ, ◌≡◌, List, [], Option as Answered, Some, None}
use Rattle.std.proofs.Math.Option.{some}
use Rattle.yacc_syntax.specs.text.Forward.{move}
use Rattle.yacc_syntax.specs.text.Places.{placed_from}
use Rattle.yacc_syntax.specs.lexer.Steps.{token_at, Leads}
use Rattle.yacc_syntax.specs.recognizer.Accepted.{mode_of}
use Rattle.yacc_reader.specs.declared.events.Token.{Token}
use Rattle.yacc_reader.specs.declared.events.TokenIter.{TokenIter}

-- of a text t: the first word from the place on, and where the others follow
pub record Reads (t : List ℕ) (s : TokenIter) (k : Token) (u : TokenIter) : Type 0 where
  pub leads : Leads t s.at k.lexeme.word k.lexeme.from k.lexeme.past
  pub in_mode : mode_of k.mode ≡ mode_of s.mode
  pub text : u.text.now ≡ t
  pub at : u.at ≡ k.lexeme.past
  pub mode : mode_of u.mode ≡ move (mode_of s.mode) (token_at t k.lexeme.word k.lexeme.from k.lexeme.past)

unfoldable pub Gives : TokenIter → Answered Token → TokenIter → Type 0
Gives s (Some k) u = Reads s.text.now s k u
Gives s None u = placed_from s.text.now s.at ≡ some []
