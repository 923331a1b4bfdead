use Rattle.std.proofs.Common.{arith}
use Rattle.parse_words.proofs.Steps.{digit_large, digit-more}
use Rattle.parse_words.proofs.Reader.add_digit.Goals as goal

pub returns-in_err-checked_mul : goal.returns-in_err-checked_mul
returns-in_err-checked_mul c = rw c.from_residual.ensures (digit_large c.args.self c.args.value {n = c.unwrap_or.result} (cc) (omega (arith, c.in_err-checked_mul.ensures)))

pub returns-in_err-number : goal.returns-in_err-number
returns-in_err-number c = rw c.from_residual-in_err-number.ensures (digit_large c.args.self c.args.value {n = c.unwrap_or.result} (cc) (omega (arith, c.in_err-number.ensures, c.in_ok-checked_mul.ensures)))

pub returns : goal.returns
returns c = digit-more c.args.self c.args.value {n = c.unwrap_or.result} (cc) c.in_ok-number.number _ (omega (arith, c.in_ok-number.ensures, c.in_ok-checked_mul.ensures)) (omega (arith, c.in_ok-number.ensures)) c.next_column.ensures
