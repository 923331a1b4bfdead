use native.Mathlib.Omega.{arith}
use lib.Count.{ones-le}
use mathlib.Core.Path.{sym}
use Rattle.lr1_base.proofs.lookahead.Members.{members_count}
use Rattle.lr1_base.proofs.lookahead.TokenSet.len.Goals as goal

pub overflow_cast-result : goal.overflow_cast-result
overflow_cast-result c = omega (arith, ones-le 64 c.args.self.0 (omega (arith, c.struct_known-1.given)))

pub returns : goal.returns
returns c = sym (members_count c.args.self.0 (omega (arith, c.struct_known-1.given)))
