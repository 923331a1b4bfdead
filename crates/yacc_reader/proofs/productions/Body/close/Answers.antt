use mathlib.Core.Path.{refl}
use Rattle.yacc_reader.proofs.productions.Laws.{zero_body, span_small}
use native.Mathlib.Omega.{arith}
use Rattle.yacc_reader.proofs.productions.Body.close.Goals as goal

pub returns-then-self-ge-LIMIT : goal.returns-then-self-ge-LIMIT
returns-then-self-ge-LIMIT c = let t = c.if-self-ge-LIMIT.true in (c.requires.small, record { is = λ h. absurd (omega (arith, h, t)) })

pub put-requires : goal.put-requires
put-requires c = let B = c.requires.small in
    let l = c.requires.long in
    let h = c.if-self-ge-LIMIT.false in
    let s = B.symbols in record { r_lt_record_limit = (omega (arith, h), omega (arith, h, l)); a_bound = (B.owner, (omega (arith, s), rw c.unwrap_or-start.ensures (span_small _ _ _ B.span c.requires.at_bound c.requires.at_bound))) }

pub returns : goal.returns
returns c = let B = c.requires.small in
    let h = c.if-self-ge-LIMIT.false in rw (zero_body c.default.result c.default.ensures) (
      record { production = omega (arith, h); owner = B.owner; symbols = omega arith; span = tt },
      record { is = λ k. (rw c.unwrap_or-start.ensures at c.put.ensures, refl) },
    )
