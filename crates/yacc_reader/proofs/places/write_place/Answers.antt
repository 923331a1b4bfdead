use mathlib.Core.Path.{◌≡◌, sym, ap, ◌∙◌}
use Prim.Native.Nat.{◌+◌}
use native.Mathlib.Omega.{arith}
use Rattle.yacc_reader.specs.names.Names.{held}
use Rattle.yacc_reader.proofs.places.Laws.{written_to_lem, written_in_lem, written-not}
use Rattle.yacc_reader.proofs.places.write_place.Goals as goal

pub returns-in-Some-clause-value : goal.returns-in-Some-clause-value
returns-in-Some-clause-value c =
    let h = ap held c.in-Some.is in
    let e : held c.args.number ≡ c.args.n + 1 = omega (arith, h, c.from.ensures, c.if-from-n.true) in
    sym e ∙ written_to_lem _ _ e

pub returns-in-Some-clause-places_after : goal.returns-in-Some-clause-places_after
returns-in-Some-clause-places_after c =
    let h = ap held c.in-Some.is in
    c.put.ensures ∙ written_in_lem _ _ _ _ (omega (arith, h, c.from.ensures, c.if-from-n.true))

pub returns-in_default-clause-value : goal.returns-in_default-clause-value
returns-in_default-clause-value c =
    let h = ap held c.in-Some.is in
    (written-not c.args.places.now _ _ c.args.from (λ e. omega (arith, e, h, c.from.ensures, c.if-from-n.false))).0

pub returns-in_default-clause-places_after : goal.returns-in_default-clause-places_after
returns-in_default-clause-places_after c =
    let h = ap held c.in-Some.is in
    (written-not _ _ _ _ (λ e. omega (arith, e, h, c.from.ensures, c.if-from-n.false))).1

pub returns-in_default-2-clause-value : goal.returns-in_default-2-clause-value
returns-in_default-2-clause-value c =
    let h = ap held c.in_default.is in
    (written-not c.args.places.now _ _ c.args.from (λ e. omega (arith, e, h))).0

pub returns-in_default-2-clause-places_after : goal.returns-in_default-2-clause-places_after
returns-in_default-2-clause-places_after c =
    let h = ap held c.in_default.is in
    (written-not _ _ _ _ (λ e. omega (arith, e, h))).1
