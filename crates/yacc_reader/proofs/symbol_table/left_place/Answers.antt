use native.Mathlib.Omega.{arith}
use mathlib.Core.Path.{◌≡◌, refl, sym, ap, ◌∙◌}
use Rattle.std.proofs.Common.{rules, None}
use Rattle.yacc_reader.specs.names.Names.{held}
use Rattle.yacc_reader.proofs.symbol_table.Lookup.{found_low, left_none, left_some}
use Rattle.yacc_reader.proofs.symbol_table.left_place.Goals as goal

pub find-requires : goal.find-requires
find-requires c = let w = c.requires.from_lt_past.0 in record { entered = c.requires.entered.0; from_le_past = (omega (arith, w), c.requires.from_lt_past.1) }

pub returns-in_err-name : goal.returns-in_err-name
returns-in_err-name c =
    let n : c.from_residual.result ≡ None = search rules in
    let r = c.requires.from_lt_past in
    λ tokens ns ts H. ap held n ∙ left_none _ _ _ _ _ _ _ _ _ H _ _ r.0 r.1 _ refl (sym (ap held c.in_err-name.was) ∙ c.find.ensures)

pub number_at-requires : goal.number_at-requires
number_at-requires c = let l = found_low _ _ _ c.in_ok-name.ensures in let k = c.requires.entered.1 in omega (arith, l, k)

pub returns : goal.returns
returns c = let r = c.requires.from_lt_past in λ tokens ns ts H. left_some _ _ _ _ _ _ _ _ _ H _ _ r.0 r.1 _ refl _ c.in_ok-name.ensures _ c.number_at.ensures
