use mathlib.Core.Path.{refl}
use Rattle.yacc_reader.proofs.symbol_table.Laws.{placing_low}
use native.Mathlib.Omega.{arith}
use Rattle.yacc_reader.proofs.symbol_table.Words.place.Goals as goal

pub place-requires : goal.place-requires
place-requires c = let o = c.requires.ready.names in let w = c.requires.within in let a = w.wide in let b = w.short in record { entered = o.entered; k_in_bounds = (o.begun, o.ended, o.linked, o.names); from_le_past = (omega (arith, a), w.inside, omega (arith, b)) }

pub returns-clause-places : goal.returns-clause-places
returns-clause-places c = record {
  is = c.place.ensures;
  low = placing_low _ _ _ _ _ _ _ _ _ _ _ c.place.ensures;
  room = record { starts = c.place.auto.starts; pasts = c.place.auto.pasts; ix = c.place.auto.ix; lefts = refl; tokens = refl };
  lefts = refl;
  tokens = refl;
}
