use mathlib.Core.Path.{refl}
use Rattle.yacc_reader.proofs.names.Laws.{place_old, place_new}
use Rattle.yacc_reader.proofs.names.place.Goals as goal

pub returns-in-Some : goal.returns-in-Some
returns-in-Some c = place_old _ _ _ _ _ c.args.from c.args.past _ c.in-Some.ensures _ refl

pub returns-in-None : goal.returns-in-None
returns-in-None c = place_new _ _ _ _ _ c.args.from c.args.past _ c.in-None.ensures refl _ _ _ _ c.bucket_of-bucket.ensures.0 c.enter.ensures.starts_after c.enter.ensures.pasts_after c.enter.ensures.ix_after
